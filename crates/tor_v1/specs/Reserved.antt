-- Paths that only padding may have.
use Rattle.std.specs.Prelude.{ℕ, Bool, false, List, [], ◌∷◌, codes}
use Rattle.std.specs.List.{list_any}
use Rattle.std.specs.Str.{bytes_eq}
use Rattle.tor_v1.specs.declared.layout.Layout.{Layout}
use Rattle.tor_v1.specs.declared.layout.Layout.TheVariants.{Joined, Aligned, AlignedTail}

-- the path begins with `.pad`, which only padding may have (BEP 47, "padding files"; profile)
abbrev pub is_reserved : List (List ℕ) → Bool
is_reserved [] = false
is_reserved (first ∷ names) = bytes_eq first (codes ".pad")

-- files that are to be aligned have such a path among them
abbrev pub takes_reserved : Layout → List (List (List ℕ) × ℕ) → Bool
takes_reserved Joined files = false
takes_reserved Aligned files = list_any (λ file. is_reserved file.0) files
takes_reserved AlignedTail files = list_any (λ file. is_reserved file.0) files

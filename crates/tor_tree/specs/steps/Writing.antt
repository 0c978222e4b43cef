-- A file tree while it is put together. Only private clauses cite this.
use Rattle.std.specs.Prelude.{◌≡◌, Bool, false, ℕ, List, [], ◌∷◌, map, drop, length, Option, IfSome}
use Rattle.tor_bencode.specs.Data.{Data}
use Rattle.tor_tree.specs.Path.{name_eq}
use Rattle.tor_tree.specs.WrittenTree.{with_properties}
use Rattle.tor_tree.specs.declared.attr.Attr.{Attr}

-- a path, `deep` names further down
abbrev pub below : ℕ → List (List ℕ) × Data → List (List ℕ) × Data
below deep file = (drop deep file.0, file.1)

abbrev pub files_below : ℕ → List (List (List ℕ) × ℕ) → List Attr → List (Option (List ℕ))
    → List (List (List ℕ) × Data)
files_below deep files attrs roots = map (below deep) (with_properties files attrs roots)

-- the name that stands `deep` names down a path
abbrev pub is_first : List ℕ → List (List ℕ) → Bool
is_first name [] = false
is_first name (n ∷ ns) = name_eq n name

abbrev pub has_name_at : ℕ → List ℕ → List (List ℕ) → Bool
has_name_at deep name path = is_first name (drop deep path)

-- a pieces root, if there is one, has 32 bytes
abbrev pub IsRoot : Option (List ℕ) → Type 0
IsRoot root = IfSome root (λ bytes. length bytes ≡ 32)

-- Paths, and their order. A path is a list of names, a name a list of bytes.
use Rattle.std.specs.Prelude.{◌≡◌, ◌≢◌, ℕ, List, [], All, Bool, None, nat_eq}
use Rattle.std.specs.Cmp.Lexicographic.{pointwise, slice_cmp}
use Rattle.std.specs.declared.cmp.Ordering.{Ordering}
use Rattle.std.specs.Ordering.{nat_cmp}
use Rattle.tor_tree.specs.Name.{name_fault}

-- names by their bytes, a beginning first
abbrev pub name_cmp : List ℕ → List ℕ → Ordering
name_cmp = slice_cmp nat_cmp

-- paths compared name by name, names by their bytes, a beginning first (BEP 52, "file tree")
abbrev pub path_cmp : List (List ℕ) → List (List ℕ) → Ordering
path_cmp = slice_cmp name_cmp

-- equal names, byte by byte
abbrev pub name_eq : List ℕ → List ℕ → Bool
name_eq = pointwise nat_eq

-- equal paths, name by name
abbrev pub path_eq : List (List ℕ) → List (List ℕ) → Bool
path_eq = pointwise name_eq

-- no name of the path is empty
abbrev pub HasNames : List (List ℕ) → Type 0
HasNames path = All (λ name. name ≢ []) path

-- what every path of a file keeps: it has names, all of them without fault
pub record IsFilePath (path : List (List ℕ)) : Type 0 where
  pub some : path ≢ []
  pub named : All (λ name. name_fault name ≡ None) path

-- The one tidy tree of a list of files, their letters and their roots (BEP 52, "file tree").
use Rattle.std.specs.Prelude.{◌≡◌, ◌≢◌, ℕ, ◌<◌, ◌↔◌, List, [], ◌∷◌, map, Option, IsSome, is_some}
use Rattle.std.specs.List.{zip}
use Rattle.tor_bencode.specs.Data.{Data, integer, string, list, dictionary, Pairs, no_pairs, pair}
use Rattle.tor_bencode.specs.Lawful.{HasRisingKeys}
use Rattle.tor_tree.specs.FileTree.{files_of_tree}
use Rattle.tor_tree.specs.Letters.{letters}
use Rattle.tor_tree.specs.Properties.{properties_for}
use Rattle.tor_tree.specs.declared.attr.Attr.{Attr}
use Rattle.tor_tree.specs.declared.tree_file.TreeFile.{TreeFile}

-- no keys but `attr`, `length` and `pieces root`: the first for a file with letters alone, the last for one that is not
-- empty
abbrev pub IsTidyFile : Data → Type 0
IsTidyFile properties =
    (attr : Attr) × (n : ℕ) × (root : Option (List ℕ)) × (properties ≡ properties_for attr n root)
    × (IsSome root ↔ (0 < n))

-- no folder below is empty
abbrev mutual
  pub IsTidy : Data → Type 0
  IsTidy (integer n) = ⊥
  IsTidy (string bytes) = ⊥
  IsTidy (list items) = ⊥
  IsTidy (dictionary pairs) = AreTidy pairs

  pub AreTidy : Pairs → Type 0
  AreTidy no_pairs = Unit {0}
  AreTidy (pair [] properties pairs) = IsTidyFile properties × AreTidy pairs
  AreTidy (pair (c ∷ cs) folder pairs) = (folder ≢ dictionary no_pairs) × IsTidy folder × AreTidy pairs

-- files with their letters and roots
abbrev pub lettered_files : List (List (List ℕ) × ℕ) → List Attr → List (Option (List ℕ)) → List TreeFile
lettered_files files attrs roots =
    map (λ f. record {
      path = f.0.0;
      length = f.0.1;
      root = f.1.1;
      has_attr = is_some (letters f.1.0);
      exec = f.1.0.exec;
      hidden = f.1.0.hidden;
    }) (zip files (zip attrs roots))

-- the tree has rising keys and is tidy, and it describes the files with their letters and roots
pub record IsFileTreeOf (files : List (List (List ℕ) × ℕ)) (attrs : List Attr) (roots : List (Option (List ℕ)))
    (tree : Data) : Type 0 where
  pub keys : HasRisingKeys tree
  pub tidy : IsTidy tree
  pub described : files_of_tree tree ≡ lettered_files files attrs roots

-- at most one tree is that of a list of files, their letters and their roots
abbrev pub AtMostOneTree : Type 0
AtMostOneTree =
    (files : List (List (List ℕ) × ℕ)) (attrs : List Attr) (roots : List (Option (List ℕ))) (one other : Data)
    → IsFileTreeOf files attrs roots one → IsFileTreeOf files attrs roots other → one ≡ other

-- a file has a root where it is not empty
abbrev pub HasItsRoot : List (List ℕ) × ℕ → Option (List ℕ) → Type 0
HasItsRoot file root = IsSome root ↔ (0 < file.1)

-- What is read of a file tree before it is judged, for the clauses of private functions.
use Rattle.std.specs.Prelude.{pos, unsigned_abs, int_lt, ℕ, ◌==◌, ◌&&◌, map, nat_lt, Bool, List, [], ◌∷◌, ◌++◌, length}
use Rattle.std.specs.Prelude.{Option, None, Some, is_none, unwrap_or, if◌then◌else◌}
use Rattle.tor_bencode.specs.Data.{Data}
use Rattle.tor_tree.specs.Properties.{are_properties, has_attr, has_letter, is_hash, pieces_root, signed_length}
use Rattle.tor_tree.specs.Properties.{letter_l, letter_x, letter_h}
use Rattle.std.specs.List.{list_any}
use Rattle.tor_tree.specs.FileList.{lengths_too_large}
use Rattle.tor_tree.specs.declared.tree_file.TreeFile.{TreeFile}
use Rattle.tor_tree.specs.declared.tree_file.TreeFault.{TreeFault}
use Rattle.tor_tree.specs.declared.tree_file.TreeFault.TheVariants as faults
use Rattle.tor_tree.specs.declared.entries.DescribedFile.{DescribedFile}
use Rattle.tor_tree.specs.declared.properties.Properties.{Properties}

-- the pieces root, if it is one of 32 bytes
abbrev pub hash_of : Data → Option (List ℕ)
hash_of file = if is_hash (pieces_root file) then pieces_root file else None

abbrev pub facts_in : Data → Properties
facts_in file = record {
  length = signed_length file;
  root = hash_of file;
  has_attr = has_attr file;
  link = has_letter letter_l file;
  exec = has_letter letter_x file;
  hidden = has_letter letter_h file;
}

abbrev pub facts_of : Data → Option Properties
facts_of file = if are_properties file then Some (facts_in file) else None

abbrev pub path_if_any : List (List ℕ) → Option (List (List ℕ))
path_if_any [] = None
path_if_any (name ∷ names) = Some (name ∷ names)

-- what is read of a file in the folder that these names lead to
abbrev pub entry_at : List (List ℕ) → List (List ℕ) × Data → DescribedFile
entry_at folder file = record { path = path_if_any (folder ++ file.0); properties = facts_in file.1 }

-- a file that is not empty has no root
abbrev pub misses_root : DescribedFile → Bool
misses_root entry = nat_lt 0 (unsigned_abs entry.properties.length) && is_none entry.properties.root

-- the first fault, past that of the shape, of a tree with these entries
abbrev pub entries_fault : List DescribedFile → Bool → Option TreeFault
entries_fault entries mixes =
    if list_any (λ entry. int_lt entry.properties.length (pos 0)) entries then Some faults.Length else (
    if length entries == 0 then Some faults.Empty else (
    if lengths_too_large (map (λ entry. unsigned_abs entry.properties.length) entries) then Some faults.TooLarge else (
    if list_any (λ entry. entry.properties.link) entries then Some faults.Symlink else (
    if mixes then Some faults.Mixed else (
    if list_any misses_root entries then Some faults.Root else None)))))

-- the file of an entry that has a path
abbrev pub file_from : DescribedFile → TreeFile
file_from entry = record {
  path = unwrap_or entry.path [];
  length = unsigned_abs entry.properties.length;
  root = if unsigned_abs entry.properties.length == 0 then None else entry.properties.root;
  has_attr = entry.properties.has_attr;
  exec = entry.properties.exec;
  hidden = entry.properties.hidden;
}

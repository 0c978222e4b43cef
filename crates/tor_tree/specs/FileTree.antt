-- File trees (BEP 52, "file tree"): dictionaries keyed by names, in which the empty key has a file's properties.
use Rattle.std.specs.Prelude.{ℕ, ◌==◌, Bool, true, false, not, ◌&&◌, ◌||◌, List, [], ◌∷◌, ◌++◌, length, map, nat_lt}
use Rattle.std.specs.Prelude.{Option, None, Some, is_none, if◌then◌else◌}
use Rattle.std.specs.List.{list_any}
use Rattle.tor_bencode.specs.Data.{Data, integer, string, list, dictionary, Pairs, no_pairs, pair, keys_of}
use Rattle.tor_tree.specs.FileList.{lengths_too_large}
use Rattle.tor_tree.specs.Name.{name_fault}
use Rattle.tor_tree.specs.Properties.{are_properties, has_attr, has_letter, has_negative_length, is_hash, length_of}
use Rattle.tor_tree.specs.Properties.{letter_l, letter_x, letter_h, pieces_root}
use Rattle.tor_tree.specs.declared.tree_file.TreeFile.{TreeFile}
use Rattle.tor_tree.specs.declared.tree_file.TreeFault.{TreeFault}
use Rattle.tor_tree.specs.declared.tree_file.TreeFault.TheVariants as faults

-- each file of a tree: its path, and its properties
abbrev pub under : List ℕ → List (List (List ℕ) × Data) → List (List (List ℕ) × Data)
under name entries = map (λ entry. (name ∷ entry.0, entry.1)) entries

abbrev mutual
  pub entries_of : Data → List (List (List ℕ) × Data)
  entries_of (integer n) = []
  entries_of (string bytes) = []
  entries_of (list items) = []
  entries_of (dictionary pairs) = entries_in pairs

  pub entries_in : Pairs → List (List (List ℕ) × Data)
  entries_in no_pairs = []
  entries_in (pair [] properties pairs) = ([], properties) ∷ entries_in pairs
  entries_in (pair (c ∷ cs) folder pairs) = under (c ∷ cs) (entries_of folder) ++ entries_in pairs

-- what an entry says of its file; an empty file has no root
abbrev pub file_of : List (List ℕ) × Data → TreeFile
file_of (path, properties) = record {
  path = path;
  length = length_of properties;
  root = if length_of properties == 0 then None else pieces_root properties;
  has_attr = has_attr properties;
  exec = has_letter letter_x properties;
  hidden = has_letter letter_h properties;
}

-- the files that a tree describes, in the order of its keys. A folder without files gives none (BEP 52, "file tree")
abbrev pub files_of_tree : Data → List TreeFile
files_of_tree tree = map file_of (entries_of tree)

abbrev pub is_dictionary : Data → Bool
is_dictionary (integer n) = false
is_dictionary (string bytes) = false
is_dictionary (list items) = false
is_dictionary (dictionary pairs) = true

-- every folder is a dictionary, every other key a name, and every empty key has properties
abbrev mutual
  pub is_folder : Data → Bool
  is_folder (integer n) = false
  is_folder (string bytes) = false
  is_folder (list items) = false
  is_folder (dictionary pairs) = are_entries pairs

  pub are_entries : Pairs → Bool
  are_entries no_pairs = true
  are_entries (pair [] properties pairs) = are_properties properties && are_entries pairs
  are_entries (pair (c ∷ cs) folder pairs) = is_none (name_fault (c ∷ cs)) && (is_folder folder && are_entries pairs)

abbrev pub has_empty_key : Pairs → Bool
has_empty_key pairs = list_any (λ key. length key == 0) (keys_of pairs)

-- some folder below has the empty key and another
abbrev mutual
  pub folder_mixes : Data → Bool
  folder_mixes (integer n) = false
  folder_mixes (string bytes) = false
  folder_mixes (list items) = false
  folder_mixes (dictionary pairs) = (has_empty_key pairs && nat_lt 1 (length (keys_of pairs))) || entries_mix pairs

  pub entries_mix : Pairs → Bool
  entries_mix no_pairs = false
  entries_mix (pair [] properties pairs) = entries_mix pairs
  entries_mix (pair (c ∷ cs) folder pairs) = folder_mixes folder || entries_mix pairs

-- the tree itself has the empty key, or a folder below has it and another
abbrev pub tree_mixes : Data → Bool
tree_mixes (integer n) = false
tree_mixes (string bytes) = false
tree_mixes (list items) = false
tree_mixes (dictionary pairs) = has_empty_key pairs || entries_mix pairs

-- a file that is not empty has no pieces root of 32 bytes
abbrev pub lacks_root : Data → Bool
lacks_root properties = nat_lt 0 (length_of properties) && not (is_hash (pieces_root properties))

abbrev pub properties_in : Data → List Data
properties_in tree = map (λ entry. entry.1) (entries_of tree)

-- what is read first of a folder has its shape: the properties of its file, or a name. No memory is taken before.
abbrev pub takes_memory_in : Pairs → Bool
takes_memory_in no_pairs = false
takes_memory_in (pair [] properties pairs) = are_properties properties
takes_memory_in (pair (c ∷ cs) folder pairs) = is_none (name_fault (c ∷ cs))

abbrev pub takes_memory : Data → Bool
takes_memory (integer n) = false
takes_memory (string bytes) = false
takes_memory (list items) = false
takes_memory (dictionary pairs) = takes_memory_in pairs

-- why a tree describes no files, the first of seven causes. There may be none (BEP 52, "file tree")
abbrev pub tree_fault : Data → Option TreeFault
tree_fault tree =
    if not (is_folder tree) then Some faults.Shape else (
    if list_any has_negative_length (properties_in tree) then Some faults.Length else (
    if length (properties_in tree) == 0 then Some faults.Empty else (
    if lengths_too_large (map length_of (properties_in tree)) then Some faults.TooLarge else (
    if list_any (has_letter letter_l) (properties_in tree) then Some faults.Symlink else (
    if tree_mixes tree then Some faults.Mixed else (
    if list_any lacks_root (properties_in tree) then Some faults.Root else None))))))

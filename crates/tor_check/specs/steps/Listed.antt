-- What is read of the v1 side before it is judged.
use Rattle.std.specs.Prelude.{ℕ, Bool, false, not, ◌&&◌, List, [], ◌∷◌, map, find, filter_map, option_map, codes}
use Rattle.std.specs.Prelude.{◌==◌, is_none, length, unsigned_abs}
use Rattle.std.specs.Prelude.{Option, None, Some, unwrap_or, if◌then◌else◌}
use Rattle.tor_bencode.specs.Data.{Data}
use Rattle.tor_spec.specs.valid.Conditions.{Condition}
use Rattle.tor_spec.specs.valid.Conditions as conditions
use Rattle.tor_spec.specs.valid.ListSide.{ListedFile, entries_of, has_list, letter_p, names_of}
use Rattle.tor_spec.specs.valid.ListSide.{list_duplicate, list_file_and_folder, list_length, list_no_files}
use Rattle.tor_spec.specs.valid.ListSide.{list_pieces, list_shape, list_symlink, list_too_large}
use Rattle.tor_spec.specs.valid.Parts.{is_list, items_of_list, name_of, part}
use Rattle.tor_tree.specs.Properties.{are_properties, has_attr, has_letter, letter_h, letter_l, letter_x}
use Rattle.tor_tree.specs.Properties.{signed_length}
use Rattle.tor_tree.specs.declared.tree_file.TreeFile.{TreeFile}
use Rattle.tor_check.specs.declared.listed.Listed.{Listed}
use Rattle.tor_check.specs.declared.marks.Marks.{Marks}

-- the length and the letters of what describes a file
abbrev pub marks_of : Data → Marks
marks_of file = record {
  length = signed_length file;
  has_attr = has_attr file;
  pad = has_letter letter_p file;
  link = has_letter letter_l file;
  exec = has_letter letter_x file;
  hidden = has_letter letter_h file;
}

abbrev pub marks_in : Data → Option Marks
marks_in file = if are_properties file then Some (marks_of file) else None

-- an entry of `files`; padding has no path of its own
abbrev pub listed_entry : Data → Listed
listed_entry entry = record {
  path = if has_letter letter_p entry then None else Some (names_of (part (codes "path") entry));
  marks = marks_of entry;
}

-- the one file of a torrent with `length`, which is no padding
abbrev pub listed_single : Data → Listed
listed_single info = record { path = Some (name_of info ∷ []); marks = marks_of info }

abbrev pub all_listed : Data → List Listed
all_listed info = if has_list info then map listed_entry (entries_of info) else listed_single info ∷ []

abbrev pub size_of_listed : Listed → ℕ
size_of_listed listed = unsigned_abs listed.marks.length

-- what it says of a file; without a path it is padding
abbrev pub file_of_listed : Listed → ListedFile
file_of_listed listed = record {
  path = unwrap_or listed.path [];
  size = size_of_listed listed;
  pad = is_none listed.path;
  has_attr = listed.marks.has_attr;
  exec = listed.marks.exec;
  hidden = listed.marks.hidden;
}

abbrev pub files_from : List Listed → List ListedFile
files_from listed = map file_of_listed listed

-- the path and the length of a file; of padding nothing
abbrev pub sized : Listed → Option (List (List ℕ) × ℕ)
sized file = option_map (λ path. (path, size_of_listed file)) file.path

-- the files without padding
abbrev pub sized_files : List Listed → List (List (List ℕ) × ℕ)
sized_files listed = filter_map sized listed

-- paths and lengths of the files of a tree
abbrev pub tree_pairs : List TreeFile → List (List (List ℕ) × ℕ)
tree_pairs files = map (λ file. (file.path, file.length)) files

-- a list that is not empty
abbrev pub lists_some : Data → Bool
lists_some value = not (length (items_of_list value) == 0)

-- what is read before an entry of `files` takes memory: it is no padding, and has a list of some texts as its path
abbrev pub takes_path : Data → Bool
takes_path entry = are_properties entry && (not (has_letter letter_p entry) && lists_some (part (codes "path") entry))

-- before the files of the v1 side do: `files` is a list, or what `length` and `attr` say has its shape
abbrev pub takes_files : Data → Bool
takes_files info = if has_list info then is_list (part (codes "files") info) else are_properties info

-- the condition holds of the v1 side
abbrev pub list_holds : Data → Condition → Bool
list_holds info conditions.FileShape = list_shape info
list_holds info conditions.FileLength = list_length info
list_holds info conditions.Duplicate = list_duplicate info
list_holds info conditions.FileAndFolder = list_file_and_folder info
list_holds info conditions.NoFiles = list_no_files info
list_holds info conditions.TooLarge = list_too_large info
list_holds info conditions.Symlink = list_symlink info
list_holds info conditions.PiecesLength = list_pieces info
list_holds info other = false

-- V8 to V17
abbrev pub side_conditions : List Condition
side_conditions =
    conditions.FileShape ∷ conditions.FileLength ∷ conditions.Duplicate ∷ conditions.FileAndFolder ∷
    conditions.NoFiles ∷ conditions.TooLarge ∷ conditions.Symlink ∷ conditions.PiecesLength ∷
    conditions.MixedNode ∷ conditions.RootHash ∷ []

-- the first of them that holds of the v1 side
abbrev pub first_of_list : Data → Option Condition
first_of_list info = find (list_holds info) side_conditions

-- the last two of them, for a side whose paths and lengths have no fault
abbrev pub first_after_sizes : Data → Option Condition
first_after_sizes info =
    if list_symlink info then Some conditions.Symlink else (
    if list_pieces info then Some conditions.PiecesLength else None)

-- The v1 side of a foreign torrent (BEP 3, "info dictionary"; BEP 47, "padding files"): what it says of its files, and
-- conditions on it.
use Rattle.std.specs.Prelude.{ℕ, ◌*◌, ◌==◌, Bool, true, false, not, ◌&&◌, ◌||◌, List, [], ◌∷◌, length, map, filter}
use Rattle.std.specs.Prelude.{sum_by, nat_lt, codes}
use Rattle.std.specs.Prelude.{Option, None, Some, is_none, if◌then◌else◌}
use Rattle.std.specs.Int.{div_ceil}
use Rattle.std.specs.List.{list_all, list_any}
use Rattle.tor_bencode.specs.Data.{Data}
use Rattle.tor_bencode.specs.Find.{value_of}
use Rattle.tor_tree.specs.FileList.{lengths_too_large, paths_nest, paths_repeat}
use Rattle.tor_tree.specs.Name.{name_fault}
use Rattle.tor_tree.specs.Properties.{are_properties, as_string, has_attr, has_letter, has_negative_length}
use Rattle.tor_tree.specs.Properties.{length_of, letter_h, letter_l, letter_x}
use Rattle.tor_merkle.specs.declared.TheConstants.{MAX_LENGTH}
use Rattle.tor_tree.specs.declared.lists.TheConstants.{MAX_TOTAL}
use Rattle.tor_spec.specs.valid.Parts.{is_list, is_string, is_there, items_of_list, name_of, part}
use Rattle.tor_spec.specs.valid.Parts.{piece_length_of, text_of}

-- the letter of `attr` for padding
abbrev pub letter_p : ℕ
letter_p = 112

-- what the v1 side says of a file, or of padding
pub record ListedFile : Type 0 where
  pub path : List (List ℕ)
  pub size : ℕ
  pub pad : Bool
  pub has_attr : Bool
  pub exec : Bool
  pub hidden : Bool

-- the names of a list of byte strings
abbrev pub names_of : Data → List (List ℕ)
names_of path = map text_of (items_of_list path)

-- the path of padding may be absent, or of any shape: it says nothing
abbrev pub entry_file : Data → ListedFile
entry_file entry = record {
  path = if has_letter letter_p entry then [] else names_of (part (codes "path") entry);
  size = length_of entry;
  pad = has_letter letter_p entry;
  has_attr = has_attr entry;
  exec = has_letter letter_x entry;
  hidden = has_letter letter_h entry;
}

-- the one file of a torrent with `length`; it is no padding, whatever its letters
abbrev pub single_file : Data → ListedFile
single_file info = record {
  path = name_of info ∷ [];
  size = length_of info;
  pad = false;
  has_attr = has_attr info;
  exec = has_letter letter_x info;
  hidden = has_letter letter_h info;
}

-- the entries of `files`; with `length` there are none
abbrev pub entries_of : Data → List Data
entries_of info = items_of_list (part (codes "files") info)

abbrev pub has_list : Data → Bool
has_list info = is_there (codes "files") info

-- all files of the v1 side, padding among them, in its order (BEP 3, "info dictionary"; BEP 47, "padding files")
abbrev pub side_files : Data → List ListedFile
side_files info = if has_list info then map entry_file (entries_of info) else single_file info ∷ []

abbrev pub without_padding : List ListedFile → List ListedFile
without_padding files = filter (λ file. not file.pad) files

abbrev pub listed_files : Data → List ListedFile
listed_files info = without_padding (side_files info)

-- the dictionaries that have a file's `length` and `attr`
abbrev pub described : Data → List Data
described info = if has_list info then entries_of info else info ∷ []

-- how many bytes joined files have, padding among them
abbrev pub joined_size : List ListedFile → ℕ
joined_size files = sum_by (λ file. file.size) files

abbrev pub side_size : Data → ℕ
side_size info = joined_size (side_files info)

-- a byte string that is a name
abbrev pub is_name : Data → Bool
is_name text = is_string text && is_none (name_fault (text_of text))

abbrev pub are_names : List Data → Bool
are_names [] = false
are_names (text ∷ texts) = list_all is_name (text ∷ texts)

-- a list of names, at least one
abbrev pub is_path : Option Data → Bool
is_path None = false
is_path (Some path) = is_list path && are_names (items_of_list path)

-- an entry without an integer `length`, with an `attr` that is no byte string, or, if it is no padding, without a path
abbrev pub is_no_entry : Data → Bool
is_no_entry entry =
    not (are_properties entry) || (not (has_letter letter_p entry) && not (is_path (value_of (codes "path") entry)))

-- V8 of the v1 side: the list, an entry or a single file has not its shape. `length` is no integer; `files` is no list;
-- an entry is none; an `attr` beside `length` is no byte string (BEP 3, "info dictionary"; BEP 47, "attr")
abbrev pub list_shape : Data → Bool
list_shape info =
    if has_list info
    then not (is_list (part (codes "files") info)) || list_any is_no_entry (entries_of info)
    else not (are_properties info)

-- V9 of the v1 side: a length is negative (BEP 3, "info dictionary")
abbrev pub list_length : Data → Bool
list_length info = list_any has_negative_length (described info)

abbrev pub listed_paths : Data → List (List (List ℕ))
listed_paths info = map (λ file. file.path) (listed_files info)

-- V10: two files have one path (profile)
abbrev pub list_duplicate : Data → Bool
list_duplicate info = paths_repeat (listed_paths info)

-- V11: the path of a file is the beginning of another's (profile)
abbrev pub list_file_and_folder : Data → Bool
list_file_and_folder info = paths_nest (listed_paths info)

-- V12 of the v1 side: there is no file but padding (profile)
abbrev pub list_no_files : Data → Bool
list_no_files info = length (listed_files info) == 0

-- a length is too large, padding's too; the rounded lengths of the files are, or all lengths together are
abbrev pub sizes_too_large : List ListedFile → Bool
sizes_too_large files =
    list_any (λ file. nat_lt MAX_LENGTH file.size) files
    || (lengths_too_large (map (λ file. file.size) (without_padding files)) || nat_lt MAX_TOTAL (joined_size files))

-- V13 of the v1 side: a length, or all together, is too large (profile)
abbrev pub list_too_large : Data → Bool
list_too_large info = sizes_too_large (side_files info)

-- V14 of the v1 side: an `attr` has the letter of a symbolic link (BEP 47, "attr"; profile)
abbrev pub list_symlink : Data → Bool
list_symlink info = list_any (has_letter letter_l) (described info)

-- it is not 20 bytes for each piece
abbrev pub is_no_sums : ℕ → Option (List ℕ) → Bool
is_no_sums count None = true
is_no_sums count (Some sums) = not (length sums == 20 * count)

abbrev pub side_piece_count : Data → ℕ
side_piece_count info = div_ceil (side_size info) (piece_length_of info)

-- V15: `pieces` is absent, no byte string, or not 20 bytes for each piece (BEP 3, "info dictionary")
abbrev pub list_pieces : Data → Bool
list_pieces info = is_no_sums (side_piece_count info) (as_string (value_of (codes "pieces") info))

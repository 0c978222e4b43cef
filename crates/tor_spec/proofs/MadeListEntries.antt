-- Entries read back from the dictionaries that the maker makes of them.
use Rattle.tor_spec.proofs.Names.{◌≡◌, ℕ, Bool, true, false, List, [], ◌∷◌, ◌++◌, map, refl, ap, ap₂, ◌∙◌, codes}
use Rattle.tor_spec.proofs.Names.{Option, None, Some, is_some, unwrap_or, ◌&&◌, ◌||◌, nat_lt, if◌then◌else◌}
use Rattle.tor_spec.proofs.Names.{AllByRecursion}
use Rattle.tor_spec.proofs.Names.{Data, dictionary, no_pairs, value_of, items_of, entry_dictionary, files_list, strings}
use Rattle.tor_spec.proofs.Names.{ListedFile, entry_file, names_of, side_files, single_file, without_padding, items_in}
use Rattle.tor_spec.proofs.Names.{items_of_list, aligned_entries, file_entry, has_bytes, pad_entry, padding_length}
use Rattle.tor_spec.proofs.Names.{v1_entries, Entry, Layout, Joined, Aligned, AlignedTail, Attr, File, attr_of}
use Rattle.tor_spec.proofs.Names.{attrs_of, length, letters, on_entries, sizes_of}

-- a file with these letters
abbrev pub listed_with : Attr → List (List ℕ) × ℕ → ListedFile
listed_with attr file = record {
  path = file.0;
  size = file.1;
  pad = false;
  has_attr = is_some (letters attr);
  exec = attr.exec;
  hidden = attr.hidden;
}

-- what the v1 side says of a file
abbrev pub listed_file : File → ListedFile
listed_file file = listed_with file.attr (file.path, length file.content)

-- what it says of an entry; padding has no letters but its own
abbrev pub listed_of : Entry → ListedFile
listed_of entry = record {
  path = if entry.pad then [] else entry.path;
  size = entry.length;
  pad = entry.pad;
  has_attr = is_some (attr_of entry);
  exec = if entry.pad then false else entry.exec;
  hidden = if entry.pad then false else entry.hidden;
}

pub items_back : (ds : List Data) → items_in (items_of ds) ≡ ds
items_back [] = refl
items_back (d ∷ ds) = ap (λ xs. d ∷ xs) (items_back ds)

names_back : (names : List (List ℕ)) → names_of (strings names) ≡ names
names_back [] = refl
names_back (name ∷ names) = ap (λ xs. name ∷ xs) (names_back names)

read_entry : (entry : Entry) (pad exec hidden : Bool)
    → entry_file (entry_dictionary (record entry { pad = pad; exec = exec; hidden = hidden }))
    ≡ listed_of (record entry { pad = pad; exec = exec; hidden = hidden })
read_entry entry true exec hidden = refl
read_entry entry false true true =
    ap (λ names. listed_with (record { exec = true; hidden = true }) (names, entry.length)) (names_back entry.path)
read_entry entry false true false =
    ap (λ names. listed_with (record { exec = true; hidden = false }) (names, entry.length)) (names_back entry.path)
read_entry entry false false true =
    ap (λ names. listed_with (record { exec = false; hidden = true }) (names, entry.length)) (names_back entry.path)
read_entry entry false false false =
    ap (λ names. listed_with (record { exec = false; hidden = false }) (names, entry.length)) (names_back entry.path)

read_entries : (entries : List Entry) → map entry_file (map entry_dictionary entries) ≡ map listed_of entries
read_entries [] = refl
read_entries (entry ∷ entries) =
    ap₂ (λ x xs. x ∷ xs) (read_entry entry entry.pad entry.exec entry.hidden) (read_entries entries)

abbrev side_at : Data → Option Data → List ListedFile
side_at info files =
    if is_some files then map entry_file (items_of_list (unwrap_or files (dictionary no_pairs)))
    else single_file info ∷ []

-- all files of a side with `files`
pub side_of_list : (info : Data) (entries : List Entry) → value_of (codes "files") info ≡ Some (files_list entries)
    → side_files info ≡ map listed_of entries
side_of_list info entries is =
    ap (side_at info) is ∙ ap (map entry_file) (items_back (map entry_dictionary entries)) ∙ read_entries entries

-- a side without `files` has one file
pub side_of_one : (info : Data) → value_of (codes "files") info ≡ None → side_files info ≡ single_file info ∷ []
side_of_one info is = ap (side_at info) is

-- the entries of files with their letters
abbrev pub made_entries : Layout → ℕ → List File → List Entry
made_entries layout p files = on_entries (attrs_of files) (v1_entries layout p (sizes_of files))

-- the files in order, where padding is left out
files_joined : (files : List File)
    → without_padding (map listed_of (on_entries (attrs_of files) (map file_entry (sizes_of files))))
    ≡ map listed_file files
unfolding on_entries
files_joined [] = refl
files_joined (file ∷ files) = ap (λ xs. listed_file file ∷ xs) (files_joined files)

no_padding : (b : Bool) (n : ℕ) (attrs : List Attr) (entries : List Entry)
    → without_padding (map listed_of (on_entries attrs ((if b then pad_entry n ∷ [] else []) ++ entries)))
    ≡ without_padding (map listed_of (on_entries attrs entries))
unfolding on_entries
no_padding true n attrs entries = refl
no_padding false n attrs entries = refl

files_aligned : (tail : Bool) (p : ℕ) (files : List File)
    → without_padding (map listed_of (on_entries (attrs_of files) (aligned_entries tail p (sizes_of files))))
    ≡ map listed_file files
unfolding aligned_entries on_entries
files_aligned tail p [] = refl
files_aligned tail p (file ∷ files) =
    let n = padding_length p (length file.content) in
    ap (λ xs. listed_file file ∷ xs)
    (no_padding (nat_lt 0 n && (tail || has_bytes (sizes_of files))) n (attrs_of files)
    (aligned_entries tail p (sizes_of files)) ∙ files_aligned tail p files)

pub files_of_entries : (layout : Layout) (p : ℕ) (files : List File)
    → without_padding (map listed_of (made_entries layout p files)) ≡ map listed_file files
files_of_entries Joined p files = files_joined files
files_of_entries Aligned p files = files_aligned false p files
files_of_entries AlignedTail p files = files_aligned true p files

-- what holds of the entry of each file, and of all padding, holds of each entry
module _ (P : Entry → Type 0) (p : ℕ) (pads : (m : ℕ) → P (pad_entry (padding_length p m))) where
  all_joined : (files : List (List (List ℕ) × ℕ)) → AllByRecursion (λ file. P (file_entry file)) files
      → AllByRecursion P (map file_entry files)
  all_joined [] h = tt
  all_joined (file ∷ files) h = (h.0, all_joined files h.1)

  all_after : (b : Bool) (m : ℕ) (entries : List Entry) → AllByRecursion P entries
      → AllByRecursion P ((if b then pad_entry (padding_length p m) ∷ [] else []) ++ entries)
  all_after true m entries h = (pads m, h)
  all_after false m entries h = h

  all_aligned : (tail : Bool) (files : List (List (List ℕ) × ℕ)) → AllByRecursion (λ file. P (file_entry file)) files
      → AllByRecursion P (aligned_entries tail p files)
  unfolding aligned_entries
  all_aligned tail [] h = tt
  all_aligned tail (file ∷ files) h = (
    h.0,
    all_after (nat_lt 0 (padding_length p file.1) && (tail || has_bytes files)) file.1 (aligned_entries tail p files)
        (all_aligned tail files h.1),
  )

  pub each_entry : (layout : Layout) (files : List (List (List ℕ) × ℕ))
      → AllByRecursion (λ file. P (file_entry file)) files → AllByRecursion P (v1_entries layout p files)
  each_entry Joined files h = all_joined files h
  each_entry Aligned files h = all_aligned false files h
  each_entry AlignedTail files h = all_aligned true files h

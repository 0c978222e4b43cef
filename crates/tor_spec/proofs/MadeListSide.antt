-- The v1 side of a made torrent has the entries of its files, also where it is of one file, and tells of them.
use Rattle.tor_spec.proofs.Names.{◌≡◌, ℕ, pos, ◌+◌, Bool, true, false, not, ◌&&◌, List, [], ◌∷◌, map, length, refl, ap}
use Rattle.tor_spec.proofs.Names.{ap₂, ◌∙◌, sym, zero-add, codes, unsigned_abs, Option, None, Some, is_some, unwrap_or}
use Rattle.tor_spec.proofs.Names.{and_from, and_right, if◌then◌else◌, Data, integer, value_of, when, File, listed}
use Rattle.tor_spec.proofs.Names.{files_list}
use Rattle.tor_spec.proofs.Names.{total_size, AreMade, sizes_of, facts_of_files, Settings, is_aligned, layout_of}
use Rattle.tor_spec.proofs.Names.{ListedFile, listed_files, side_files, single_file, without_padding, name_of, has_v1}
use Rattle.tor_spec.proofs.Names.{has_byte, as_integer, as_string, letter_h, letter_x, Kind, V1, V2, Hybrid, file_entry}
use Rattle.tor_spec.proofs.Names.{v1_entries, Layout, Joined, Aligned, AlignedTail, true≢false, AllByRecursion}
use Rattle.tor_spec.proofs.Names.{piece_layer, root_of, Attr, attrs_in, attrs_of, cond-true, each_lettered, letters}
use Rattle.tor_spec.proofs.Names.{on_entries, option_map, single_letters, string, with_attr}
use Rattle.tor_spec.proofs.MadeFacts.{attrs_made}
use Rattle.tor_spec.proofs.Names.{made_file, FileView, entry_of_file, file_of_list, has_v2, Entry}
use Rattle.tor_spec.proofs.MadeHeads.{IsInfo, name_told}
use Rattle.tor_spec.proofs.MadeListEntries.{files_of_entries, listed_file, listed_of, listed_with, made_entries}
use Rattle.tor_spec.proofs.MadeListEntries.{side_of_list, side_of_one, each_entry}

not_aligned : (kind : Kind) (layout : Layout) → (if is_aligned kind true then layout else Joined) ≡ Joined
not_aligned V1 layout = refl
not_aligned V2 layout = refl
not_aligned Hybrid layout = refl

-- one file by itself is not aligned
pub layout_of_one : (settings : Settings) → settings.single ≡ true → layout_of settings ≡ Joined
layout_of_one settings single =
    let aligned : Layout = if settings.tail then AlignedTail else Aligned in
    ap (λ one. if is_aligned settings.kind one then aligned else Joined) single ∙ not_aligned settings.kind aligned

pub listed_sizes : (p : ℕ) (files : List File) → listed (facts_of_files p files) ≡ sizes_of files
listed_sizes p [] = refl
listed_sizes p (file ∷ files) = ap (λ sizes. (file.path, length file.content) ∷ sizes) (listed_sizes p files)

-- the one file, by the values of its keys
abbrev single_at : List ℕ → Option Data → Option Data → ListedFile
single_at name size attr = record {
  path = name ∷ [];
  size = unsigned_abs (unwrap_or (as_integer size) (pos 0));
  pad = false;
  has_attr = is_some attr;
  exec = has_byte letter_x (unwrap_or (as_string attr) []);
  hidden = has_byte letter_h (unwrap_or (as_string attr) []);
}

-- what its letters say
own_letters : (name : List ℕ) (n : ℕ) (exec hidden : Bool)
    → single_at name (Some (integer (pos n))) (option_map string (letters (record { exec = exec; hidden = hidden })))
    ≡ listed_with (record { exec = exec; hidden = hidden }) (name ∷ [], n)
own_letters name n true true = refl
own_letters name n true false = refl
own_letters name n false true = refl
own_letters name n false false = refl

one_file : (p : ℕ) (files : List File) (name : List ℕ) (info : Data)
    → map (λ (file : File). file.path) files ≡ (name ∷ []) ∷ []
    → value_of (codes "length") info ≡ Some (integer (pos (total_size (facts_of_files p files))))
    → value_of (codes "attr") info ≡ option_map string (single_letters (facts_of_files p files))
    → name_of info ≡ name
    → single_file info ∷ [] ≡ map listed_of (on_entries (attrs_of files) (map file_entry (sizes_of files)))
unfolding on_entries
one_file p [] name info paths size attr named = cc
one_file p (file ∷ []) name info paths size attr named =
    let path : file.path ≡ name ∷ [] = cc in
    let letters = option_map string (letters file.attr) in
    ap (λ one. one ∷ []) (
    ap (λ value. single_at (name_of info) (value_of (codes "length") info) value) attr
    ∙ ap (λ value. single_at (name_of info) value letters) size
    ∙ ap (λ value. single_at value (Some (integer (pos (0 + length file.content)))) letters) named
    ∙ own_letters name (0 + length file.content) file.attr.exec file.attr.hidden
    ∙ ap₂ (λ path size. listed_with file.attr (path, size)) (sym path) (zero-add (length file.content)))
one_file p (file ∷ more ∷ files) name info paths size attr named = cc

module _ (settings : Settings) (files : List File) (pieces : List ℕ) (info : Data)
    (is : IsInfo settings (facts_of_files settings.piece_length files) pieces info) (made : AreMade settings files)
    (v1 : has_v1 settings.kind ≡ true) where
  -- the entries of `files`
  pub files_value : settings.single ≡ false → value_of (codes "files") info
      ≡ Some (files_list (made_entries (layout_of settings) settings.piece_length files))
  files_value several =
      let there : (has_v1 settings.kind && not settings.single) ≡ true = and_from _ _ v1 (ap not several) in
      let facts = facts_of_files settings.piece_length files in
      is.files
      ∙ ap₂ (λ c sizes. when c
      (files_list (on_entries (attrs_in facts) (v1_entries (layout_of settings) settings.piece_length sizes))))
      there (listed_sizes settings.piece_length files)
      ∙ ap (λ attrs. Some (files_list (on_entries attrs
      (v1_entries (layout_of settings) settings.piece_length (sizes_of files)))))
      (attrs_made settings.piece_length files)

  pub no_files : settings.single ≡ true → value_of (codes "files") info ≡ None
  no_files single =
      let facts = facts_of_files settings.piece_length files in
      let entries = on_entries (attrs_in facts)
      (v1_entries (layout_of settings) settings.piece_length (listed facts)) in
      let none : (has_v1 settings.kind && not settings.single) ≡ false = and_right _ _ (ap not single) in
      is.files ∙ ap (λ c. when c (files_list entries)) none

  -- the `length` of the one file
  pub size_value : settings.single ≡ true → value_of (codes "length") info
      ≡ Some (integer (pos (total_size (facts_of_files settings.piece_length files))))
  size_value single =
      let facts = facts_of_files settings.piece_length files in
      is.size ∙ ap (λ c. when c (integer (pos (total_size facts)))) (and_from _ _ v1 single)

  -- its letters
  pub attr_value : settings.single ≡ true → value_of (codes "attr") info
      ≡ option_map string (single_letters (facts_of_files settings.piece_length files))
  attr_value single =
      let told = option_map string (single_letters (facts_of_files settings.piece_length files)) in
      is.attr ∙ cond-true (has_v1 settings.kind && settings.single) told None (and_from _ _ v1 single)

  side_of_entries : settings.single ≡ false
      → side_files info ≡ map listed_of (made_entries (layout_of settings) settings.piece_length files)
  side_of_entries several =
      side_of_list info (made_entries (layout_of settings) settings.piece_length files) (files_value several)

  side_of_file : settings.single ≡ true
      → side_files info ≡ map listed_of (made_entries (layout_of settings) settings.piece_length files)
  side_of_file single =
      side_of_one info (no_files single)
      ∙ one_file settings.piece_length files settings.name info (made.single single) (size_value single)
      (attr_value single)
      (name_told settings (facts_of_files settings.piece_length files) pieces info is)
      ∙ ap (λ layout. map listed_of (made_entries layout settings.piece_length files))
      (sym (layout_of_one settings single))

  pub made_side : side_files info ≡ map listed_of (made_entries (layout_of settings) settings.piece_length files)
  made_side = by_single settings.single refl
    where
      by_single : (single : Bool) → settings.single ≡ single
          → side_files info ≡ map listed_of (made_entries (layout_of settings) settings.piece_length files)
      by_single true e = side_of_file e
      by_single false e = side_of_entries e

  pub made_listed : listed_files info ≡ map listed_file files
  made_listed = ap without_padding made_side ∙ files_of_entries (layout_of settings) settings.piece_length files

-- an entry is told as it was made
abbrev IsTold : Entry → Type 0
IsTold entry = entry_of_file (listed_of entry) ≡ entry

told_entries : (entries : List Entry) → AllByRecursion IsTold entries
    → map entry_of_file (map listed_of entries) ≡ entries
told_entries [] h = refl
told_entries (entry ∷ entries) h = ap₂ (λ one more. one ∷ more) h.0 (told_entries entries h.1)

told_files : (files : List (List (List ℕ) × ℕ)) → AllByRecursion (λ file. IsTold (file_entry file)) files
told_files [] = tt
told_files (file ∷ files) = (refl, told_files files)

-- so it is with letters
told_lettered : (attr : Attr) (entry : Entry) → entry.pad ≡ false → IsTold entry → IsTold (with_attr attr entry)
told_lettered attr entry file told = rw file refl

-- a file, with its root and layer where there is a v2 side
abbrev pub viewed : Bool → ℕ → File → FileView
viewed v2 p file = record {
  file = record {
    path = file.path;
    length = length file.content;
    root = if v2 then root_of file.content else None;
    has_attr = is_some (letters file.attr);
    exec = file.attr.exec;
    hidden = file.attr.hidden;
  };
  layer = if v2 then piece_layer file.content p else [];
}

listed_view : (p : ℕ) (files : List File) → map file_of_list (map listed_file files) ≡ map (viewed false p) files
listed_view p [] = refl
listed_view p (file ∷ files) = ap (λ more. viewed false p file ∷ more) (listed_view p files)

v1_alone : (kind : Kind) → has_v2 kind ≡ false → has_v1 kind ≡ true
v1_alone V1 e = refl
v1_alone V2 e = absurd (true≢false e)
v1_alone Hybrid e = refl

module _ (settings : Settings) (files : List File) (pieces : List ℕ) (info : Data)
    (is : IsInfo settings (facts_of_files settings.piece_length files) pieces info)
    (made : AreMade settings files) where
  -- its entries are those of the files, with their letters, padding among them
  pub entries_shown : has_v1 settings.kind ≡ true → map entry_of_file (side_files info)
      ≡ made_entries (layout_of settings) settings.piece_length files
  entries_shown v1 =
      ap (map entry_of_file) (made_side settings files pieces info is made v1)
      ∙ told_entries (made_entries (layout_of settings) settings.piece_length files)
      (each_lettered IsTold told_lettered (attrs_of files)
      (v1_entries (layout_of settings) settings.piece_length (sizes_of files))
      (each_entry IsTold settings.piece_length (λ m. refl) (layout_of settings) (sizes_of files)
      (told_files (sizes_of files))))

  -- the files where it is the only side
  pub listed_shown : has_v2 settings.kind ≡ false
      → map file_of_list (listed_files info) ≡ map (made_file settings) files
  listed_shown alone =
      ap (map file_of_list) (made_listed settings files pieces info is made (v1_alone settings.kind alone))
      ∙ listed_view settings.piece_length files
      ∙ ap (λ v2. map (viewed v2 settings.piece_length) files) (sym alone)

-- No condition of the v1 side holds of a made torrent.
use Rattle.tor_spec.proofs.Names.{◌≡◌, ℕ, pos, ◌==◌, Bool, true, false, true≢false, not, List, [], ◌∷◌, map, length}
use Rattle.tor_spec.proofs.Names.{refl, ap, ap₂, ◌∙◌, codes, None, Some, eq-eqb, or_from, recursion_from_All, div_ceil}
use Rattle.tor_spec.proofs.Names.{AllByRecursion, list_any, Data, integer, string, value_of, when, File}
use Rattle.tor_spec.proofs.Names.{entry_dictionary, files_list, AreMade, sizes_of, facts_of_files, pieces_of_files}
use Rattle.tor_spec.proofs.Names.{Settings, layout_of, ListedFile, described, is_no_entry, is_no_sums, joined_size}
use Rattle.tor_spec.proofs.Names.{listed_paths, side_piece_count, piece_length_of, IsFileList, paths_nest, paths_of}
use Rattle.tor_spec.proofs.Names.{paths_repeat, has_v1, IsFilePath, as_string, has_letter, has_negative_length}
use Rattle.tor_spec.proofs.Names.{Attr, Option, attrs_of, each_lettered, has_byte, is_none, is_some, letters}
use Rattle.tor_spec.proofs.Names.{option_map, unwrap_or, ◌||◌}
use Rattle.tor_spec.proofs.Names.{letter_l, file_entry, v1_entries, Entry, Layout, is_clear}
use Rattle.tor_spec.proofs.MadeHeads.{IsInfo, piece_length_told}
use Rattle.tor_spec.proofs.MadeListShape.{paths_listed, same_count, HasPath, are_entries, no_link}
use Rattle.tor_spec.proofs.MadeListShape.{no_negative, positive_entries}
use Rattle.tor_spec.proofs.MadeListEntries.{each_entry, items_back, made_entries}
use Rattle.tor_spec.proofs.MadeListPieces.{made_pieces}
use Rattle.tor_spec.proofs.MadeListSide.{attr_value, files_value, made_listed, made_side, no_files, size_value}
use Rattle.tor_spec.proofs.MadeListSizes.{joined_made, size_of_entries, small_side}
use Rattle.tor_spec.specs.valid.ListSide as lists

abbrev Files : Type 0
Files = List (List (List ℕ) × ℕ)

named_files : (files : Files) → AllByRecursion (λ file. IsFilePath file.0) files
    → AllByRecursion (λ file. HasPath (file_entry file)) files
named_files [] h = tt
named_files (file ∷ files) h = ((λ e. h.0), named_files files h.1)

named_entries : (layout : Layout) (p : ℕ) (files : Files) → IsFileList files
    → AllByRecursion HasPath (v1_entries layout p files)
named_entries layout p files lawful =
    each_entry HasPath p (λ m e. absurd (true≢false e)) layout files
    (named_files files (recursion_from_All (λ (file : List (List ℕ) × ℕ). IsFilePath file.0) files lawful.named))

-- no condition of the v1 side holds
pub record ListIsValid (info : Data) : Type 0 where
  pub shape : lists.list_shape info ≡ false
  pub lengths : lists.list_length info ≡ false
  pub once : lists.list_duplicate info ≡ false
  pub flat : lists.list_file_and_folder info ≡ false
  pub some : lists.list_no_files info ≡ false
  pub small : lists.list_too_large info ≡ false
  pub link : lists.list_symlink info ≡ false
  pub sums : lists.list_pieces info ≡ false

-- no condition of the dictionaries that have a `length` holds
record AreDescribed (info : Data) : Type 0 where
  shape : lists.list_shape info ≡ false
  lengths : lists.list_length info ≡ false
  link : lists.list_symlink info ≡ false

entries_described : (info : Data) (entries : List Entry) → value_of (codes "files") info ≡ Some (files_list entries)
    → AllByRecursion HasPath entries → AreDescribed info
entries_described info entries is named =
    let items = items_back (map entry_dictionary entries) in
    let all : described info ≡ map entry_dictionary entries = rw is items in
    record {
      shape = rw is (ap (list_any is_no_entry) items ∙ are_entries entries named);
      lengths = ap (list_any has_negative_length) all ∙ positive_entries entries;
      link = ap (list_any (has_letter letter_l)) all ∙ no_link entries;
    }

-- letters are a byte string, and none of them is that of a link
are_text : (text : Option (List ℕ))
    → (is_none (option_map string text) || is_some (as_string (option_map string text))) ≡ true
are_text None = refl
are_text (Some bytes) = refl

are_no_link : (exec hidden : Bool)
    → has_byte letter_l
    (unwrap_or (as_string (option_map string (letters (record { exec = exec; hidden = hidden })))) []) ≡ false
are_no_link true true = refl
are_no_link true false = refl
are_no_link false true = refl
are_no_link false false = refl

file_described : (info : Data) (n : ℕ) (attr : Attr) → value_of (codes "files") info ≡ None
    → value_of (codes "length") info ≡ Some (integer (pos n))
    → value_of (codes "attr") info ≡ option_map string (letters attr) → AreDescribed info
file_described info n attr none size told =
    let all : described info ≡ info ∷ [] = rw none refl in
    let positive : has_negative_length info ≡ false = rw size (no_negative n) in
    let no_letter : has_letter letter_l info ≡ false = rw told (are_no_link attr.exec attr.hidden) in
    record {
      shape = rw (none, size, told) (ap not (are_text (letters attr)));
      lengths = ap (list_any has_negative_length) all ∙ or_from _ _ positive refl;
      link = ap (list_any (has_letter letter_l)) all ∙ or_from _ _ no_letter refl;
    }

module _ (settings : Settings) (files : List File) (info : Data)
    (is : IsInfo settings (facts_of_files settings.piece_length files) (pieces_of_files settings files) info)
    (made : AreMade settings files) (v1 : has_v1 settings.kind ≡ true) where
  abbrev entries : List Entry
  entries = made_entries (layout_of settings) settings.piece_length files

  made_described : (single : Bool) → settings.single ≡ single → AreDescribed info
  made_described true e =
      file_described info _ _ (no_files settings files _ info is made v1 e)
      (size_value settings files _ info is made v1 e) (attr_value settings files _ info is made v1 e)
  made_described false e =
      entries_described info entries (files_value settings files _ info is made v1 e)
      (each_lettered HasPath (λ attr entry file named. named) (attrs_of files)
      (v1_entries (layout_of settings) settings.piece_length (sizes_of files))
      (named_entries (layout_of settings) settings.piece_length (sizes_of files) made.list))

  made_sums : lists.list_pieces info ≡ false
  made_sums =
      let side = made_side settings files (pieces_of_files settings files) info is made v1 in
      let long : piece_length_of info ≡ settings.piece_length = piece_length_told settings _ _ info is in
      let count : side_piece_count info ≡ div_ceil
      (size_of_entries (v1_entries (layout_of settings) settings.piece_length (sizes_of files)))
      settings.piece_length =
      ap₂ div_ceil (ap joined_size side ∙ joined_made (layout_of settings) settings.piece_length files) long in
      let sums : value_of (codes "pieces") info ≡ Some (string (pieces_of_files settings files)) =
      is.sums ∙ ap (λ there. when there (string (pieces_of_files settings files))) v1 in
      ap₂ (λ n value. is_no_sums n (as_string value)) count sums ∙ ap not (eq-eqb _ _ (made_pieces settings files))

  pub made_list : ListIsValid info
  made_list =
      let clear = is_clear (sizes_of files) made.list.faultless in
      let described = made_described settings.single refl in
      let listed = made_listed settings files (pieces_of_files settings files) info is made v1 in
      let paths : listed_paths info ≡ paths_of (sizes_of files) =
      ap (map (λ (file : ListedFile). file.path)) listed ∙ paths_listed files in
      record {
        shape = described.shape;
        lengths = described.lengths;
        once = ap paths_repeat paths ∙ clear.once;
        flat = ap paths_nest paths ∙ clear.flat;
        some = ap (λ (side : List ListedFile). length side == 0) listed
            ∙ ap (λ (n : ℕ). n == 0) (same_count files) ∙ clear.some;
        small = ap lists.sizes_too_large (made_side settings files (pieces_of_files settings files) info is made v1)
            ∙ small_side (layout_of settings) settings.piece_length files made.piece_length made.list clear;
        link = described.link;
        sums = made_sums;
      }

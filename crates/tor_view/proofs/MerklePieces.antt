-- The pieces of a v2 side, and units of files that are cut each by itself.
use Rattle.tor_view.proofs.Names.{◌≡◌, ℕ, ◌+◌, ◌-◌, ◌*◌, ◌<◌, Bool, false, ◌&&◌, leb, min, List, [], ◌∷◌, ◌++◌}
use Rattle.tor_view.proofs.Names.{length, map, take, drop, get_or, arith, refl, ap, ap₂, ◌∙◌, sym, length-append}
use Rattle.tor_view.proofs.Names.{length-drop, leb-true, drop-drop}
use Rattle.tor_view.proofs.Names.{length-map-range_with_len, div_ceil, flat_map, range_with_len, bytes_eq, run_at}
use Rattle.tor_view.proofs.Names.{lengths_of_entries, padding_before_next, separate_entry_units, file_unit}
use Rattle.tor_view.proofs.Names.{units_of_file, PlanUnit, is_there, hashes_of_file, no_file, piece_root}
use Rattle.tor_view.proofs.Names.{told_hashes, bytes_in, file_bytes, is_whole, file_pieces, is_merkle_piece}
use Rattle.tor_view.proofs.Names.{merkle_hash, merkle_pieces, told_hash, FileView, View, Entry}
use Rattle.tor_view.proofs.Names.{Label, file, entry_cases, below_from_ceil, range_same}
use Rattle.tor_view.proofs.FromIndex.{first_from, first_of, others_from}
use Rattle.tor_view.proofs.FoundBytes.{and_true, bytes_there, file_is_there, last_byte, run-file, whole_file}
use Rattle.tor_view.proofs.Judged.{and_same, get_or-judged, judged, judged-append, judged-map}

abbrev pub length_of : FileView → ℕ
length_of told = told.file.length

module _ (view : View) (contents : List (List ℕ)) (some : 0 < view.piece_length) where
  abbrev p : ℕ
  p = view.piece_length

  -- the piece is there, and has this Merkle hash
  abbrev pub has_hash : PlanUnit → List ℕ → Bool
  has_hash unit hash = is_there contents unit && bytes_eq (piece_root view contents unit) hash

  each_piece : (index : ℕ) (told : FileView) (tail k : ℕ) → get_or view.files index no_file ≡ told
      → k * p < length_of told
      → has_hash (file_unit p index (length_of told) tail k) (told_hash p told k)
      ≡ is_merkle_piece p told (get_or contents index []) k
  each_piece index told tail k here begun =
      let m = length_of told in
      let s = k * p in
      let n = min (m - s) p in
      let content = get_or contents index [] in
      let rest = drop s content in
      let run : run_at p (file_bytes m content) k ≡ file_bytes n rest = run-file s p m content in
      let whole = sym (ap is_whole run ∙ whole_file n rest ∙ last_byte s n content (omega (arith, some, begun))) in
      and_same _ _ _ _ (and_true (leb (s + n) (length content)) ∙ whole)
      (λ all.
      let last = leb-true (s + n) (length content) (sym (and_true (leb (s + n) (length content))) ∙ all) in
      let bytes : bytes_in (run_at p (file_bytes m content) k) ≡ take n rest =
      ap bytes_in (run ∙ file_is_there n rest (omega (arith, last, length-drop s content)))
      ∙ bytes_there (take n rest) in
      ap₂ (λ one xs. bytes_eq (merkle_hash p one xs) (told_hash p told k)) here (sym bytes))

  each_file : (index : ℕ) (told : FileView) (tail : ℕ) → get_or view.files index no_file ≡ told
      → judged has_hash (units_of_file p index (length_of told) tail) (hashes_of_file p told)
      ≡ file_pieces p told (get_or contents index [])
  each_file index told tail here =
      let m = length_of told in
      judged-map has_hash (file_unit p index m tail) (told_hash p told) (range_with_len 0 (div_ceil m p))
      ∙ range_same _ (is_merkle_piece p told (get_or contents index [])) (div_ceil m p)
      (λ k lt. each_piece index told tail k here (below_from_ceil m p k some lt))

  -- these units are judged by the hashes of these files, of which the first has this index
  record AreJudged (index : ℕ) (units : List PlanUnit) (files : List FileView) : Type 0 where
    same : length units ≡ length (flat_map (hashes_of_file p) files)
    pieces : merkle_pieces p files (drop index contents) ≡ judged has_hash units (flat_map (hashes_of_file p) files)

  one_more : (index m tail : ℕ) (told : FileView) (files : List FileView) (units : List PlanUnit)
      → get_or view.files index no_file ≡ told → m ≡ length_of told → AreJudged (index + 1) units files
      → AreJudged index (units_of_file p index m tail ++ units) (told ∷ files)
  one_more index m tail told files units here long rest =
      let first = units_of_file p index m tail in
      let hashes = hashes_of_file p told in
      let others = flat_map (hashes_of_file p) files in
      let count : length first ≡ length hashes =
      length-map-range_with_len (file_unit p index m tail) 0 (div_ceil m p) ∙ ap (λ n. div_ceil n p) long
      ∙ sym (length-map-range_with_len (told_hash p told) 0 (div_ceil (length_of told) p)) in
      record {
        same = length-append first units ∙ ap₂ (λ a b. a + b) count rest.same ∙ sym (length-append hashes others);
        pieces = ap₂ (λ one xs. file_pieces p told one ++ merkle_pieces p files xs) (first_from contents index)
            (others_from contents index)
            ∙ ap₂ (λ xs ys. xs ++ ys) (sym (each_file index told tail here)
            ∙ ap (λ n. judged has_hash (units_of_file p index n tail) hashes) (sym long)) rest.pieces
            ∙ sym (judged-append has_hash first units hashes others count);
      }

  of_file : (index : ℕ) (label : Label) (m : ℕ) (entries : List Entry) (files : List FileView)
      → drop index view.files ≡ files → m ∷ lengths_of_entries entries ≡ map length_of files
      → ((later : List FileView) → drop (index + 1) view.files ≡ later
      → lengths_of_entries entries ≡ map length_of later
      → AreJudged (index + 1) (separate_entry_units p (index + 1) entries) later)
      → AreJudged index (separate_entry_units p index (file label m ∷ entries)) files
  unfolding separate_entry_units
  of_file index label m entries [] from lengths rest = cc
  of_file index label m entries (told ∷ files) from lengths rest =
      let here : get_or view.files index no_file ≡ told =
      sym (first_of view.files index no_file) ∙ ap (λ xs. get_or xs 0 no_file) from in
      let after : drop (index + 1) view.files ≡ files = sym (drop-drop 1 index view.files) ∙ ap (drop 1) from in
      let long : m ≡ length_of told = cc in
      let others : lengths_of_entries entries ≡ map length_of files = cc in
      one_more index m (padding_before_next entries) told files (separate_entry_units p (index + 1) entries) here long
      (rest files after others)

  are_judged : (index : ℕ) (entries : List Entry) (files : List FileView) → drop index view.files ≡ files
      → lengths_of_entries entries ≡ map length_of files → AreJudged index (separate_entry_units p index entries) files
  unfolding separate_entry_units
  are_judged index [] [] from lengths = record { same = refl; pieces = refl }
  are_judged index [] (told ∷ files) from lengths = cc
  are_judged index (entry ∷ entries) files from lengths = entry_cases
      (λ e. lengths_of_entries (e ∷ entries) ≡ map length_of files
      → AreJudged index (separate_entry_units p index (e ∷ entries)) files)
      (λ label m same. are_judged index entries files from same)
      (λ label m same. of_file index label m entries files from same (are_judged (index + 1) entries)) entry lengths

  -- all pieces
  module _ (entries : List Entry) (lengths : lengths_of_entries entries ≡ map length_of view.files) where
    pub same_count : length (separate_entry_units p 0 entries) ≡ length (told_hashes view)
    same_count = (are_judged 0 entries view.files refl lengths).same

    pub merkle_piece : (k : ℕ) (unit : PlanUnit) → k < length (separate_entry_units p 0 entries)
        → get_or (merkle_pieces p view.files contents) k false
        ≡ has_hash (get_or (separate_entry_units p 0 entries) k unit) (get_or (told_hashes view) k [])
    merkle_piece k unit lt =
        ap (λ bits. get_or bits k false) (are_judged 0 entries view.files refl lengths).pieces
        ∙ get_or-judged has_hash (separate_entry_units p 0 entries) (told_hashes view) k unit [] same_count lt

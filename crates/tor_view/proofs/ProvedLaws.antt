-- The proofs of the laws of src/laws.rt.
use Rattle.tor_view.proofs.Names.{◌≡◌, ℕ, zero, suc, ◌+◌, ◌<◌, true, false, ◌&&◌, List, [], ◌∷◌, length, get_or}
use Rattle.tor_view.proofs.Names.{arith, refl, ap, ap₂, ◌∙◌, sym, subst, inl, inr, length-append, sum_by, cases_Bool}
use Rattle.tor_view.proofs.Names.{cond-false, cond-true, fill_by_all, length-map-range_with_len, sum_by-cons}
use Rattle.tor_view.proofs.Names.{div_ceil, flat_map, empty_unit, entries_length, PlanUnit, is_there, entries_to_cut}
use Rattle.tor_view.proofs.Names.{has_root, has_sha1, hashes_of_file, is_right, IsCut, pieces_of, right_pieces}
use Rattle.tor_view.proofs.Names.{told_hashes, is_sha1_piece, is_verified, merkle_pieces, told_hash, verified_pieces}
use Rattle.tor_view.proofs.Names.{pieces_in, FileView, View, has_v1, has_v2, Entry}
use Rattle.tor_view.proofs.MerklePieces.{has_hash, length_of, merkle_piece, same_count}
use Rattle.tor_view.proofs.PieceSides.{by_sides, count_of_joined, cut_each, IsRun, other_side, same_lengths}
use Rattle.tor_view.proofs.PieceSides.{same_sha1, some_piece, unit_is_run}
pub use Rattle.tor_view.proofs.Bitfields.{bitfields_joined}
pub use Rattle.tor_view.proofs.ValidAreCut.{valid_torrents_are_cut}

-- ---- the number of pieces

count_of_hashes : (p : ℕ) (files : List FileView)
    → length (flat_map (hashes_of_file p) files) ≡ sum_by (λ told. pieces_in p told.file.length) files
count_of_hashes p [] = refl
count_of_hashes p (told ∷ files) =
    length-append (hashes_of_file p told) (flat_map (hashes_of_file p) files)
    ∙ ap₂ (λ a b. a + b) (length-map-range_with_len (told_hash p told) 0 (pieces_in p (length_of told)))
    (count_of_hashes p files)
    ∙ sym (sum_by-cons (λ (one : FileView). pieces_in p one.file.length) told files)

pub pieces_are_counted : (view : View) → IsCut view → length (pieces_of view) ≡ view.piece_count
pieces_are_counted view cut =
    let p = view.piece_length in
    let entries = entries_to_cut view in
    let hashes = sum_by (λ (told : FileView). pieces_in p told.file.length) view.files in
    let joined = div_ceil (entries_length view.entries) p in
    elim (cases_Bool (has_v2 view.kind)) [
      | inl two ↦
          ap length (cut_each view.kind p entries two)
          ∙ same_count view [] (some_piece view.kind p cut.pieces) entries (same_lengths view cut)
          ∙ count_of_hashes p view.files
          ∙ sym (cut.count ∙ cond-true (has_v2 view.kind) hashes joined two)
      | inr none ↦
          count_of_joined view.kind p entries none
          ∙ ap (λ one. div_ceil (entries_length one) p) (cond-true (has_v1 view.kind) _ _ (other_side view.kind none))
          ∙ sym (cut.count ∙ cond-false (has_v2 view.kind) hashes joined none)
    ]

-- ---- the pieces one by one

module _ (view : View) (contents : List (List ℕ)) where
  count_of_right : (i : ℕ) (pieces : List PlanUnit) → length (right_pieces view contents i pieces) ≡ length pieces
  unfolding right_pieces
  count_of_right i [] = refl
  count_of_right i (piece ∷ pieces) = ap suc (count_of_right (i + 1) pieces)

  right_piece : (pieces : List PlanUnit) (i k : ℕ) (unit : PlanUnit) → k < length pieces
      → get_or (right_pieces view contents i pieces) k false ≡ is_right view contents (i + k) (get_or pieces k unit)
  unfolding right_pieces
  right_piece [] i k unit lt = absurd (omega (arith, lt))
  right_piece (piece ∷ pieces) i zero unit lt =
      ap (λ n. is_right view contents n piece) (let e : i ≡ i + 0 = omega arith in e)
  right_piece (piece ∷ pieces) i (suc k) unit lt =
      right_piece pieces (i + 1) k unit (omega (arith, lt))
      ∙ ap (λ n. is_right view contents n (get_or pieces k unit)) (let e : i + 1 + k ≡ i + suc k = omega arith in e)

  module _ (cut : IsCut view) (k : ℕ) (unit : PlanUnit) (lt : k < length (pieces_of view)) where
    abbrev p : ℕ
    p = view.piece_length

    abbrev piece : PlanUnit
    piece = get_or (pieces_of view) k unit

    pub by_sha1 : has_v1 view.kind ≡ true
        → (is_there contents piece && has_sha1 view contents k piece) ≡ is_sha1_piece view contents k
    by_sha1 one =
        let entries = entries_to_cut view in
        let listed : entries ≡ view.entries = cond-true (has_v1 view.kind) _ _ one in
        same_sha1 contents view k piece
        (subst (λ (some : List Entry). IsRun contents p some k piece) listed
        (unit_is_run contents view.kind p entries one (some_piece view.kind p cut.pieces) cut.entries.laid_out k unit
        lt))

    pub by_merkle : has_v2 view.kind ≡ true → (is_there contents piece && has_root view contents k piece)
        ≡ get_or (merkle_pieces p view.files contents) k false
    by_merkle two =
        let entries = entries_to_cut view in
        let same = cut_each view.kind p entries two in
        let pos = some_piece view.kind p cut.pieces in
        sym (merkle_piece view contents pos entries (same_lengths view cut) k unit
        (subst (λ (units : List PlanUnit). k < length units) same lt)
        ∙ ap (λ (units : List PlanUnit).
        has_hash view contents pos (get_or units k unit) (get_or (told_hashes view) k [])) (sym same))

    is_verified_by_unit : is_right view contents k piece ≡ is_verified view contents k
    is_verified_by_unit =
        by_sides view.kind (is_there contents piece) (has_sha1 view contents k piece) (has_root view contents k piece)
        (is_sha1_piece view contents k) (get_or (merkle_pieces p view.files contents) k false) by_sha1 by_merkle

-- whichever contents are short or missing
pub pieces_are_verified_by_units : (view : View) (contents : List (List ℕ)) → IsCut view
    → verified_pieces view contents ≡ right_pieces view contents 0 (pieces_of view)
pieces_are_verified_by_units view contents cut =
    let pieces = pieces_of view in
    let counted = pieces_are_counted view cut in
    sym (fill_by_all (is_verified view contents) (right_pieces view contents 0 pieces) view.piece_count false
    (count_of_right view contents 0 pieces ∙ counted)
    (λ k lt.
    let there : k < length pieces = omega (arith, lt, counted) in
    right_piece view contents pieces 0 k empty_unit there
    ∙ ap (λ n. is_right view contents n (get_or pieces k empty_unit)) (let e : 0 + k ≡ k = omega arith in e)
    ∙ is_verified_by_unit view contents cut k empty_unit there))

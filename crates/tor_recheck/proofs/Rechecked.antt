-- The hashes of the pieces of a plan, judged by those of the torrent, tell which pieces are there and right.
use Rattle.tor_recheck.proofs.Names.{◌≡◌, ℕ, ◌+◌, Bool, true, false, not, ◌&&◌, ◌||◌, cond, List, [], ◌∷◌, length, map}
use Rattle.tor_recheck.proofs.Names.{take, drop, get_or, Option, None, Some, refl, ap, ap₂, sym, ◌∙◌, arith, inl, inr}
use Rattle.tor_recheck.proofs.Names.{range_with_len, bytes_eq, get_or-map, cases_lt, le-leb, le-ltb, lt-leb, lt-ltb}
use Rattle.tor_recheck.proofs.Names.{drop-drop, length-map, length-map-range_with_len, hash_if_there, piece_hash}
use Rattle.tor_recheck.proofs.Names.{piece_hashes, pieces_of_plan, PieceHash, leaves, run_at, piece_level, pieces_root}
use Rattle.tor_recheck.proofs.Names.{padded_subtree, unit_content, PlanFacts, plan_of_entries, is_there, Part, PlanUnit}
use Rattle.tor_recheck.proofs.Names.{units_are_cut_into_pieces, IsCut, entries_to_cut, is_right, no_file, part_root}
use Rattle.tor_recheck.proofs.Names.{piece_root, pieces_of, right_pieces, root_of_parts, told_hashes, all_judged}
use Rattle.tor_recheck.proofs.Names.{is_found, is_told, judged, merkle_hash, verified_pieces, FileView, View, has_v1}
use Rattle.tor_recheck.proofs.Names.{has_v2, piece_sums}
use Rattle.tor_view.proofs.FromIndex.{first_of}
use Rattle.tor_view.proofs.MerklePieces.{length_of}
use Rattle.tor_view.proofs.PieceSides.{same_lengths, some_piece}
use Rattle.tor_view.proofs.ProvedLaws.{pieces_are_verified_by_units}
use Rattle.tor_merkle.specs.PieceHash as piece_hash
use Rattle.tor_engine.specs.PieceHashes as engine

-- where a torrent has a side, its hash is compared
pub told_side : (side : Bool) (hash told : List ℕ)
    → is_told (cond side (Some hash) None) told ≡ (not side || bytes_eq hash told)
told_side true hash told = refl
told_side false hash told = refl

-- the Merkle hash of a piece, by the length of its file
same_hash : (p : ℕ) (told : FileView) (bytes : List ℕ)
    → piece_hash.merkle_hash p (length_of told) bytes ≡ merkle_hash p told bytes
same_hash p told bytes =
    let small = pieces_root bytes in
    let long = padded_subtree (piece_level p) 0 (leaves bytes) in
    elim (cases_lt p (length_of told)) [
      | inl more ↦ ap (λ b. cond b small long) (lt-leb (length_of told) p more)
          ∙ sym (ap (λ b. cond b long small) (lt-ltb p (length_of told) more))
      | inr few ↦ ap (λ b. cond b small long) (le-leb (length_of told) p few)
          ∙ sym (ap (λ b. cond b long small) (le-ltb p (length_of told) few))
    ]

module _ (view : View) (contents : List (List ℕ)) (cut : IsCut view) where
  abbrev plan : PlanFacts
  plan = plan_of_entries view.kind view.piece_length 16 (entries_to_cut view)

  pub pieces_are : pieces_of_plan plan ≡ pieces_of view
  pieces_are =
      units_are_cut_into_pieces view.kind view.piece_length 16 (entries_to_cut view)
      (some_piece view.kind view.piece_length cut.pieces) (omega arith) cut.entries.laid_out

  pub count_is : length plan.lengths ≡ length view.files
  count_is = ap length (same_lengths view cut) ∙ length-map view.files length_of

  same_part : (part : Part) → engine.part_hash plan contents part ≡ part_root view contents part
  same_part part =
      let bytes = take part.length (drop part.start (get_or contents part.file [])) in
      ap (λ sizes. piece_hash.merkle_hash view.piece_length (get_or sizes part.file 0) bytes) (same_lengths view cut)
      ∙ ap (λ size. piece_hash.merkle_hash view.piece_length size bytes) (get_or-map length_of view.files part.file no_file)
      ∙ same_hash view.piece_length (get_or view.files part.file no_file) bytes

  pub same_root : (parts : List Part) → engine.hash_of_parts plan contents parts ≡ root_of_parts view contents parts
  same_root [] = refl
  same_root (part ∷ parts) = same_part part

  by_there : (b : Bool) (i : ℕ) (piece : PlanUnit) (sum root : List ℕ)
      → is_found (cond b (Some (piece_hash plan contents piece)) None) sum root
      ≡ (b && (not (has_v1 view.kind) || bytes_eq (piece_sums view.piece_length (unit_content contents piece)) sum)
      && (not (has_v2 view.kind) || bytes_eq (piece_root view contents piece) root))
  by_there true i piece sum root =
      ap₂ (λ a b. a && b)
      (told_side (has_v1 view.kind) (piece_sums view.piece_length (unit_content contents piece)) sum)
      (told_side (has_v2 view.kind) (engine.hash_of_parts plan contents piece.parts) root
      ∙ ap (λ hash. not (has_v2 view.kind) || bytes_eq hash root) (same_root piece.parts))
  by_there false i piece sum root = refl

  found_is_right : (i : ℕ) (piece : PlanUnit)
      → is_found (hash_if_there plan contents piece) (run_at 20 view.pieces i) (get_or (told_hashes view) i [])
      ≡ is_right view contents i piece
  found_is_right i piece =
      by_there (is_there contents piece) i piece (run_at 20 view.pieces i) (get_or (told_hashes view) i [])

  -- one after another
  pub judged_from : (hashes : List (Option PieceHash)) (i : ℕ) (pieces : List PlanUnit)
      → drop i hashes ≡ map (hash_if_there plan contents) pieces
      → map (judged view hashes) (range_with_len i (length pieces)) ≡ right_pieces view contents i pieces
  unfolding right_pieces
  judged_from hashes i [] from = refl
  judged_from hashes i (piece ∷ pieces) from =
      let here = sym (first_of hashes i None) ∙ ap (λ xs. get_or xs 0 None) from in
      ap₂ (λ b bs. b ∷ bs)
      (ap (λ hash. is_found hash (run_at 20 view.pieces i) (get_or (told_hashes view) i [])) here
      ∙ found_is_right i piece)
      (judged_from hashes (i + 1) pieces (sym (drop-drop 1 i hashes) ∙ ap (drop 1) from))

  pub judged_is_verified : (hashes : List (Option PieceHash)) → hashes ≡ piece_hashes plan contents
      → all_judged view hashes ≡ verified_pieces view contents
  judged_is_verified hashes are =
      let each = are ∙ ap (map (hash_if_there plan contents)) pieces_are in
      let count = ap length each ∙ length-map (pieces_of view) (hash_if_there plan contents) in
      ap (λ n. map (judged view hashes) (range_with_len 0 n)) count
      ∙ judged_from hashes 0 (pieces_of view) each
      ∙ sym (pieces_are_verified_by_units view contents cut)

-- one bit for each piece
pub count_of_judged : (view : View) (hashes : List (Option PieceHash))
    → length (all_judged view hashes) ≡ length hashes
count_of_judged view hashes = length-map-range_with_len (judged view hashes) 0 (length hashes)

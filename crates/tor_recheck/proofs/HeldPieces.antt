-- The Merkle hashes of the pieces of a plan, judged by those of the torrent, tell which pieces version 2 holds.
use Rattle.tor_recheck.proofs.Names.{◌≡◌, ℕ, ◌+◌, ◌<◌, Bool, true, false, not, ◌&&◌, ◌||◌, cond, List, [], ◌∷◌, length}
use Rattle.tor_recheck.proofs.Names.{map, drop, get_or, Option, None, Some, refl, ap, ap₂, sym, ◌∙◌, arith, inl, inr}
use Rattle.tor_recheck.proofs.Names.{sum_by, cases_Bool, cond-false, cond-true, fill_by_all, length-append, length-map}
use Rattle.tor_recheck.proofs.Names.{length-map-range_with_len, sum_by-cons, bytes_eq, hash_if_there, piece_hash}
use Rattle.tor_recheck.proofs.Names.{PieceHash, empty_unit, is_there, PlanFacts, plan_of_entries, PlanUnit}
use Rattle.tor_recheck.proofs.Names.{entries_to_cut, IsCut, piece_root, pieces_of, told_hashes, held_pieces, all_held}
use Rattle.tor_recheck.proofs.Names.{all_judged, all_merkle_judged, is_merkle_found, merkle_judged, hashes_in}
use Rattle.tor_recheck.proofs.Names.{file_pieces, is_merkle_piece, merkle_pieces, verified_pieces, pieces_in, FileView}
use Rattle.tor_recheck.proofs.Names.{View, has_v2}
use Rattle.tor_view.proofs.MerklePieces.{length_of}
use Rattle.tor_view.proofs.ProvedLaws.{by_merkle, pieces_are_counted}
use Rattle.tor_recheck.proofs.Rechecked.{judged_is_verified, pieces_are, same_root, told_side}
use Rattle.tor_engine.specs.PieceHashes as engine
use Rattle.std.proofs.lemmas.List as lists

pub count_of_merkle : (p : ℕ) (files : List FileView) (contents : List (List ℕ))
    → length (merkle_pieces p files contents) ≡ sum_by (λ told. pieces_in p told.file.length) files
count_of_merkle p [] contents = refl
count_of_merkle p (told ∷ files) contents =
    let content = get_or contents 0 [] in
    length-append (file_pieces p told content) (merkle_pieces p files (drop 1 contents))
    ∙ ap₂ (λ a b. a + b)
    (length-map-range_with_len (is_merkle_piece p told content) 0 (pieces_in p (length_of told)))
    (count_of_merkle p files (drop 1 contents))
    ∙ sym (sum_by-cons (λ (one : FileView). pieces_in p one.file.length) told files)

module _ (view : View) (contents : List (List ℕ)) (cut : IsCut view) where
  abbrev p : ℕ
  p = view.piece_length

  abbrev plan : PlanFacts
  plan = plan_of_entries view.kind p 16 (entries_to_cut view)

  found_by_there : has_v2 view.kind ≡ true → (there : Bool) (piece : PlanUnit) (root : List ℕ)
      → is_merkle_found (cond there (Some (piece_hash plan contents piece)) None) root
      ≡ (there && bytes_eq (piece_root view contents piece) root)
  found_by_there two true piece root =
      let hash = engine.hash_of_parts plan contents piece.parts in
      told_side (has_v2 view.kind) hash root
      ∙ ap (λ side. not side || bytes_eq hash root) two
      ∙ ap (λ one. bytes_eq one root) (same_root view contents cut piece.parts)
  found_by_there two false piece root = refl

  merkle_is_held : has_v2 view.kind ≡ true → (hashes : List (Option PieceHash)) → hashes ≡ hashes_in view contents
      → all_merkle_judged view hashes ≡ merkle_pieces p view.files contents
  merkle_is_held two hashes are =
      let pieces = pieces_of view in
      let each : hashes ≡ map (hash_if_there plan contents) pieces =
      are ∙ ap (map (hash_if_there plan contents)) (pieces_are view contents cut) in
      let count : length hashes ≡ length pieces =
      ap length each ∙ length-map pieces (hash_if_there plan contents) in
      let total : length (merkle_pieces p view.files contents) ≡ length hashes =
      count_of_merkle p view.files contents
      ∙ sym (count ∙ pieces_are_counted view cut ∙ cut.count ∙ cond-true (has_v2 view.kind) _ _ two) in
      sym (fill_by_all (merkle_judged view hashes) (merkle_pieces p view.files contents) (length hashes) false total
      (λ k lt.
      let there : k < length pieces = omega (arith, lt, count) in
      let piece = get_or pieces k empty_unit in
      let root = get_or (told_hashes view) k [] in
      sym (ap (λ (some : List (Option PieceHash)). is_merkle_found (get_or some k None) root) each
      ∙ ap (λ hash. is_merkle_found hash root)
      (lists.get_or-map (hash_if_there plan contents) pieces k empty_unit None there)
      ∙ found_by_there two (is_there contents piece) piece root
      ∙ by_merkle view contents cut k empty_unit there two)))

  pub judged_is_held : (hashes : List (Option PieceHash)) → hashes ≡ hashes_in view contents
      → all_held view hashes ≡ held_pieces view contents
  judged_is_held hashes are = elim (cases_Bool (has_v2 view.kind)) [
    | inl two ↦
        cond-true (has_v2 view.kind) (all_merkle_judged view hashes) (all_judged view hashes) two
        ∙ merkle_is_held two hashes are
        ∙ sym (cond-true (has_v2 view.kind) (merkle_pieces p view.files contents) (verified_pieces view contents) two)
    | inr none ↦
        cond-false (has_v2 view.kind) (all_merkle_judged view hashes) (all_judged view hashes) none
        ∙ judged_is_verified view contents cut hashes are
        ∙ sym (cond-false (has_v2 view.kind) (merkle_pieces p view.files contents) (verified_pieces view contents) none)
  ]

-- The hashes of the pieces that can be read, judged by those of the torrent, tell which are right and can be read.
use Rattle.tor_recheck.proofs.Names.{◌≡◌, ℕ, ◌<◌, Bool, true, false, ◌&&◌, cond, List, [], ◌∷◌, length, map, get_or}
use Rattle.tor_recheck.proofs.Names.{Option}
use Rattle.tor_recheck.proofs.Names.{None, refl, ap, sym, ◌∙◌, arith, inl, inr, AllByRecursion, cases_Bool}
use Rattle.tor_recheck.proofs.Names.{cond-false}
use Rattle.tor_recheck.proofs.Names.{cond-true, length-map, range_with_len, range_same, get_or-map-range_with_len}
use Rattle.tor_recheck.proofs.Names.{hash_if_there, PieceHash, pieces_of_plan, PlanUnit, empty_unit, run_at}
use Rattle.tor_recheck.proofs.Names.{IsCut, pieces_of, told_hashes, held_pieces, all_held, all_judged}
use Rattle.tor_recheck.proofs.Names.{all_merkle_judged, is_found, is_merkle_found, verified_pieces, View, has_v2}
use Rattle.tor_recheck.proofs.Names.{SourceFacts}
use Rattle.std.specs.Prelude.{is_none}
use Rattle.tor_engine.specs.PieceFault.{piece_fault}
use Rattle.tor_engine.specs.Readable.{hash_if_readable}
use Rattle.tor_recheck.specs.Readable.{contents_seen, readable_held, readable_pieces, those_readable}
use Rattle.tor_recheck.specs.steps.Hashes.{cut_plan}
use Rattle.tor_recheck.proofs.HeldPieces.{judged_is_held}
use Rattle.tor_view.proofs.ProvedLaws.{pieces_are_counted}
use Rattle.tor_recheck.proofs.Rechecked.{judged_is_verified, pieces_are}
use Rattle.std.proofs.lemmas.List as lists

pub all_more : {X : Type 0} (P Q : X → Type 0) → ((x : X) → P x → Q x) → (xs : List X) → AllByRecursion P xs
    → AllByRecursion Q xs
all_more P Q more [] all = tt
all_more P Q more (x ∷ xs) all = (more x all.0, all_more P Q more xs all.1)

and_true : (b : Bool) → b ≡ (b && true)
and_true true = refl
and_true false = refl

and_false : (b : Bool) → false ≡ (b && false)
and_false true = refl
and_false false = refl

-- judged by what says no where there is no hash
module _ (says : ℕ → Option PieceHash → Bool) (none : (i : ℕ) → says i None ≡ false) (readable : PlanUnit → Bool)
    (hash_of : PlanUnit → Option PieceHash) (pieces : List PlanUnit) where
  either : (b : Bool) (hash : Option PieceHash) (i : ℕ) → says i (cond b hash None) ≡ (says i hash && b)
  either true hash i = and_true (says i hash)
  either false hash i = none i ∙ and_false (says i hash)

  abbrev some : PlanUnit → Option PieceHash
  some piece = cond (readable piece) (hash_of piece) None

  pub judged_readable : (hashes : List (Option PieceHash)) → hashes ≡ map some pieces → (n : ℕ) → length pieces ≡ n
      → (bits : List Bool) → map (λ i. says i (get_or (map hash_of pieces) i None)) (range_with_len 0 n) ≡ bits
      → map (λ i. says i (get_or hashes i None)) (range_with_len 0 n)
      ≡ map (λ i. get_or bits i false && readable (get_or pieces i empty_unit)) (range_with_len 0 n)
  judged_readable hashes are n count bits is =
      range_same (λ i. says i (get_or hashes i None))
      (λ i. get_or bits i false && readable (get_or pieces i empty_unit)) n
      (λ i less.
      let there : i < length pieces = omega (arith, less, count) in
      let piece = get_or pieces i empty_unit in
      ap (says i) (ap (λ hs. get_or hs i None) are ∙ lists.get_or-map some pieces i empty_unit None there)
      ∙ either (readable piece) (hash_of piece) i
      ∙ ap (λ b. b && readable piece)
      (ap (says i) (sym (lists.get_or-map hash_of pieces i empty_unit None there))
      ∙ sym (get_or-map-range_with_len (λ k. says k (get_or (map hash_of pieces) k None)) 0 n i i false less
      (omega arith))
      ∙ ap (λ bs. get_or bs i false) is))

module _ {F : Type 0} (facts : SourceFacts F) (view : View) (cut : IsCut view) (hashes : List (Option PieceHash))
    (are : hashes ≡ map (hash_if_readable facts (cut_plan view) (contents_seen facts view)) (pieces_of view)) where
  abbrev contents : List (List ℕ)
  contents = contents_seen facts view

  abbrev hash_of : PlanUnit → Option PieceHash
  hash_of piece = hash_if_there (cut_plan view) contents piece

  abbrev readable : PlanUnit → Bool
  readable piece = is_none (piece_fault facts contents piece)

  abbrev all : List (Option PieceHash)
  all = map hash_of (pieces_of view)

  many : length (pieces_of view) ≡ view.piece_count
  many = pieces_are_counted view cut

  count : length hashes ≡ view.piece_count
  count = ap length are ∙ length-map (pieces_of view) (hash_if_readable facts (cut_plan view) contents) ∙ many

  count_all : length all ≡ view.piece_count
  count_all = length-map (pieces_of view) hash_of ∙ many

  are_all : all ≡ map hash_of (pieces_of_plan (cut_plan view))
  are_all = ap (map hash_of) (sym (pieces_are view contents cut))

  abbrev says_right : ℕ → Option PieceHash → Bool
  says_right i hash = is_found hash (run_at 20 view.pieces i) (get_or (told_hashes view) i [])

  pub right_readable : all_judged view hashes ≡ readable_pieces facts view
  right_readable =
      ap (λ n. map (λ i. says_right i (get_or hashes i None)) (range_with_len 0 n)) count
      ∙ judged_readable says_right (λ i. refl) readable hash_of (pieces_of view) hashes are view.piece_count many
      (verified_pieces view contents)
      (ap (λ n. map (λ i. says_right i (get_or all i None)) (range_with_len 0 n)) (sym count_all)
      ∙ judged_is_verified view contents cut all are_all)

  abbrev says_held : ℕ → Option PieceHash → Bool
  says_held i hash = is_merkle_found hash (get_or (told_hashes view) i [])

  held_all : all_held view all ≡ held_pieces view contents
  held_all = judged_is_held view contents cut all are_all

  merkle_readable : has_v2 view.kind ≡ true → all_merkle_judged view hashes ≡ readable_held facts view
  merkle_readable two =
      ap (λ n. map (λ i. says_held i (get_or hashes i None)) (range_with_len 0 n)) count
      ∙ judged_readable says_held (λ i. refl) readable hash_of (pieces_of view) hashes are view.piece_count many
      (held_pieces view contents)
      (ap (λ n. map (λ i. says_held i (get_or all i None)) (range_with_len 0 n)) (sym count_all)
      ∙ sym (cond-true (has_v2 view.kind) (all_merkle_judged view all) (all_judged view all) two) ∙ held_all)

  pub held_readable : all_held view hashes ≡ readable_held facts view
  held_readable = elim (cases_Bool (has_v2 view.kind)) [
    | inl two ↦ cond-true (has_v2 view.kind) (all_merkle_judged view hashes) (all_judged view hashes) two
        ∙ merkle_readable two
    | inr none ↦ cond-false (has_v2 view.kind) (all_merkle_judged view hashes) (all_judged view hashes) none
        ∙ right_readable
        ∙ ap (those_readable facts view)
        (sym (judged_is_verified view contents cut all are_all)
        ∙ sym (cond-false (has_v2 view.kind) (all_merkle_judged view all) (all_judged view all) none) ∙ held_all)
  ]

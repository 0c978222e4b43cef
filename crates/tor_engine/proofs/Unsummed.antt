-- Pieces whose SHA-1s are owed: each gets its own, and so does each unit of a worker.
use Rattle.std.proofs.Common.{◌≡◌, ◌+◌, ℕ, List, [], ◌∷◌, drop, length, map, take, sum_by, is_some, Option}
use Rattle.std.proofs.Common.{refl, ap, ap₂, ◌∙◌, arith, suc}
use Rattle.std.proofs.lemmas.List.{drop-take, take-take}
use Rattle.std.proofs.lemmas.List.Sums.{sum_by-cons}
use Rattle.tor_plan.specs.Pieces.{pieces_of_unit}
use Rattle.tor_plan.specs.PlanFacts.{PlanFacts}
use Rattle.tor_plan.specs.declared.units.PlanUnit.{PlanUnit}
use Rattle.tor_source.specs.Source.{SourceFacts}
use Rattle.tor_sums.specs.Contents.{contents_in}
use Rattle.tor_sums.specs.steps.Each.{SumUpEach}
use Rattle.tor_sums.specs.steps.Owing.{paid_each}
use Rattle.tor_engine.specs.PieceHashes.{hash_if_there}
use Rattle.tor_engine.specs.There.{is_within}
use Rattle.tor_engine.specs.declared.pieces.piece_hash.FoundPiece.{FoundPiece}
use Rattle.tor_engine.specs.declared.pieces.piece_hash.FoundPiece.TheVariants.{Hashed, Missing, Unsummed}
use Rattle.tor_engine.specs.declared.pieces.piece_work.UnitPieces.{UnitPieces}
use Rattle.tor_engine.specs.steps.Pieces.{AreTold, HashesPieces, hashes_in, owed_to_piece, paid_piece}
use Rattle.tor_engine.specs.steps.Unsummed.{FindsPiece, OwePieces, owed_to_pieces, paid_pieces}
use Rattle.tor_sums.proofs.PaidSums.{can_pay, paid_up}

module _ {A : Type 0} (owed : A → ℕ) (paid : A → List ℕ → A) where
  pub paid_length : (items : List A) (sums : List ℕ) → length (paid_each owed paid items sums) ≡ length items
  unfolding paid_each
  paid_length [] sums = refl
  paid_length (one ∷ items) sums = ap suc (paid_length items (drop (owed one) sums))

  -- what comes after their own is of no account
  pub paid_front : (items : List A) (sums : List ℕ)
      → paid_each owed paid items (take (sum_by owed items) sums) ≡ paid_each owed paid items sums
  unfolding paid_each
  paid_front [] sums = refl
  paid_front (one ∷ items) sums =
      let n = owed one in
      let m = sum_by owed items in
      let all = sum_by-cons owed one items in
      let front : take n (take (sum_by owed (one ∷ items)) sums) ≡ take n sums =
      ap (λ k. take n (take k sums)) all ∙ take-take n (n + m) sums (omega arith) in
      let rest : drop n (take (sum_by owed (one ∷ items)) sums) ≡ take m (drop n sums) =
      ap (λ k. drop n (take k sums)) all ∙ drop-take n m sums in
      ap₂ (λ x xs. x ∷ xs) (ap (paid one) front)
      (ap (paid_each owed paid items) rest ∙ paid_front items (drop n sums))

same_there : (found : FoundPiece) (own : List ℕ)
    → is_some (hashes_in (paid_piece found own)) ≡ is_some (hashes_in found)
same_there Missing own = refl
same_there (Hashed hashes) own = refl
same_there (Unsummed v2) own = refl

module _ {F : Type 0} (is_steady : SourceFacts F → Type 0) (plan : PlanFacts) (told : List (Option ℕ)) where
  -- its hashes are all known
  abbrev IsFound : PlanUnit → FoundPiece → Type 0
  IsFound piece found =
      ((facts : SourceFacts F) → is_steady facts → AreTold told (contents_in facts (length plan.lengths))
      → hashes_in found ≡ hash_if_there plan (contents_in facts (length plan.lengths)) piece)
      × (is_some (hashes_in found) ≡ is_within told piece)

  piece_settled : (piece : PlanUnit) (found : FoundPiece) (own : List ℕ)
      → FindsPiece is_steady plan told piece found own → IsFound piece (paid_piece found own)
  piece_settled piece found own finds = (finds.steady, same_there found own ∙ finds.there)

  pub unit_fits : (unit : PlanUnit) (one : UnitPieces) (own : List ℕ) → OwePieces is_steady plan told unit one own
      → owed_to_pieces one ≡ length own
  unit_fits unit one own =
      can_pay owed_to_piece paid_piece (FindsPiece is_steady plan told) (λ piece found own finds. finds.long)
      (pieces_of_unit plan.piece_length unit) one.pieces own

  found_hashes : (facts : SourceFacts F) → is_steady facts → AreTold told (contents_in facts (length plan.lengths))
      → (pieces : List PlanUnit) (founds : List FoundPiece) → SumUpEach IsFound pieces founds
      → map hashes_in founds ≡ map (hash_if_there plan (contents_in facts (length plan.lengths))) pieces
  unfolding SumUpEach
  found_hashes facts steady are [] [] each = refl
  found_hashes facts steady are [] (found ∷ founds) each = absurd each
  found_hashes facts steady are (piece ∷ pieces) [] each = absurd each
  found_hashes facts steady are (piece ∷ pieces) (found ∷ founds) each =
      ap₂ (λ x xs. x ∷ xs) (each.0.0 facts steady are) (found_hashes facts steady are pieces founds each.1)

  found_there : (pieces : List PlanUnit) (founds : List FoundPiece) → SumUpEach IsFound pieces founds
      → map is_some (map hashes_in founds) ≡ map (is_within told) pieces
  unfolding SumUpEach
  found_there [] [] each = refl
  found_there [] (found ∷ founds) each = absurd each
  found_there (piece ∷ pieces) [] each = absurd each
  found_there (piece ∷ pieces) (found ∷ founds) each =
      ap₂ (λ x xs. x ∷ xs) each.0.1 (found_there pieces founds each.1)

  pub unit_settled : (unit : PlanUnit) (one : UnitPieces) (own : List ℕ) → OwePieces is_steady plan told unit one own
      → HashesPieces is_steady plan told unit (map hashes_in (paid_pieces one own).pieces)
  unit_settled unit one own owes =
      let pieces = pieces_of_unit plan.piece_length unit in
      let founds = paid_each owed_to_piece paid_piece one.pieces own in
      let each = paid_up owed_to_piece paid_piece (FindsPiece is_steady plan told) (λ piece found own finds. finds.long)
      IsFound piece_settled pieces one.pieces own owes in
      record {
        steady = λ facts steady are. found_hashes facts steady are pieces founds each;
        there = found_there pieces founds each;
      }

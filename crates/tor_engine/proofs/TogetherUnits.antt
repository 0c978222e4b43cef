-- The pieces of a unit that is wholly there, and is read as one: each has its own bytes of those that were read.
use Rattle.std.proofs.Common.{◌≡◌, ◌<◌, ℕ, ◌+◌, ◌*◌, Bool, true, false, cond, List, [], drop, length, map, take}
use Rattle.std.proofs.Common.{Option, None, Some, arith, ap, ap₂, subst, sym, ◌∙◌, zero-add}
use Rattle.std.specs.Int.{div_ceil}
use Rattle.std.specs.List.{All, flat_map, range_with_len}
use Rattle.std.proofs.lemmas.List.FromFn.{get_or-map-range_with_len, length-map-range_with_len}
use Rattle.tor_merkle.specs.Block.{run_at}
use Rattle.tor_merkle.specs.Feeding.{Feeding}
use Rattle.tor_plan.specs.Content.{unit_content}
use Rattle.tor_plan.specs.Entries.{empty_unit}
use Rattle.tor_plan.specs.Pieces.{piece_of_unit, pieces_of_unit}
use Rattle.tor_plan.specs.PlanFacts.{IsPlan, PlanFacts}
use Rattle.tor_plan.specs.Positions.{positions_of_unit}
use Rattle.tor_plan.specs.WithinEntries.{IsInFile, unit_length}
use Rattle.tor_plan.specs.declared.units.PlanUnit.{PlanUnit}
use Rattle.tor_plan.proofs.ProvedLaws.{content_between, pieces_are_so_long, pieces_are_within_files}
use Rattle.tor_plan.proofs.ProvedLaws.{positions_of_pieces}
use Rattle.tor_source.specs.Source.{SourceFacts}
use Rattle.tor_tree.specs.Kinds.{has_v1, has_v2}
use Rattle.tor_v1.specs.Piece.{piece_sums}
use Rattle.tor_sums.specs.Contents.{contents_in}
use Rattle.tor_sums.specs.Fault.{first_of, unit_fault}
use Rattle.tor_sums.specs.steps.Each.{OweEach}
use Rattle.tor_sums.specs.steps.Given.{lengths_of_sizes}
use Rattle.tor_sums.specs.steps.Reads.{HaveRead}
use Rattle.tor_sums.specs.steps.Run.{TakesUnit}
use Rattle.tor_sums.proofs.FileHashes.{some_piece}
use Rattle.tor_engine.specs.PieceFault.{piece_fault}
use Rattle.tor_engine.specs.PieceHashes.{hash_of_parts, piece_hash}
use Rattle.tor_engine.specs.There.{is_within}
use Rattle.tor_engine.specs.declared.pieces.piece_hash.FoundPiece.{FoundPiece}
use Rattle.tor_engine.specs.steps.Pieces.{AreTold, IsPiece, IsUnitToHash}
use Rattle.tor_engine.specs.steps.Pieces.{unit_pieces_fault}
use Rattle.tor_engine.specs.steps.Unsummed.{FindsPiece, found_of}
use Rattle.tor_engine.proofs.OnePiece.{LengthOfSums, fault_there, found_is, is_found, long_if, owed_by}
use Rattle.tor_engine.proofs.PartsInside.{source_has_unit, told_has_unit, unit_in_told}
use Rattle.tor_engine.proofs.PositionFaults.{first_flat, found, in_unit}
use Rattle.tor_engine.proofs.ToldContents.{within_is_there}
use Rattle.tor_engine.proofs.TogetherRanges.{first_same, flat_none, owe_range, run_length, sums_by_run}

module _ (plan : PlanFacts) (planned : IsPlan plan) (told : List (Option ℕ)) (unit : PlanUnit)
    (is : IsUnitToHash plan unit) (there : is_within told unit ≡ true) where
  abbrev p : ℕ
  p = plan.piece_length

  abbrev count : ℕ
  count = div_ceil (unit_length unit) p

  abbrev piece : ℕ → PlanUnit
  piece k = piece_of_unit p unit k

  some : 0 < p
  some = some_piece plan.kind p planned.pieces

  in_told : All (IsInFile (lengths_of_sizes told)) unit.parts
  in_told = unit_in_told told plan.lengths unit is.within.parts there

  pub piece_is : (k : ℕ) → k < count → IsPiece plan (piece k)
  unfolding pieces_of_unit
  piece_is k less =
      subst (λ (u : PlanUnit). IsPiece plan u)
      (get_or-map-range_with_len (piece_of_unit p unit) 0 count k k empty_unit less (zero-add k))
      (is.pieces k empty_unit
      (omega (arith, less, length-map-range_with_len (piece_of_unit p unit) 0 count)))

  within : (k : ℕ) → is_within told (piece k) ≡ true
  within k = told_has_unit told (piece k) (pieces_are_within_files (lengths_of_sizes told) p k unit in_told).parts

  -- ---- the faults: the bytes of the pieces, one piece after the other, are those of the unit

  pub fault_together : {F : Type 0} (facts : SourceFacts F) (contents : List (List ℕ)) → AreTold told contents
      → unit_pieces_fault facts plan contents unit ≡ unit_fault facts unit
  unfolding pieces_of_unit
  fault_together facts contents are =
      first_same (piece_fault facts contents) (unit_fault facts) (piece_of_unit p unit) 0 count
      (λ k from to.
      sym (fault_there facts contents (piece k)
      (sym (within_is_there told contents are (piece k)) ∙ within k)))
      ∙ sym (first_flat (found facts) positions_of_unit (unit_fault facts)
      (map (piece_of_unit p unit) (range_with_len 0 count)) (in_unit facts))
      ∙ ap (first_of (found facts)) (positions_of_pieces p some unit)
      ∙ in_unit facts unit

  -- ---- what is found

  module _ {F : Type 0} (is_steady : SourceFacts F → Type 0) (sums_law : LengthOfSums) (tree : Option Feeding)
      (own : List ℕ) (took : TakesUnit is_steady plan unit tree own) where
    abbrev sum : ℕ → List ℕ
    sum k = cond (has_v1 plan.kind) (piece_sums p (run_at p took.joined k)) []

    owed_is : own ≡ flat_map sum (range_with_len 0 count)
    owed_is = took.is_own ∙ by_kind (has_v1 plan.kind)
      where
        by_kind : (b : Bool) → cond b (piece_sums p took.joined) []
            ≡ flat_map (λ k. cond b (piece_sums p (run_at p took.joined k)) []) (range_with_len 0 count)
        by_kind true =
            sums_by_run p took.joined some
            ∙ ap (λ n. flat_map (λ k. piece_sums p (run_at p took.joined k)) (range_with_len 0 (div_ceil n p)))
            took.long
        by_kind false = flat_none (range_with_len 0 count)

    -- if these are their Merkle hashes, where the kind has them
    module _ (v2 : ℕ → Option (List ℕ))
        (hashes : (contents : List (List ℕ)) → HaveRead contents took.reads → (k : ℕ) → k < count
        → v2 k ≡ cond (has_v2 plan.kind) (Some (hash_of_parts plan contents (piece k).parts)) None) where
      finds : (k : ℕ) → k < count → FindsPiece is_steady plan told (piece k) (found_of plan.kind (v2 k)) (sum k)
      finds k less = record {
        steady = λ facts steady are.
            let contents = contents_in facts (length plan.lengths) in
            let here = sym (within_is_there told contents are unit) ∙ there in
            let have = took.are.steady facts steady (source_has_unit facts plan unit is.within.parts here) in
            let inside = subst (λ (lengths : List ℕ). All (IsInFile lengths) unit.parts) are in_told in
            let all = unit_content contents unit in
            let next : (k + 1) * p ≡ k * p + p = omega arith in
            let content : unit_content contents (piece k) ≡ run_at p took.joined k =
            content_between contents (k * p) ((k + 1) * p) unit inside
            ∙ ap₂ (λ n j. take n (drop j all)) (omega (arith, next)) (omega arith)
            ∙ ap (λ xs. run_at p xs k) (took.same contents have) in
            let piece_there = sym (within_is_there told contents are (piece k)) ∙ within k in
            let sums = piece_sums p (unit_content contents (piece k)) in
            let v1 = cond (has_v1 plan.kind) (Some sums) None in
            found_is (has_v1 plan.kind) (v2 k) (sum k) sums
            (ap (λ xs. cond (has_v1 plan.kind) (piece_sums p xs) []) (sym content))
            ∙ ap (λ (hash : Option (List ℕ)). Some (record { v1 = v1; v2 = hash })) (hashes contents have k less)
            ∙ sym (ap (λ b. cond b (Some (piece_hash plan contents (piece k))) None) piece_there);
        there = is_found (has_v1 plan.kind) (v2 k) ∙ sym (within k);
        long =
            let long : length (run_at p took.joined k) ≡ unit_length (piece k) =
            omega (arith, run_length p k took.joined, took.long, pieces_are_so_long p k unit) in
            owed_by (has_v1 plan.kind) (v2 k)
            ∙ long_if sums_law plan (piece k) (piece_is k less) (run_at p took.joined k) long (has_v1 plan.kind);
      }

      pub owe_together : (founds : List FoundPiece)
          → founds ≡ map (λ k. found_of plan.kind (v2 k)) (range_with_len 0 count)
          → OweEach (FindsPiece is_steady plan told) (pieces_of_unit p unit) founds own
      unfolding pieces_of_unit
      owe_together founds are =
          subst (λ (sums : List ℕ). OweEach (FindsPiece is_steady plan told) (pieces_of_unit p unit) founds sums)
          (sym owed_is)
          (subst (λ (ones : List FoundPiece). OweEach (FindsPiece is_steady plan told) (pieces_of_unit p unit)
          ones (flat_map sum (range_with_len 0 count))) (sym are)
          (owe_range (FindsPiece is_steady plan told) (piece_of_unit p unit)
          (λ k. found_of plan.kind (v2 k)) sum 0 count (λ k from to. finds k (omega (arith, to)))))

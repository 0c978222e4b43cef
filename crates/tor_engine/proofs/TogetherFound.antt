-- What is found of the pieces of a unit that were hashed together.
use Rattle.std.proofs.Common.{◌≡◌, ◌<◌, ℕ, true, false, cond, List, [], ◌∷◌, length, map}
use Rattle.std.proofs.Common.{get_or, replicate, Option, None, Some, append-nil, inl, inr}
use Rattle.std.proofs.Common.{refl, ap, subst, sym, ◌∙◌}
use Rattle.std.specs.Int.{div_ceil}
use Rattle.std.specs.List.{flat_map, range_with_len}
use Rattle.std.proofs.lemmas.Bool.{cases_Bool, lt-leb}
use Rattle.std.proofs.lemmas.List.Elements.{recursion_from_All}
use Rattle.tor_merkle.specs.Block.{leaves, run_at}
use Rattle.tor_merkle.specs.Feeding.{Feeding}
use Rattle.tor_merkle.specs.Layer.{piece_level, piece_roots, pieces_root}
use Rattle.tor_merkle.specs.Stack.{padded_subtree}
use Rattle.tor_plan.specs.Pieces.{piece_of_unit, pieces_of_unit}
use Rattle.tor_plan.specs.PlanFacts.{IsPlan, PlanFacts}
use Rattle.tor_plan.specs.WithinEntries.{IsInFile, unit_length}
use Rattle.tor_plan.specs.declared.units.Part.{Part}
use Rattle.tor_plan.specs.declared.units.PlanUnit.{PlanUnit}
use Rattle.tor_source.specs.Source.{SourceFacts}
use Rattle.tor_tree.specs.Kinds.{has_v2}
use Rattle.tor_sums.specs.steps.Each.{OweEach}
use Rattle.tor_sums.specs.steps.Hashes.{bytes_of_part}
use Rattle.tor_sums.specs.steps.Reads.{HaveRead}
use Rattle.tor_sums.specs.steps.Run.{IsOnePart, TakesUnit}
use Rattle.tor_sums.proofs.FileHashes.{allowed_with_trees, some_piece}
use Rattle.tor_sums.proofs.UnitNodes.{have_one}
use Rattle.tor_merkle.specs.PieceHash.{merkle_hash}
use Rattle.tor_engine.specs.PieceHashes.{hash_of_parts}
use Rattle.tor_engine.specs.declared.pieces.piece_hash.FoundPiece.{FoundPiece}
use Rattle.tor_engine.specs.steps.Pieces.{IsUnitToHash}
use Rattle.tor_engine.specs.steps.Unsummed.{FindsPiece, IsTogether, found_of}
use Rattle.tor_engine.proofs.OnePiece.{LengthOfSums}
use Rattle.tor_engine.proofs.TogetherPieces.{alone, begins, counted, piece_range, range_bytes}
use Rattle.tor_engine.proofs.TogetherRanges.{map_twice, roots_by_run, same_each}
use Rattle.tor_engine.proofs.TogetherUnits.{owe_together, piece_is}

-- ---- the pieces of a unit that is one part of a file with trees

module _ (plan : PlanFacts) (planned : IsPlan plan) (told : List (Option ℕ)) (trees : has_v2 plan.kind ≡ true)
    (part : Part) (is : IsUnitToHash plan (alone part)) (together : IsTogether plan told (alone part)) where
  abbrev p : ℕ
  p = plan.piece_length

  abbrev count : ℕ
  count = div_ceil (unit_length (alone part)) p

  abbrev piece : ℕ → PlanUnit
  piece k = piece_of_unit p (alone part) k

  some : 0 < p
  some = some_piece plan.kind p planned.pieces

  in_file : IsInFile plan.lengths part
  in_file = (recursion_from_All (IsInFile plan.lengths) (part ∷ []) is.within.parts).0

  each : (k : ℕ) → k < count → (other : Part) × ((piece k).parts ≡ other ∷ [])
  each k less =
      let one = (piece_is plan planned told (alone part) is together.there k less).unit.alone trees in
      (one.0, ap (λ (u : PlanUnit). u.parts) one.1)

  module _ {F : Type 0} (is_steady : SourceFacts F → Type 0) (sums_law : LengthOfSums) (tree : Option Feeding)
      (own : List ℕ) (took : TakesUnit is_steady plan (alone part) tree own) where
    abbrev feeding : List ℕ → Feeding
    feeding bytes = record { piece_length = p; bytes = bytes }

    abbrev given : (contents : List (List ℕ)) × HaveRead contents took.reads
        × (length (bytes_of_part contents part) ≡ part.length)
    given = have_one part took.reads took.are.each took.are.whole

    abbrev bytes : List ℕ
    bytes = bytes_of_part given.0 part

    tree_of : (contents : List (List ℕ)) → HaveRead contents took.reads
        → tree ≡ Some (feeding (bytes_of_part contents part))
    tree_of contents have =
        took.trees contents have
        ∙ ap (λ b. cond b (Some (feeding (flat_map (bytes_of_part contents) (part ∷ [])))) None) trees
        ∙ ap (λ xs. Some (feeding xs)) (append-nil (bytes_of_part contents part))

    same_bytes : (contents : List (List ℕ)) → HaveRead contents took.reads → bytes_of_part contents part ≡ bytes
    same_bytes contents have =
        let both : Some (feeding (bytes_of_part contents part)) ≡ Some (feeding bytes) =
        sym (tree_of contents have) ∙ tree_of given.0 given.1 in
        let alike : feeding (bytes_of_part contents part) ≡ feeding bytes = cc in
        ap (λ (f : Feeding). f.bytes) alike

    abbrev root : ℕ → List ℕ
    root k = padded_subtree (piece_level p) 0 (leaves (run_at p bytes k))

    hash_is : (contents : List (List ℕ)) → HaveRead contents took.reads → (k : ℕ) → k < count
        → Some (root k) ≡ cond (has_v2 plan.kind) (Some (hash_of_parts plan contents (piece k).parts)) None
    hash_is contents have k less =
        let at = piece_range p part some in_file.some each k less in
        let other = at.0 in
        let size = get_or plan.lengths part.file 0 in
        let own_bytes = bytes_of_part contents other in
        let hash : hash_of_parts plan contents (piece k).parts ≡ root k =
        ap (hash_of_parts plan contents) at.1
        ∙ ap (λ file. merkle_hash p (get_or plan.lengths file 0) own_bytes) at.2.file
        ∙ ap (λ b. cond b (pieces_root own_bytes) (padded_subtree (piece_level p) 0 (leaves own_bytes)))
        (lt-leb size p (together.long trees part refl))
        ∙ ap (λ xs. padded_subtree (piece_level p) 0 (leaves xs))
        (range_bytes contents p k part other at.2 (begins p part some in_file.some each k less)
        ∙ ap (λ xs. run_at p xs k) (same_bytes contents have)) in
        ap Some (sym hash) ∙ sym (ap (λ b. cond b (Some (hash_of_parts plan contents (piece k).parts)) None) trees)

    pub owe_alone : (founds : List FoundPiece)
        → ((fed : Feeding) → tree ≡ Some fed
        → founds ≡ map (λ root. found_of plan.kind (Some root)) (piece_roots fed.bytes fed.piece_length))
        → OweEach (FindsPiece is_steady plan told) (pieces_of_unit p (alone part)) founds own
    owe_alone founds are =
        owe_together plan planned told (alone part) is together.there is_steady sums_law tree own took
        (λ k. Some (root k)) hash_is founds
        (are (feeding bytes) (tree_of given.0 given.1)
        ∙ ap (map (λ root. found_of plan.kind (Some root)))
        (roots_by_run p bytes some (allowed_with_trees plan.kind p planned.pieces trees)
        ∙ ap (λ n. map root (range_with_len 0 n))
        (ap (λ n. div_ceil n p) given.2 ∙ counted p part some in_file.some each))
        ∙ map_twice (λ root. found_of plan.kind (Some root)) root (range_with_len 0 count))

-- ---- so of any unit that can be hashed so: it is such a part, or its pieces have no Merkle hash

module _ (plan : PlanFacts) (planned : IsPlan plan) (told : List (Option ℕ)) (unit : PlanUnit)
    (is : IsUnitToHash plan unit) (together : IsTogether plan told unit) where
  pub owe_unit : {F : Type 0} (is_steady : SourceFacts F → Type 0) (sums_law : LengthOfSums) (tree : Option Feeding)
      (own : List ℕ) → TakesUnit is_steady plan unit tree own → (founds : List FoundPiece)
      → (has_v2 plan.kind ≡ true → (fed : Feeding) → tree ≡ Some fed
      → founds ≡ map (λ root. found_of plan.kind (Some root)) (piece_roots fed.bytes fed.piece_length))
      → (has_v2 plan.kind ≡ false
      → founds ≡ replicate (div_ceil (unit_length unit) plan.piece_length) (found_of plan.kind None))
      → OweEach (FindsPiece is_steady plan told) (pieces_of_unit plan.piece_length unit) founds own
  owe_unit is_steady sums_law tree own took founds with_trees bare = elim (cases_Bool (has_v2 plan.kind)) [
    | inl trees ↦
        let one : IsOnePart unit = is.within.alone trees in
        subst (λ (u : PlanUnit). IsUnitToHash plan u → IsTogether plan told u → TakesUnit is_steady plan u tree own
        → OweEach (FindsPiece is_steady plan told) (pieces_of_unit plan.piece_length u) founds own) (sym one.1)
        (λ is_alone together_alone took_alone.
        owe_alone plan planned told trees one.0 is_alone together_alone is_steady sums_law tree own took_alone founds
        (with_trees trees))
        is together took
    | inr none ↦
        owe_together plan planned told unit is together.there is_steady sums_law tree own took (λ k. None)
        (λ contents have k less.
        sym (ap (λ b. cond b (Some (hash_of_parts plan contents
        (piece_of_unit plan.piece_length unit k).parts)) None) none))
        founds
        (bare none ∙ same_each (found_of plan.kind None) 0 (div_ceil (unit_length unit) plan.piece_length))
  ]

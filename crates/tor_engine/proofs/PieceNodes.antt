-- What one piece gives to the tree of its file.
use Rattle.std.proofs.Common.{◌≡◌, ◌≢◌, ◌≤◌, ℕ, List, [], length, get_or, cond, Option, None, Some, inl, inr, arith}
use Rattle.std.proofs.Common.{ap, subst, sym, ◌∙◌}
use Rattle.std.specs.List.{flat_map}
use Rattle.std.proofs.lemmas.Bool.{cases_Bool}
use Rattle.tor_merkle.specs.Feeding.{Feeding}
use Rattle.tor_plan.specs.PlanFacts.{PlanFacts}
use Rattle.tor_plan.specs.declared.units.Part.{Part}
use Rattle.tor_plan.specs.declared.units.PlanUnit.{PlanUnit}
use Rattle.tor_tree.specs.Kinds.{has_v2}
use Rattle.tor_sums.specs.Hasher.{IsTreeOf}
use Rattle.tor_merkle.specs.PieceHash.{merkle_hash}
use Rattle.tor_engine.specs.PieceHashes.{hash_of_parts}
use Rattle.tor_sums.specs.steps.Hashes.{bytes_of_part}
use Rattle.tor_engine.specs.steps.Pieces.{HasPieces}
use Rattle.tor_sums.specs.steps.Run.{IsUnitOf}
use Rattle.tor_sums.proofs.UnitNodes.{feeding, part, parts_are, tree_is}

pub hash_of_piece : (plan : PlanFacts) (piece : PlanUnit) (is : IsUnitOf plan piece) (contents : List (List ℕ))
    (tree : Feeding) (first : Part) (given : Option Feeding) (hash : Option (List ℕ)) → given ≡ Some tree
    → IsTreeOf plan.kind plan.piece_length (flat_map (bytes_of_part contents) piece.parts) given
    → HasPieces plan.piece_length contents piece.parts → ((d : Part) → first ≡ get_or piece.parts 0 d)
    → (tree.bytes ≢ [] → length tree.bytes ≤ tree.piece_length
    → hash ≡ Some (merkle_hash tree.piece_length (get_or plan.lengths first.file 0) tree.bytes))
    → hash ≡ cond (has_v2 plan.kind) (Some (hash_of_parts plan contents piece.parts)) None
hash_of_piece plan piece is contents tree first given hash found of are at is_hash =
    elim (cases_Bool (has_v2 plan.kind)) [
      | inl trees ↦
          let one = part plan piece is trees in
          let parts = parts_are plan piece is trees in
          let bytes = bytes_of_part contents one in
          let read = feeding plan piece is trees bytes in
          let same : Some tree ≡ Some read = sym found ∙ tree_is plan piece is trees contents given of in
          let alike : tree ≡ read = cc in
          let has = (subst (λ (ps : List Part). HasPieces plan.piece_length contents ps) parts are).0 in
          let some : bytes ≢ [] = λ none. omega (arith, has.0, ap length none) in
          subst (λ (t : Feeding). t.bytes ≢ [] → length t.bytes ≤ t.piece_length
          → hash ≡ Some (merkle_hash t.piece_length (get_or plan.lengths first.file 0) t.bytes))
          alike is_hash some has.1
          ∙ ap (λ (q : Part). Some (merkle_hash plan.piece_length (get_or plan.lengths q.file 0) bytes))
          (at one ∙ ap (λ ps. get_or ps 0 one) parts)
          ∙ sym (ap (λ b. cond b (Some (hash_of_parts plan contents piece.parts)) None) trees
          ∙ ap (λ ps. Some (hash_of_parts plan contents ps)) parts)
      | inr none ↦
          let no_tree : Some tree ≡ None = sym found ∙ of ∙ ap (λ b. cond b (Some (record {
            piece_length = plan.piece_length;
            bytes = flat_map (bytes_of_part contents) piece.parts;
          })) None) none in
          absurd cc
    ]

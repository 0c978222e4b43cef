-- one piece after the other
use Rattle.std.proofs.Common.{◌+◌, ℕ, List, length, inl, inr, ap, [], ◌∷◌, ◌++◌, append-nil, append_assoc, subst, sym}
use Rattle.std.proofs.Common.{take, ◌∙◌}
use Rattle.std.proofs.lemmas.List.{take_all, take_more}
use Rattle.tor_plan.specs.Pieces.{pieces_of_unit}
use Rattle.tor_plan.specs.declared.units.PlanUnit.{PlanUnit}
use Rattle.tor_sums.specs.Contents.{contents_in}
use Rattle.tor_sums.specs.steps.Each.{OweEach}
use Rattle.tor_sums.specs.steps.Owing.{Owes}
use Rattle.tor_engine.specs.PieceFault.{piece_fault, pieces_fault}
use Rattle.tor_engine.specs.declared.pieces.piece_hash.FoundPiece.{FoundPiece}
use Rattle.tor_engine.specs.steps.Unsummed.{FindsPiece}
use Rattle.tor_sums.proofs.FirstOf.{first_at, first_next, first_of_none}
use Rattle.tor_sums.proofs.PaidSums.{owe_next, owe_none}
use Rattle.tor_engine.proofs.pieces.piece_work.find_in_turn.Goals as goal

pub pieces-init : goal.pieces-init
pieces-init g c = record {
  owing = λ owed owes. (
    [],
    subst (λ (founds : List FoundPiece). OweEach (FindsPiece (g.S.FileBytes.is_steady c.args.source.now)
        c.args.plan.now c.args.known.now.lengths.items) [] founds []) (sym c.in_ok-found.ensures.items)
        (owe_none (FindsPiece (g.S.FileBytes.is_steady c.args.source.now) c.args.plan.now
        c.args.known.now.lengths.items)),
    subst (λ (all : List ℕ). Owes c.args.plan.now all c.args.worker.now) (sym (append-nil owed)) owes,
  );
  fault = λ facts steady told.
      first_of_none (piece_fault facts (contents_in facts (length c.args.plan.now.lengths)));
}

pub find_piece-requires-clause-owing : goal.find_piece-requires-clause-owing
find_piece-requires-clause-owing g c =
    let now = c.pieces.invariant.owing c.requires.owing.0 c.requires.owing.1 in
    (c.requires.owing.0 ++ now.0, now.2)

pub returns-in-Err-clause-fault : goal.returns-in-Err-clause-fault
returns-in-Err-clause-fault g c = λ facts steady told.
    let contents = contents_in facts (length c.args.plan.now.lengths) in
    elim (c.in-Err.ensures.fault facts steady told) [
      | inl memory ↦ inl memory
      | inr fault ↦ inr (ap (λ p. pieces_fault facts contents (pieces_of_unit p c.args.unit.now))
          (sym c.piece_length.ensures)
          ∙ ap (pieces_fault facts contents) (sym (c.as_slice-piece-items.ensures.value ∙ c.in_ok-pieces.ensures))
          ∙ first_at (piece_fault facts contents) c.as_slice-piece-items.result.now c.pieces.piece-index _
          c.in-Err.error c.pieces-test.true (c.pieces.invariant.fault facts steady told)
          (ap (piece_fault facts contents) (sym c.piece-item.is) ∙ fault))
    ]

pub pieces-preserved : goal.pieces-preserved
pieces-preserved g c = record {
  owing = λ owed owes.
      let plan = c.args.plan.now in
      let finds = FindsPiece (g.S.FileBytes.is_steady c.args.source.now) plan c.args.known.now.lengths.items in
      let pieces = c.as_slice-piece-items.result.now in
      let i = c.pieces.piece-index in
      let before = c.pieces.invariant.owing owed owes in
      let one = c.in-Ok.ensures.owing (owed ++ before.0) before.2 in
      let piece = subst (λ (it : PlanUnit). finds it c.in-Ok.one one.0) c.piece-item.is one.1 in (
        before.0 ++ one.0,
        subst (λ (founds : List FoundPiece). OweEach finds (take (i + 1) pieces) founds (before.0 ++ one.0))
            (sym c.in_ok-push.ensures.items)
            (subst (λ (xs : List PlanUnit). OweEach finds xs (c.pieces.found.items ++ c.in-Ok.one ∷ [])
            (before.0 ++ one.0)) (sym (take_more pieces i _ c.pieces-test.true))
            (owe_next finds (take i pieces) c.pieces.found.items before.0 _ c.in-Ok.one one.0 before.1 piece)),
        subst (λ (all : List ℕ). Owes plan all c.find_piece.new.worker) (append_assoc owed before.0 one.0) one.2,
      );
  fault = λ facts steady told.
      let contents = contents_in facts (length c.args.plan.now.lengths) in
      first_next (piece_fault facts contents) c.as_slice-piece-items.result.now c.pieces.piece-index _
      c.pieces-test.true (c.pieces.invariant.fault facts steady told)
      (ap (piece_fault facts contents) (sym c.piece-item.is) ∙ c.in-Ok.ensures.fault facts steady told);
}

pub returns-clause-owing : goal.returns-clause-owing
returns-clause-owing g c = λ owed owes.
    let plan = c.args.plan.now in
    let is_steady = g.S.FileBytes.is_steady c.args.source.now in
    let told = c.args.known.now.lengths.items in
    let items = c.as_slice-piece-items.result.now in
    let all = take_all c.pieces.piece-index items c.pieces-test.false
    ∙ c.as_slice-piece-items.ensures.value ∙ c.in_ok-pieces.ensures
    ∙ ap (λ p. pieces_of_unit p c.args.unit.now) c.piece_length.ensures in
    let owing = c.pieces.invariant.owing owed owes in (
      owing.0,
      subst (λ (pieces : List PlanUnit). OweEach (FindsPiece is_steady plan told) pieces c.pieces.found.items
          owing.0) all owing.1,
      owing.2,
    )

pub returns-clause-fault : goal.returns-clause-fault
returns-clause-fault g c = λ facts steady told.
    let plan = c.args.plan.now in
    let items = c.as_slice-piece-items.result.now in
    let all = take_all c.pieces.piece-index items c.pieces-test.false
    ∙ c.as_slice-piece-items.ensures.value ∙ c.in_ok-pieces.ensures
    ∙ ap (λ p. pieces_of_unit p c.args.unit.now) c.piece_length.ensures in
    ap (pieces_fault facts (contents_in facts (length plan.lengths))) (sym all)
    ∙ c.pieces.invariant.fault facts steady told

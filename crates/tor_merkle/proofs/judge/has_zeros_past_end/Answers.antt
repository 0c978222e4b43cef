-- a level that fails, one that passes, and the end
use Rattle.tor_merkle.proofs.Names.{[], length, get_or, arith, ap, ap₂, ◌∙◌, sym, below_more, not-true, not-false}
use Rattle.tor_merkle.proofs.Names.{not_from_true, not_from_false, or_from, or_left, or_right, get_or_default, bytes_eq}
use Rattle.tor_merkle.proofs.Names.{is_zero_past_end, zero_leaf}
use Rattle.tor_merkle.proofs.ProofRoots.{all_below, one_below}
use Rattle.tor_merkle.proofs.judge.has_zeros_past_end.Goals.{else-is_past_end-via-then-is_past_end+else-ne}
use Rattle.tor_merkle.proofs.judge.has_zeros_past_end.Goals.{else-is_past_end-via-else-is_past_end}
use Rattle.tor_merkle.proofs.judge.has_zeros_past_end.Goals as goal

pub returns-then-ne : goal.returns-then-ne
returns-then-ne c =
    let siblings = c.args.siblings.now in
    let same =
    ap (λ k. get_or siblings k zero_leaf) c.siblings.invariant.level
    ∙ get_or_default siblings c.siblings.sibling-index zero_leaf [] c.siblings-test.true in
    sym (one_below (is_zero_past_end c.args.level c.args.count c.args.index siblings) (length siblings)
    c.siblings.above (omega arith)
    (or_from _ _ (not_from_true _ (sym c.is_past_end.ensures ∙ c.if-is_past_end.true))
    (ap₂ bytes_eq same (sym c.zero.ensures) ∙ not-true _ (sym c.ne.ensures ∙ c.if-ne.true))))

pub siblings-preserved : goal.siblings-preserved
siblings-preserved c =
    let siblings = c.args.siblings.now in
    let same =
    ap (λ k. get_or siblings k zero_leaf) c.siblings.invariant.level
    ∙ get_or_default siblings c.siblings.sibling-index zero_leaf [] c.siblings-test.true in
    record {
      level = omega arith;
      passed = below_more _ _ c.siblings.invariant.passed (elim c.else-is_past_end.branch [
        | else-is_past_end-via-then-is_past_end+else-ne w ↦
            or_right _ _
            (ap₂ bytes_eq same (sym w.zero.ensures) ∙ not-false _ (sym w.ne.ensures ∙ w.if-ne.false))
        | else-is_past_end-via-else-is_past_end w ↦
            or_left _ _ (not_from_false _ (sym c.is_past_end.ensures ∙ w.if-is_past_end.false))
      ]);
    }

pub returns : goal.returns
returns c =
    sym (all_below (is_zero_past_end c.args.level c.args.count c.args.index c.args.siblings.now) _
    (λ k lt. c.siblings.invariant.passed k (omega arith)))

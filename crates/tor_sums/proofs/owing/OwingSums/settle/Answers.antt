-- those that were ended, and those of the pieces that are ended now
use Rattle.std.proofs.Common.{◌++◌, [], ap₂, ◌∙◌}
use Rattle.tor_sums.proofs.OwedSums.{owes_none}
use Rattle.tor_sums.proofs.owing.OwingSums.settle.Goals as goal

pub returns-clause-sums : goal.returns-clause-sums
returns-clause-sums c = λ owed owes.
    let plan = c.args.plan.now in
    let fresh = c.in_ok-end_tree.ensures.next [] owes.before owes.fresh.taken in
    let last = c.in_ok-last.ensures.sums plan.kind plan.piece_length [] owes.before fresh.taken in
    c.in_ok-extend_from_slice-2.ensures.items
    ∙ ap₂ (λ xs ys. xs ++ ys)
    (c.in_ok-extend_from_slice.ensures.items
    ∙ ap₂ (λ xs ys. xs ++ ys) c.in_ok-all.ensures.items c.deref.ensures.value)
    (c.deref-2.ensures.value ∙ last)
    ∙ owes.is_owed

pub returns-clause-next : goal.returns-clause-next
returns-clause-next c =
    owes_none c.args.plan.now c.requires.planned _ c.clear.ensures.items c.in_ok-last.ensures.next
    c.in_ok-last.ensures.none

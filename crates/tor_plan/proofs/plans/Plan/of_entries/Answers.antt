-- the whole is that of the entries, and its plan theirs
use Rattle.tor_plan.proofs.Names.{◌≡◌, subst, IfOk, PlanFacts}
use Rattle.tor_plan.proofs.FileSizes.{are_whole, plan_is}
use Rattle.tor_plan.proofs.plans.Plan.of_entries.Goals as goal

pub of_whole-requires-clause-entries : goal.of_whole-requires-clause-entries
of_whole-requires-clause-entries c = are_whole c.requires.entries c.in_ok-whole.ensures c.in_ok-lengths.ensures

pub returns : goal.returns
returns c =
    subst (λ (all : PlanFacts). IfOk c.of_whole.result (λ plan. plan ≡ all))
    (plan_is c.args.kind c.args.piece_length c.args.span c.in_ok-whole.whole c.in_ok-lengths.lengths.items
    (are_whole c.requires.entries c.in_ok-whole.ensures c.in_ok-lengths.ensures) c.requires.span c.requires.pieces)
    c.of_whole.ensures

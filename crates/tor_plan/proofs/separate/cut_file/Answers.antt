-- the part is not too long
use Rattle.tor_plan.proofs.Names.{[], subst, sym, All-cons, All-nil, All, PlanUnit}
use Rattle.tor_plan.proofs.WholeUnits.{IsSmall}
use Rattle.tor_plan.proofs.separate.cut_file.Goals as goal

pub pieces-requires-clause-small : goal.pieces-requires-clause-small
pieces-requires-clause-small c =
    subst (λ (u : PlanUnit). All IsSmall u.parts) (sym c.in_ok-unit.ensures)
    (All-cons IsSmall c.args.part [] c.requires.small (All-nil IsSmall))

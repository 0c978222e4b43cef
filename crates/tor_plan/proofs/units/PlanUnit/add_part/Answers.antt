-- the part is the last
use Rattle.tor_plan.proofs.Names.{ap, ◌∙◌, sym, joined, part_alone}
use Rattle.tor_plan.proofs.UnitJoins.{then_part, unit_of}
use Rattle.tor_plan.proofs.units.PlanUnit.add_part.Goals as goal

pub returns-clause-value : goal.returns-clause-value
returns-clause-value c =
    let old = c.self.inside.0 in
    ap (unit_of old.0) c.in_ok-push.ensures.ok ∙ sym (then_part (unit_of old.0 old.1.0.parts.items) c.args.part)
    ∙ ap (λ u. joined u (part_alone c.args.part)) c.self.view_is

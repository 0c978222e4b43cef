-- after the last part
use Rattle.std.proofs.Common.{arith}
use Rattle.std.proofs.lemmas.Grind.{common_steps}
use Rattle.std.proofs.lemmas.List.{length-set}
use Rattle.smallvec.proofs.SmallVecLemmas.{items-with_items}
use Rattle.tor_plan.proofs.Names.{◌-◌, ap, refl, ◌∙◌, length, set, joined, zeros_alone}
use Rattle.tor_plan.proofs.UnitJoins.{after_last, unit_of, with_zeros}
use Rattle.tor_plan.proofs.units.PlanUnit.add_zeros.Goals as goal

pub returns-in-Some-clause-value : goal.returns-in-Some-clause-value
returns-in-Some-clause-value c =
    let old = c.self.inside.0 in
    let parts = old.1.0.parts in
    let lent = c.as_mut_slice.result.now in
    let last = c.in-Some.last.now in
    let more = with_zeros last c.args.count in
    ap (unit_of old.0) (items-with_items parts (set lent (length lent - 1) more)
    (length-set lent (length lent - 1) more ∙ ap length c.as_mut_slice.ensures.value))
    ∙ after_last old.0 c.args.count (length lent) lent last refl c.in-Some.ensures.item.3.0
    c.in-Some.ensures.item.1
    ∙ ap (λ u. joined u (zeros_alone c.args.count)) (ap (unit_of old.0) c.as_mut_slice.ensures.value ∙ c.self.view_is)

pub overflow_add-last : goal.overflow_add-last
overflow_add-last c = grind (arith, common_steps)

pub returns-in-Some-clause-long : goal.returns-in-Some-clause-long
returns-in-Some-clause-long c = grind (arith, common_steps)

pub returns-in-None-clause-value : goal.returns-in-None-clause-value
returns-in-None-clause-value c = grind (arith, common_steps)

pub returns-in-None-clause-long : goal.returns-in-None-clause-long
returns-in-None-clause-long c = grind (arith, common_steps)

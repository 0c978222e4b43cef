-- what the units of a share sum up to
use Rattle.std.proofs.Common.{◌<◌, List, length, inl, inr, ap, subst, sym, ◌∙◌}
use Rattle.std.proofs.lemmas.List.Elements.{All-contains_itself, All-from_recursion}
use Rattle.std.specs.List.{All, AllByRecursion}
use Rattle.tor_plan.specs.declared.units.PlanUnit.{PlanUnit}
use Rattle.tor_sums.specs.Fault.{FailsWithin, wanted_unit_fault}
use Rattle.tor_sums.specs.UnitSums.{unit_at}
use Rattle.tor_sums.specs.declared.unit_sums.UnitSums.{UnitSums}
use Rattle.tor_sums.specs.steps.Run.{IsUnitToSum, SumsUpUnit, parts_of}
use Rattle.tor_engine.specs.Rows.{AreInFiles}
use Rattle.tor_engine.specs.steps.Taken.{IsSumOf}
use Rattle.tor_engine.proofs.Counts.{each_more}
use Rattle.tor_sums.proofs.PlanLevels.{units_to_sum}
use Rattle.tor_sums.proofs.WantedBytes.{parts_within, same_unit_at}
use Rattle.tor_engine.proofs.LotRows.{units_in_files}
use Rattle.tor_engine.proofs.ReadContents.{plan_there}
use Rattle.tor_engine.proofs.UnitSummed.{are_unit_sums}
use Rattle.tor_engine.proofs.workers.worker_share.work.Goals as goal

pub take_units-requires-clause-units : goal.take_units-requires-clause-units
take_units-requires-clause-units g c =
    let to_sum = subst (λ (units : List PlanUnit). All (IsUnitToSum c.args.plan.now) units)
    (sym c.units-units.ensures.value)
    (units_to_sum c.args.plan.now c.units-units.ensures.planned) in
    λ k d lt. (to_sum k d lt, All-contains_itself c.units-units.result.now k d lt)

pub returns-in-Ok-clause-summed : goal.returns-in-Ok-clause-summed
returns-in-Ok-clause-summed g c = λ facts steady fit.
    let plan = c.args.plan.now in
    let is_steady = g.S.Source.is_steady c.args.source.now in
    are_unit_sums is_steady plan c.units-units.ensures.planned facts steady fit
    c.in-Ok.share.units.items
    (subst (λ (units : List PlanUnit). AllByRecursion
    (IsSumOf (λ (one : UnitSums). one.unit) (SumsUpUnit is_steady plan) units) c.in-Ok.share.units.items)
    c.units-units.ensures.value c.in-Ok.ensures.taken.took.2.summed)

pub returns-in-Err-clause-fault : goal.returns-in-Err-clause-fault
returns-in-Err-clause-fault g c = λ facts steady fit.
    let plan = c.args.plan.now in
    let number = c.in-Err.failure.unit in
    let all = plan_there facts plan fit c.units-units.ensures.planned in
    let within = subst (λ (units : List PlanUnit). FailsWithin facts units) (sym c.units-units.ensures.value)
    (parts_within facts (parts_of plan.units) all) in
    elim (c.in-Err.ensures.taken.steady facts (steady, within)) [
      | inl memory ↦ inl memory
      | inr fault ↦ inr (sym (ap (λ units. wanted_unit_fault facts (unit_at units number)) c.units-units.ensures.value
          ∙ same_unit_at facts plan.units all number) ∙ fault)
    ]

pub returns-in-Ok-clause-within : goal.returns-in-Ok-clause-within
returns-in-Ok-clause-within g c =
    let plan = c.args.plan.now in
    let is_steady = g.S.Source.is_steady c.args.source.now in
    let units = c.units-units.result.now in
    All-from_recursion (λ (one : UnitSums). one.unit < length plan.units) c.in-Ok.share.units.items
    (each_more (IsSumOf (λ (one : UnitSums). one.unit) (SumsUpUnit is_steady plan) units)
    (λ (one : UnitSums). one.unit < length plan.units) c.in-Ok.share.units.items
    (λ one is. subst (λ (all : List PlanUnit). one.unit < length all) c.units-units.ensures.value is.0)
    c.in-Ok.ensures.taken.took.2.summed)

pub returns-in-Err-clause-gave : goal.returns-in-Err-clause-gave
returns-in-Err-clause-gave g c =
    let plan = c.args.plan.now in
    c.in-Err.ensures.taken.gave plan.lengths (subst (λ (units : List PlanUnit). AreInFiles plan.lengths units)
    (sym c.units-units.ensures.value) (units_in_files plan c.units-units.ensures.planned))

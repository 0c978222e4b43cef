-- the units, and then the lengths again
use Rattle.std.proofs.Common.{List, length, map, inl, inr, ap, ap₂, subst, sym, ◌∙◌}
use Rattle.std.proofs.lemmas.List.Elements.{All-contains_itself}
use Rattle.std.specs.List.{All}
use Rattle.tor_plan.specs.Forest.{AreRuns}
use Rattle.tor_plan.specs.declared.forests.Run.{Run}
use Rattle.tor_plan.specs.declared.units.PlanUnit.{PlanUnit}
use Rattle.tor_plan.proofs.ProvedLaws.{trees_are_runs}
use Rattle.tor_sums.specs.Contents.{contents_in}
use Rattle.tor_sums.specs.Fault.{FailsWithin, wanted_units_fault}
use Rattle.tor_sums.specs.declared.unit_sums.UnitSums.{UnitSums}
use Rattle.tor_sums.specs.steps.Roots.{roots_of_trees}
use Rattle.tor_sums.specs.steps.Run.{IsUnitToSum, parts_of}
use Rattle.tor_engine.specs.Rows.{AreInFiles}
use Rattle.tor_engine.proofs.GivenAnswers.{not_missing}
use Rattle.tor_engine.proofs.LotRows.{units_in_files}
use Rattle.tor_engine.proofs.PlanFaults.{fault_of_plan}
use Rattle.tor_sums.proofs.PlanLevels.{units_to_sum}
use Rattle.tor_engine.proofs.ReadContents.{contents_there, plan_there}
use Rattle.tor_engine.proofs.UnitRuns.{units_summed}
use Rattle.tor_sums.proofs.WantedBytes.{parts_within, same_units}
use Rattle.tor_sums.proofs.Whole.{lengths_hold}
use Rattle.tor_engine.proofs.engine.hash_told.Goals as goal

pub hash_units-requires-clause-units : goal.hash_units-requires-clause-units
hash_units-requires-clause-units g c = λ κs lives.
    let to_sum = subst (λ (units : List PlanUnit). All (IsUnitToSum c.args.plan.now) units)
    (sym c.units-units.ensures.value)
    (units_to_sum c.args.plan.now c.units-units.ensures.planned) in
    λ k d lt. (to_sum k d lt, All-contains_itself c.units-units.result.now k d lt)

pub hash_units-requires-clause-runs : goal.hash_units-requires-clause-runs
hash_units-requires-clause-runs g c = λ κs lives.
    subst (λ (runs : List Run). AreRuns (length c.units-units.result.now) 0 runs) (sym c.forest.ensures.value)
    (subst (λ (units : List PlanUnit). AreRuns (length units) 0 c.args.plan.now.trees) (sym c.units-units.ensures.value)
    (trees_are_runs c.args.plan.now c.units-units.ensures.planned))

pub returns-in-Err-clause-summed : goal.returns-in-Err-clause-summed
returns-in-Err-clause-summed g c = λ facts steady none.
    let plan = c.args.plan.now in
    let all = plan_there facts plan (lengths_hold facts plan none) c.units-units.ensures.planned in
    let within = subst (λ (units : List PlanUnit). FailsWithin facts units) (sym c.units-units.ensures.value)
    (parts_within facts (parts_of plan.units) all) in
    elim (c.in-Err.ensures.fault facts (steady, within)) [
      | inl memory ↦ inl memory
      | inr fault ↦ inr (sym (ap (wanted_units_fault facts) c.units-units.ensures.value
          ∙ same_units facts plan.units all ∙ fault_of_plan facts plan c.units-units.ensures.planned) ∙ fault)
    ]

pub sums_of_units-requires : goal.sums_of_units-requires
sums_of_units-requires g c = record {
  planned = c.units-units.ensures.planned;
  roots = c.deref-2.ensures.value ∙ c.in-Ok.ensures.roots
      ∙ ap₂ roots_of_trees (ap (map (λ (unit : UnitSums). unit.hash)) (sym c.deref.ensures.value))
      c.forest.ensures.value;
}

pub returns-clause-summed : goal.returns-clause-summed
returns-clause-summed g c = λ facts steady none.
    let plan = c.args.plan.now in
    let fit = lengths_hold facts plan none in
    let contents = contents_in facts (length plan.lengths) in
    let summed = units_summed (g.S.Source.is_steady c.args.source.now) plan c.units-units.result.now plan.units
    c.in-Ok.hashed.0.items c.deref.result.now c.units-units.ensures.value c.deref.ensures.value
    c.in-Ok.ensures.summed in
    let all = plan_there facts plan fit c.units-units.ensures.planned in
    let within = subst (λ (units : List PlanUnit). FailsWithin facts units) (sym c.units-units.ensures.value)
    (parts_within facts (parts_of plan.units) all) in
    let hashed = summed.sums contents fit (summed.are.steady facts steady all) in (
      c.in_ok-sums.ensures.summed contents fit hashed,
      sym (ap (wanted_units_fault facts) c.units-units.ensures.value
          ∙ same_units facts plan.units all ∙ fault_of_plan facts plan c.units-units.ensures.planned)
          ∙ c.in-Ok.ensures.fault facts (steady, within),
    )

pub returns-clause-whole : goal.returns-clause-whole
returns-clause-whole g c =
    let plan = c.args.plan.now in
    let summed = units_summed (g.S.Source.is_steady c.args.source.now) plan c.units-units.result.now plan.units
    c.in-Ok.hashed.0.items c.deref.result.now c.units-units.ensures.value c.deref.ensures.value
    c.in-Ok.ensures.summed in
    let there = contents_there (g.S.Source.is_steady c.args.source.now) plan summed.reads c.units-units.ensures.planned
    summed.are in
    let hashed = summed.sums there.0 there.1 there.2 in
    (there.0, there.1, c.in_ok-sums.ensures.summed there.0 there.1 hashed)

pub returns-in-Err-clause-gave : goal.returns-in-Err-clause-gave
returns-in-Err-clause-gave g c =
    let plan = c.args.plan.now in
    not_missing (g.S.Source.answers c.args.source.now) plan.lengths c.in-Err.error
    (c.in-Err.ensures.gave plan.lengths (subst (λ (units : List PlanUnit). AreInFiles plan.lengths units)
    (sym c.units-units.ensures.value) (units_in_files plan c.units-units.ensures.planned)))

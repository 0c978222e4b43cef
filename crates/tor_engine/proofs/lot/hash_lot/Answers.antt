-- the units of the lot
use Rattle.std.proofs.Common.{List, length, inl, inr, ap, refl, subst, sym, ◌∙◌}
use Rattle.std.proofs.lemmas.List.Elements.{All-contains_itself}
use Rattle.std.specs.List.{All}
use Rattle.tor_plan.specs.Forest.{AreRuns}
use Rattle.tor_plan.specs.declared.forests.Run.{Run}
use Rattle.tor_plan.specs.declared.units.PlanUnit.{PlanUnit}
use Rattle.tor_tree.specs.declared.kinds.Kind.{Kind}
use Rattle.tor_sums.specs.Contents.{contents_in}
use Rattle.tor_sums.specs.Fault.{FailsWithin, IsFault, wanted_units_fault}
use Rattle.tor_engine.specs.Rows.{AreInFiles, units_between}
use Rattle.tor_engine.specs.steps.RowSums.{IsRowOfSums}
use Rattle.tor_sums.specs.steps.Run.{IsUnitToSum, parts_of}
use Rattle.tor_engine.proofs.LotRows.{between_in_files, between_there, between_to_sum, contents_between, have_same}
use Rattle.tor_engine.proofs.LotRows.{row_is}
use Rattle.tor_engine.proofs.RunRoots.{no_runs}
use Rattle.tor_engine.proofs.UnitRuns.{units_summed}
use Rattle.tor_sums.proofs.WantedBytes.{parts_within, same_units}
use Rattle.tor_engine.proofs.lot.hash_lot.Goals as goal

pub hash_units-requires-clause-units : goal.hash_units-requires-clause-units
hash_units-requires-clause-units g c = λ κs lives.
    let plan = c.args.plan.now in
    let units = c.units_between-units.result.now in
    let is = c.units_between-units.ensures ∙ ap (units_between c.args.from c.args.to) c.units.ensures.value in
    let to_sum = subst (λ (units : List PlanUnit). All (IsUnitToSum plan) units) (sym is)
    (between_to_sum plan c.units.ensures.planned c.args.from c.args.to) in
    λ k d lt. (to_sum k d lt, All-contains_itself units k d lt)

pub hash_units-requires-clause-runs : goal.hash_units-requires-clause-runs
hash_units-requires-clause-runs g c = λ κs lives.
    subst (λ (runs : List Run). AreRuns (length c.units_between-units.result.now) 0 runs) (sym c.new.ensures.items)
    (no_runs (length c.units_between-units.result.now))

pub returns-in-Err-clause-summed : goal.returns-in-Err-clause-summed
returns-in-Err-clause-summed g c = λ facts contents steady fit same.
    let plan = c.args.plan.now in
    let is = c.units_between-units.ensures ∙ ap (units_between c.args.from c.args.to) c.units.ensures.value in
    let own = units_between c.args.from c.args.to plan.units in
    let there = between_there facts plan contents fit c.units.ensures.planned c.args.from c.args.to same in
    let within = subst (λ (units : List PlanUnit). FailsWithin facts units) (sym is)
    (parts_within facts (parts_of own) there) in
    elim (c.in-Err.ensures.fault facts (steady, within)) [
      | inl memory ↦ inl memory
      | inr fault ↦ inr (sym (ap (wanted_units_fault facts) is ∙ same_units facts own there) ∙ fault)
    ]

pub returns-in-Err-clause-wanted : goal.returns-in-Err-clause-wanted
returns-in-Err-clause-wanted g c = λ facts steady within.
    let is = c.units_between-units.ensures ∙ ap (units_between c.args.from c.args.to) c.units.ensures.value in
    subst (λ (units : List PlanUnit). IsFault (wanted_units_fault facts units) c.in-Err.error) is
    (c.in-Err.ensures.fault facts
    (steady, subst (λ (units : List PlanUnit). FailsWithin facts units) (sym is) within))

pub returns-clause-summed : goal.returns-clause-summed
returns-clause-summed g c = λ facts contents steady fit same.
    let plan = c.args.plan.now in
    let planned = c.units.ensures.planned in
    let is_steady = g.S.Source.is_steady c.args.source.now in
    let own = units_between c.args.from c.args.to plan.units in
    let sums = c.in-Ok.hashed.0.items in
    let is = c.units_between-units.ensures ∙ ap (units_between c.args.from c.args.to) c.units.ensures.value in
    let hashed = units_summed is_steady plan c.units_between-units.result.now own sums sums is refl
    c.in-Ok.ensures.summed in
    let made = subst (λ (kind : Kind). IsRowOfSums kind c.deref.result.now c.in_ok-row.row) c.kind.ensures
    c.in_ok-row.ensures in
    let there = between_there facts plan contents fit planned c.args.from c.args.to same in
    let have = have_same contents (contents_in facts (length plan.lengths)) (parts_of own) hashed.reads hashed.are.each
    same (hashed.are.steady facts steady there) in (
      row_is is_steady plan planned own sums c.deref.result.now c.in_ok-row.row c.deref.ensures.value hashed made
          contents fit have,
      sym (ap (wanted_units_fault facts) is ∙ same_units facts own there) ∙ c.in-Ok.ensures.fault facts (
        steady,
        subst (λ (units : List PlanUnit). FailsWithin facts units) (sym is)
            (parts_within facts (parts_of own) there),
      ),
    )

pub returns-clause-wanted : goal.returns-clause-wanted
returns-clause-wanted g c = λ facts steady within.
    let is = c.units_between-units.ensures ∙ ap (units_between c.args.from c.args.to) c.units.ensures.value in
    sym (ap (wanted_units_fault facts) is)
    ∙ c.in-Ok.ensures.fault facts
    (steady, subst (λ (units : List PlanUnit). FailsWithin facts units) (sym is) within)

pub returns-clause-there : goal.returns-clause-there
returns-clause-there g c = λ facts steady.
    let plan = c.args.plan.now in
    let is_steady = g.S.Source.is_steady c.args.source.now in
    let own = units_between c.args.from c.args.to plan.units in
    let sums = c.in-Ok.hashed.0.items in
    let is = c.units_between-units.ensures ∙ ap (units_between c.args.from c.args.to) c.units.ensures.value in
    let hashed = units_summed is_steady plan c.units_between-units.result.now own sums sums is refl
    c.in-Ok.ensures.summed in
    hashed.are.there facts steady

pub returns-clause-whole : goal.returns-clause-whole
returns-clause-whole g c =
    let plan = c.args.plan.now in
    let planned = c.units.ensures.planned in
    let is_steady = g.S.Source.is_steady c.args.source.now in
    let own = units_between c.args.from c.args.to plan.units in
    let sums = c.in-Ok.hashed.0.items in
    let is = c.units_between-units.ensures ∙ ap (units_between c.args.from c.args.to) c.units.ensures.value in
    let hashed = units_summed is_steady plan c.units_between-units.result.now own sums sums is refl
    c.in-Ok.ensures.summed in
    let made = subst (λ (kind : Kind). IsRowOfSums kind c.deref.result.now c.in_ok-row.row) c.kind.ensures
    c.in_ok-row.ensures in
    let there = contents_between is_steady plan planned c.args.from c.args.to hashed.reads hashed.are in (
      there.0,
      there.1,
      row_is is_steady plan planned own sums c.deref.result.now c.in_ok-row.row c.deref.ensures.value hashed made
          there.0 there.1 there.2,
    )

pub returns-in-Err-clause-of_lot : goal.returns-in-Err-clause-of_lot
returns-in-Err-clause-of_lot g c = λ lengths are.
    let is = c.units_between-units.ensures ∙ ap (units_between c.args.from c.args.to) c.units.ensures.value in
    c.in-Err.ensures.gave lengths (subst (λ (units : List PlanUnit). AreInFiles lengths units) (sym is) are)

pub returns-in-Err-clause-gave : goal.returns-in-Err-clause-gave
returns-in-Err-clause-gave g c =
    let plan = c.args.plan.now in
    let is = c.units_between-units.ensures ∙ ap (units_between c.args.from c.args.to) c.units.ensures.value in
    c.in-Err.ensures.gave plan.lengths (subst (λ (units : List PlanUnit). AreInFiles plan.lengths units) (sym is)
    (between_in_files plan c.units.ensures.planned c.args.from c.args.to))

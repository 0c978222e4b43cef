-- the unit is one of those of which no byte fails past the end of its file
use Rattle.std.proofs.Common.{◌++◌, ℕ, List}
use Rattle.std.specs.List.{All}
use Rattle.std.proofs.lemmas.List.Elements.{All-contains}
use Rattle.tor_plan.specs.WithinEntries.{IsInFile}
use Rattle.tor_plan.specs.declared.units.PlanUnit.{PlanUnit}
use Rattle.tor_sums.specs.Fault.{PartFailsWithin}
use Rattle.tor_sums.specs.steps.Given.{IsGivenRead}
use Rattle.tor_engine.specs.Rows.{AreInFiles}
use Rattle.tor_engine.proofs.GivenAnswers.{err_all}
use Rattle.tor_sums.specs.steps.Run.{OwesUnit}
use Rattle.tor_sums.proofs.Parts.{one_of_units}
use Rattle.tor_sums.proofs.PaidSums.{if_ok_more, owe_next}
use Rattle.tor_engine.proofs.sum_work.SumWorkUnitWork.hash.Goals as goal

pub sum_unit-requires-clause-owing : goal.sum_unit-requires-clause-owing
sum_unit-requires-clause-owing g c = (c.requires.stands.2.0, c.requires.stands.2.1)

pub returns-clause-stands : goal.returns-clause-stands
returns-clause-stands g c = λ units before stands.
    let work = c.args.self.now in
    if_ok_more c.sum_unit.result _ _
    (λ one is. (
      stands.0 ++ is.0,
      is.2,
      owe_next (OwesUnit (g.S.FileBytes.is_steady work.source.now) work.plan.now) units before stands.0
          c.args.unit.now one is.0 stands.2 is.1,
    ))
    (c.sum_unit.ensures.owing stands.0 stands.1)

pub returns-clause-fault : goal.returns-clause-fault
returns-clause-fault g c = λ facts steady.
    c.sum_unit.ensures.wanted facts steady.0
    (one_of_units (PartFailsWithin facts) c.args.self.now.units.now c.args.unit.now c.requires.unit.1 steady.1)

pub returns-clause-gave : goal.returns-clause-gave
returns-clause-gave g c =
    let work = c.args.self.now in
    let unit = c.args.unit.now in
    err_all c.sum_unit.result (λ (lengths : List ℕ). AreInFiles lengths work.units.now)
    (λ lengths error. IsGivenRead (g.S.FileBytes.answers work.source.now) lengths error)
    (λ lengths are. c.sum_unit.ensures.gave lengths
    (All-contains (λ (u : PlanUnit). All (IsInFile lengths) u.parts) work.units.now unit are c.requires.unit.1))

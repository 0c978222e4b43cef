-- the units of a plan are small, and lots begin one after another
use Rattle.std.proofs.Common.{◌≡◌, ◌≤◌, ◌+◌, ◌^◌, ap, length, subst, sym, ◌∙◌, arith, List}
use Rattle.std.specs.List.{All}
use Rattle.tor_plan.specs.PlanFacts.{IsPlan, PlanFacts}
use Rattle.tor_plan.specs.WithinEntries.{unit_length}
use Rattle.tor_plan.specs.declared.units.PlanUnit.{PlanUnit}
use Rattle.tor_parts.specs.Dealing.{first_unit}
use Rattle.tor_parts.proofs.DealtUnits.{cut_grows, cut_within}
use Rattle.tor_parts.proofs.PlanUnits.{small_units}
use Rattle.tor_parts.proofs.dealing.deal.Goals as goal

small : (plan : PlanFacts) (units : List PlanUnit) → IsPlan plan → units ≡ plan.units
    → All (λ unit. unit_length unit ≤ 2 ^ 40) units
small plan units is same =
    subst (λ (us : List PlanUnit). All (λ unit. unit_length unit ≤ 2 ^ 40) us) (sym same) (small_units plan is)

pub total_of-total-requires-clause-small : goal.total_of-total-requires-clause-small
total_of-total-requires-clause-small c =
    small c.args.plan.now c.units-units.result.now c.units-units.ensures.planned c.units-units.ensures.value

pub first_unit-first-requires-clause-small : goal.first_unit-first-requires-clause-small
first_unit-first-requires-clause-small c =
    small c.args.plan.now c.units-units.result.now c.units-units.ensures.planned c.units-units.ensures.value

pub first_unit-after-requires-clause-small : goal.first_unit-after-requires-clause-small
first_unit-after-requires-clause-small c =
    small c.args.plan.now c.units-units.result.now c.units-units.ensures.planned c.units-units.ensures.value

pub returns-clause-ordered : goal.returns-clause-ordered
returns-clause-ordered c =
    let units = c.units-units.result.now in
    let same : first_unit c.args.lots (c.from-2.result + 1) units ≡ first_unit c.args.lots (c.from.result + 1) units =
    ap (λ k. first_unit c.args.lots (k + 1) units) (c.from-2.ensures ∙ sym c.from.ensures) in
    omega (
      arith,
      cut_grows c.args.lots units c.from.result,
      same,
      c.first_unit-first.ensures,
      c.first_unit-after.ensures,
    )

pub returns-clause-within : goal.returns-clause-within
returns-clause-within c =
    omega (
      arith,
      cut_within c.args.lots c.units-units.result.now (c.from-2.result + 1),
      c.first_unit-after.ensures,
      ap length c.units-units.ensures.value,
    )

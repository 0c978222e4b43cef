-- the units of a plan are small and few
use Rattle.std.proofs.Common.{◌≤◌, ◌^◌, List, ap, arith, subst, sym}
use Rattle.std.proofs.Math.Nat.{div-le_self}
use Rattle.std.proofs.lemmas.List.Elements.{recursion_from_All}
use Rattle.std.specs.List.{All}
use Rattle.tor_plan.specs.WithinEntries.{unit_length}
use Rattle.tor_plan.specs.declared.units.PlanUnit.{PlanUnit}
use Rattle.tor_plan.proofs.ProvedLaws.{units_are_few}
use Rattle.tor_parts.specs.Dealing.{bytes_of}
use Rattle.tor_parts.proofs.DealtUnits.{few_bytes}
use Rattle.tor_parts.proofs.PlanUnits.{small_units}
use Rattle.tor_parts.proofs.counting.wanted_sums.Goals as goal

pub total_of-requires-clause-small : goal.total_of-requires-clause-small
total_of-requires-clause-small c =
    subst (λ (units : List PlanUnit). All (λ unit. unit_length unit ≤ 2 ^ 40) units) (sym c.units.ensures.value)
    (small_units c.args.plan.now c.units.ensures.planned)

pub overflow_mul-result : goal.overflow_mul-result
overflow_mul-result c =
    let plan = c.args.plan.now in
    let units = plan.units in
    let planned = c.units.ensures.planned in
    let small = few_bytes (2 ^ 40) units
    (recursion_from_All (λ (unit : PlanUnit). unit_length unit ≤ 2 ^ 40) units (small_units plan planned)) in
    let total = ap bytes_of c.units.ensures.value in
    omega (
      arith,
      small,
      units_are_few plan planned,
      total,
      c.total_of.ensures,
      div-le_self c.total_of.result c.from.result,
      c.div_ceil.ensures,
    )

-- one unit more
use Rattle.std.proofs.Common.{◌≤◌, ◌^◌, take, arith}
use Rattle.std.proofs.Common.{ap}
use Rattle.std.proofs.lemmas.List.{length-take-le}
use Rattle.std.proofs.lemmas.List.Elements.{All-take, recursion_from_All}
use Rattle.tor_plan.specs.WithinEntries.{unit_length}
use Rattle.tor_plan.specs.declared.units.PlanUnit.{PlanUnit}
use Rattle.tor_parts.proofs.DealtUnits.{few_bytes}
use Rattle.tor_parts.proofs.dealing.total_of.Goals as goal

pub overflow_add-total : goal.overflow_add-total
overflow_add-total c =
    let units = c.args.units.now in
    let i = c.units.unit-index in
    let own = c.unit-item.result in
    let few = few_bytes (2 ^ 40) (take i units) (recursion_from_All (λ (u : PlanUnit). unit_length u ≤ 2 ^ 40)
    (take i units)
    (All-take (λ (u : PlanUnit). unit_length u ≤ 2 ^ 40) i units c.requires.small)) in
    omega (
      arith,
      few,
      length-take-le i units (omega (arith, c.units-test.true)),
      c.units.invariant,
      c.units-test.true,
      c.requires.few,
      c.from-total.ensures,
      c.unit_length.ensures,
      c.requires.small i own c.units-test.true,
      ap unit_length c.unit-item.is,
    )

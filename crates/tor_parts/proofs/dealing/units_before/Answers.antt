-- one unit more begins before the byte, or none does
use Rattle.std.proofs.Common.{◌≡◌, ◌+◌, drop, get_or, arith, ap, ◌∙◌}
use Rattle.tor_plan.specs.WithinEntries.{unit_length}
use Rattle.tor_parts.specs.Dealing.{units_before}
use Rattle.tor_parts.proofs.DealtUnits.{all_before, next_before, past_before}
use Rattle.tor_parts.proofs.dealing.units_before.Goals as goal

pub returns-then-at-byte : goal.returns-then-at-byte
returns-then-at-byte c =
    omega (
      arith,
      c.units.invariant.counted,
      past_before c.args.byte c.units.at (drop c.units.index c.args.units.now) c.if-at-byte.true,
    )

pub units-preserved : goal.units-preserved
units-preserved c =
    let units = c.args.units.now in
    let i = c.units.index in
    let own = c.index-units-index.result in
    let long : c.from-at.result ≡ unit_length (get_or units i own) =
    c.from-at.ensures ∙ c.unit_length.ensures ∙ ap unit_length c.index-units-index.is in
    let next = next_before c.args.byte c.units.at i units own c.units-test.true c.if-at-byte.false in
    let there : units_before c.args.byte (c.units.at + c.from-at.result) (drop (i + 1) units)
    ≡ units_before c.args.byte (c.units.at + unit_length (get_or units i own)) (drop (i + 1) units) =
    ap (λ n. units_before c.args.byte (c.units.at + n) (drop (i + 1) units)) long in
    record {
      counted = omega (arith, c.units.invariant.counted, next, there);
      within = omega (arith, c.units.invariant.within, long, c.requires.small i own c.units-test.true);
    }

pub returns : goal.returns
returns c =
    omega (
      arith,
      c.units.invariant.counted,
      all_before c.args.byte c.units.at c.units.index c.args.units.now c.units-test.false,
      c.units-test.false,
      c.units.auto.index-end,
    )

-- one unit more begins before the byte, or none does
use Rattle.std.proofs.Common.{◌≡◌, ◌<◌, ◌≤◌, ◌∙◌, ◌+◌, ◌*◌, ◌^◌, ℕ, zero, suc, List, [], ◌∷◌, ap, arith, drop, get_or, length, refl, take}
use Rattle.std.proofs.lemmas.List.{length-take-le, take_more}
use Rattle.std.proofs.lemmas.List.Elements.{recursion_from_All}
use Rattle.std.proofs.lemmas.List.Sums.{sum_by-append, sum_by-cons}
use Rattle.std.specs.List.{AllByRecursion}
use Rattle.tor_parts.specs.Dealing.{bytes_of, units_before}
use Rattle.tor_parts.proofs.DealtUnits.{all_before, few_bytes, next_before, past_before}
use Rattle.tor_plan.specs.WithinEntries.{unit_length}
use Rattle.tor_plan.specs.declared.units.PlanUnit.{PlanUnit}
use Rattle.tor_parts.proofs.dealing.first_from.Goals as goal

taken : (n : ℕ) (units : List PlanUnit) → AllByRecursion (λ unit. unit_length unit ≤ 2 ^ 40) units
    → n ≤ length units → bytes_of (take n units) ≤ n * 2 ^ 40
taken n units small within =
    omega (arith, few_bytes (2 ^ 40) (take n units) (first n units small), length-take-le n units within)
  where
    first : (n : ℕ) (units : List PlanUnit) → AllByRecursion (λ unit. unit_length unit ≤ 2 ^ 40) units
        → AllByRecursion (λ (unit : PlanUnit). unit_length unit ≤ 2 ^ 40) (take n units)
    first zero units small = tt
    first (suc n) [] small = tt
    first (suc n) (unit ∷ units) small = (small.0, first n units small.1)

more_bytes : (n : ℕ) (units : List PlanUnit) (d : PlanUnit) → n < length units
    → bytes_of (take (n + 1) units) ≡ bytes_of (take n units) + unit_length (get_or units n d)
more_bytes n units d there =
    ap bytes_of (take_more units n d there)
    ∙ sum_by-append unit_length (take n units) (get_or units n d ∷ [])
    ∙ ap (λ m. bytes_of (take n units) + m) (one (get_or units n d))
  where
    one : (unit : PlanUnit) → bytes_of (unit ∷ []) ≡ unit_length unit
    one unit = omega (arith, sum_by-cons unit_length unit [])

pub units-init : goal.units-init
units-init c =
    let units = c.args.units.now in
    record {
      counted = refl;
      begins = c.requires.at;
      within = c.requires.within;
      few = omega (
        arith,
        c.requires.at,
        taken c.args.from units (recursion_from_All (λ (unit : PlanUnit). unit_length unit ≤ 2 ^ 40) units c.requires.small)
            c.requires.within,
      );
    }

pub returns-then-begins-byte-clause-first : goal.returns-then-begins-byte-clause-first
returns-then-begins-byte-clause-first c =
    omega (
      arith,
      c.units.invariant.counted,
      past_before c.args.byte c.units.begins (drop c.units.index c.args.units.now) c.if-begins-byte.true,
    )

pub units-preserved : goal.units-preserved
units-preserved c =
    let units = c.args.units.now in
    let i = c.units.index in
    let own = c.index-units-index.result in
    let long : c.from-begins.result ≡ unit_length (get_or units i own) =
    c.from-begins.ensures ∙ c.unit_length.ensures ∙ ap unit_length c.index-units-index.is in
    let next = next_before c.args.byte c.units.begins i units own c.units-test.true c.if-begins-byte.false in
    let there : units_before c.args.byte (c.units.begins + c.from-begins.result) (drop (i + 1) units)
    ≡ units_before c.args.byte (c.units.begins + unit_length (get_or units i own)) (drop (i + 1) units) =
    ap (λ n. units_before c.args.byte (c.units.begins + n) (drop (i + 1) units)) long in
    record {
      counted = omega (arith, c.units.invariant.counted, next, there);
      begins = omega (arith, c.units.invariant.begins, long, more_bytes i units own c.units-test.true);
      within = omega (arith, c.units-test.true);
      few = omega (arith, c.units.invariant.few, long, c.requires.small i own c.units-test.true);
    }

pub returns-clause-first : goal.returns-clause-first
returns-clause-first c =
    omega (
      arith,
      c.units.invariant.counted,
      all_before c.args.byte c.units.begins c.units.index c.args.units.now c.units-test.false,
      c.units-test.false,
      c.units.invariant.within,
    )

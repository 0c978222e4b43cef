-- one digit more that is 0
use Rattle.tor_merkle.proofs.Names.{◌≡◌, ◌*◌, ◌/◌, ◌^◌, arith, ap, ◌∙◌, sym, add-one, mul_assoc, mul-le-mul_right}
use Rattle.tor_merkle.proofs.Names.{pow-succ'}
use Rattle.tor_merkle.proofs.BinaryDigits.{power_within}
use Rattle.tor_merkle.proofs.digits.lowest_one.Goals as goal

pub overflow_add-digit : goal.overflow_add-digit
overflow_add-digit c =
    let low = mul-le-mul_right {m = 1} {n = c.zeros.odd} (2 ^ c.zeros.digit) (omega arith) in
    omega (arith, power_within c.zeros.digit 64 (omega (arith, c.ranges.count.fits)))

pub zeros-preserved : goal.zeros-preserved
zeros-preserved c =
    let half : c.zeros.odd ≡ c.zeros.odd / 2 * 2 = omega arith in
    record {
      some = omega arith;
      whole =
          c.zeros.invariant.whole ∙ ap (λ n. n * 2 ^ c.zeros.digit) half
          ∙ mul_assoc (c.zeros.odd / 2) 2 (2 ^ c.zeros.digit)
          ∙ ap (λ n. c.zeros.odd / 2 * n) (sym (pow-succ' 2 c.zeros.digit))
          ∙ ap (λ n. c.zeros.odd / 2 * 2 ^ n) (sym (add-one c.zeros.digit));
    }

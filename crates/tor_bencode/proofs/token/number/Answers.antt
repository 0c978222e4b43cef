use Rattle.tor_bencode.proofs.Names.{◌^◌, arith, number}
use Rattle.tor_bencode.proofs.Numerals.{too_large}
use Rattle.tor_bencode.proofs.token.number.Goals as goal

pub returns-in_err-checked_mul : goal.returns-in_err-checked_mul
returns-in_err-checked_mul c =
    rw c.from_residual.ensures
    (too_large c.loop-digit.n (number c.args.digits.now) c.args.digits.now c.loop-digit.digit-index 0
    (2 ^ 64) c.loop-digit-test.true c.loop-digit.invariant.0 (λ h. c.in_err-checked_mul.ensures (omega arith)))

pub returns-in_err-n : goal.returns-in_err-n
returns-in_err-n c =
    rw c.from_residual-in_err-n.ensures
    (too_large c.loop-digit.n (number c.args.digits.now) c.args.digits.now c.loop-digit.digit-index 0
    (2 ^ 64) c.loop-digit-test.true c.loop-digit.invariant.0 (λ h. c.in_err-n.ensures (omega arith)))

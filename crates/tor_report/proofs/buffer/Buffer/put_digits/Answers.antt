-- The digits of one more byte are put.
use Rattle.std.proofs.Common.{subst, ℕ, List}
use Rattle.tor_report.specs.Put.{Puts}
use Rattle.tor_report.proofs.Faults.{fault_after}
use Rattle.tor_report.proofs.HexDigits.{digits_more, digits_rest, no_digits}
use Rattle.tor_report.proofs.Putting.{puts_both, puts_none}
use Rattle.tor_report.proofs.buffer.Buffer.put_digits.Goals as goal

pub bytes-init : goal.bytes-init
bytes-init g c = rw no_digits (puts_none _ _)

pub returns-in_err-put-clause-stopped : goal.returns-in_err-put-clause-stopped
returns-in_err-put-clause-stopped g c =
    fault_after g.S.Sink.lawful _ _ _ _ _ _ _ _ _ _ _ c.from_residual.ensures
    (digits_rest c.args.bytes.now c.bytes.byte-index c.digit.result c.digit-in-bytes.result c.bytes-test.true
    c.digit.ensures.lower c.digit-in-bytes.ensures.lower)
    c.bytes.invariant c.in_err-put.ensures.stopped

pub bytes-preserved : goal.bytes-preserved
bytes-preserved g c =
    subst
    (λ (xs : List ℕ). Puts g.S.Sink.took xs c.args.out.now c.args.self.now c.put.new.out
    c.put.new.self)
    (digits_more c.args.bytes.now c.bytes.byte-index c.digit.result c.digit-in-bytes.result c.bytes-test.true
    c.digit.ensures.lower c.digit-in-bytes.ensures.lower)
    (puts_both _ _ _ _ _ _ _ _ c.bytes.invariant c.in_ok-put.ensures.put)

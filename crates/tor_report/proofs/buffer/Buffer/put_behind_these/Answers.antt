-- The digits of a hash are in a string what they are.
use Rattle.tor_report.proofs.Faults.{fault_in, put_last, stop_last}
use Rattle.tor_report.proofs.HexDigits.{are_bytes, code_in_json}
use Rattle.tor_report.proofs.buffer.Buffer.put_behind_these.Goals as goal

pub returns-in_err-put_spelled-clause-stopped : goal.returns-in_err-put_spelled-clause-stopped
returns-in_err-put_spelled-clause-stopped g c =
    fault_in g.S.Sink.lawful _ _ _ _ _ _ _ _ c.from_residual.ensures (code_in_json c.args.before.now c.args.hash.now
    (are_bytes c.args.hash.now c.type_inv.hash))
    (rw c.as_bytes.ensures.value at c.in_err-put_spelled.ensures.stopped)

pub returns-clause-put : goal.returns-clause-put
returns-clause-put g c =
    put_last _ _ _ _ _ _ _ _ _ _ (code_in_json c.args.before.now c.args.hash.now (are_bytes c.args.hash.now
    c.type_inv.hash))
    (rw c.as_bytes.ensures.value at c.in_ok-put_spelled.ensures.put) c.put_digits.ensures.put

pub returns-clause-stopped : goal.returns-clause-stopped
returns-clause-stopped g c =
    stop_last g.S.Sink.lawful _ _ _ _ _ _ _ _ _ (code_in_json c.args.before.now c.args.hash.now (are_bytes
    c.args.hash.now c.type_inv.hash))
    (rw c.as_bytes.ensures.value at c.in_ok-put_spelled.ensures.put) c.put_digits.ensures.stopped

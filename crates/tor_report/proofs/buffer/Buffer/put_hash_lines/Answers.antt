-- The line of version 1, and that of version 2.
use Rattle.std.proofs.Common.{refl}
use Rattle.tor_report.proofs.Faults.{fault_in, put_last, stop_last}
use Rattle.tor_report.proofs.buffer.Buffer.put_hash_lines.Goals as goal

pub returns-in_err-put_hash_line-clause-stopped : goal.returns-in_err-put_hash_line-clause-stopped
returns-in_err-put_hash_line-clause-stopped g c =
    fault_in g.S.Sink.lawful _ _ _ _ _ _ _ _ c.from_residual.ensures refl
    (rw c.v1_of.ensures at c.in_err-put_hash_line.ensures.stopped)

pub returns-clause-put : goal.returns-clause-put
returns-clause-put g c =
    put_last _ _ _ _ _ _ _ _ _ _ refl (rw c.v1_of.ensures at c.in_ok-put_hash_line.ensures.put)
    (rw c.v2_of.ensures at c.put_hash_line-2.ensures.put)

pub returns-clause-stopped : goal.returns-clause-stopped
returns-clause-stopped g c =
    stop_last g.S.Sink.lawful _ _ _ _ _ _ _ _ _ refl (rw c.v1_of.ensures at c.in_ok-put_hash_line.ensures.put)
    (rw c.v2_of.ensures at c.put_hash_line-2.ensures.stopped)

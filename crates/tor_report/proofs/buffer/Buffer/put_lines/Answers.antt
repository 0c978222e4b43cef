-- The first lines, those of the files, and those of the hashes.
use Rattle.std.proofs.Common.{refl}
use Rattle.tor_report.proofs.Faults.{fault_after, fault_in, put_third, stop_third}
use Rattle.tor_report.proofs.buffer.Buffer.put_lines.Goals as goal

pub returns-in_err-put_head-clause-stopped : goal.returns-in_err-put_head-clause-stopped
returns-in_err-put_head-clause-stopped g c =
    fault_in g.S.Sink.lawful _ _ _ _ _ _ _ _ c.from_residual.ensures refl c.in_err-put_head.ensures.stopped

pub returns-in_err-put_file_lines-clause-stopped : goal.returns-in_err-put_file_lines-clause-stopped
returns-in_err-put_file_lines-clause-stopped g c =
    fault_after g.S.Sink.lawful _ _ _ _ _ _ _ _ _ _ _ c.from_residual-in_err-put_file_lines.ensures refl
    c.in_ok-put_head.ensures.put
    (rw c.files.ensures.value at c.in_err-put_file_lines.ensures.stopped)

pub returns-clause-put : goal.returns-clause-put
returns-clause-put g c =
    put_third g.S.Sink.lawful _ _ _ _ _ _ _ _ _ _ _ _ refl c.in_ok-put_head.ensures.put
    (rw c.files.ensures.value at c.in_ok-put_file_lines.ensures.put) _ c.put_hash_lines.ensures.put

pub returns-clause-stopped : goal.returns-clause-stopped
returns-clause-stopped g c =
    stop_third g.S.Sink.lawful _ _ _ _ _ _ _ _ _ _ _ _ refl c.in_ok-put_head.ensures.put
    (rw c.files.ensures.value at c.in_ok-put_file_lines.ensures.put) c.put_hash_lines.ensures.stopped

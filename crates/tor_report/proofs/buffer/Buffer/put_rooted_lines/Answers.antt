-- The lines of the torrent, and those of the roots.
use Rattle.std.proofs.Common.{refl}
use Rattle.tor_report.proofs.Faults.{fault_in, put_last, stop_last}
use Rattle.tor_report.proofs.buffer.Buffer.put_rooted_lines.Goals as goal

pub returns-in_err-put_lines-clause-stopped : goal.returns-in_err-put_lines-clause-stopped
returns-in_err-put_lines-clause-stopped g c =
    fault_in g.S.Sink.lawful _ _ _ _ _ _ _ _ c.from_residual.ensures refl c.in_err-put_lines.ensures.stopped

pub returns-clause-put : goal.returns-clause-put
returns-clause-put g c =
    put_last _ _ _ _ _ _ _ _ _ _ refl c.in_ok-put_lines.ensures.put
    (rw c.files.ensures.value at c.put_root_lines.ensures.put)

pub returns-clause-stopped : goal.returns-clause-stopped
returns-clause-stopped g c =
    stop_last g.S.Sink.lawful _ _ _ _ _ _ _ _ _ refl c.in_ok-put_lines.ensures.put
    (rw c.files.ensures.value at c.put_root_lines.ensures.stopped)

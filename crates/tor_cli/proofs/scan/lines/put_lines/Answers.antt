-- The lines of the files, the totals, and the refusals.
use Rattle.std.proofs.Common.{refl}
use Rattle.tor_report.proofs.ProvedLaws.{fault_after, fault_in, put_third, stop_third}
use Rattle.tor_cli.proofs.scan.lines.put_lines.Goals as goal

pub returns-in_err-put_files-clause-stopped : goal.returns-in_err-put_files-clause-stopped
returns-in_err-put_files-clause-stopped g c =
    fault_in g.S.Sink.lawful _ _ _ _ _ _ _ _ c.from_residual.ensures refl c.in_err-put_files.ensures.stopped

pub returns-in_err-put_totals-clause-stopped : goal.returns-in_err-put_totals-clause-stopped
returns-in_err-put_totals-clause-stopped g c =
    fault_after g.S.Sink.lawful _ _ _ _ _ _ _ _ _ _ _ c.from_residual-in_err-put_totals.ensures refl
    c.in_ok-put_files.ensures.put c.in_err-put_totals.ensures.stopped

pub returns-clause-put : goal.returns-clause-put
returns-clause-put g c =
    put_third g.S.Sink.lawful _ _ _ _ _ _ _ _ _ _ _ _ refl c.in_ok-put_files.ensures.put
    c.in_ok-put_totals.ensures.put _ (rw c.deref.ensures.value at c.put_refusals.ensures.put)

pub returns-clause-stopped : goal.returns-clause-stopped
returns-clause-stopped g c =
    stop_third g.S.Sink.lawful _ _ _ _ _ _ _ _ _ _ _ _ refl c.in_ok-put_files.ensures.put
    c.in_ok-put_totals.ensures.put (rw c.deref.ensures.value at c.put_refusals.ensures.stopped)

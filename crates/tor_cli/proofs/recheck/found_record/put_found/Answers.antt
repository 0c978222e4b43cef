-- The ranges, and what stands before and after them.
use Rattle.tor_cli.proofs.FoundSegments.{found_text}
use Rattle.tor_report.proofs.ProvedLaws.{fault_after, fault_in, put_third, stop_third}
use Rattle.tor_cli.proofs.recheck.found_record.put_found.Goals as goal

pub returns-in_err-put-clause-stopped : goal.returns-in_err-put-clause-stopped
returns-in_err-put-clause-stopped g c =
    fault_in g.S.Sink.lawful _ _ _ _ _ _ _ _ c.from_residual.ensures
    (found_text c.args.told.now c.args.file.now)
    c.in_err-put.ensures.stopped

pub returns-in_err-put_ranges-clause-stopped : goal.returns-in_err-put_ranges-clause-stopped
returns-in_err-put_ranges-clause-stopped g c =
    fault_after g.S.Sink.lawful _ _ _ _ _ _ _ _ _ _ _ c.from_residual-in_err-put_ranges.ensures
    (found_text c.args.told.now c.args.file.now)
    c.in_ok-put.ensures.put (rw c.deref.ensures.value at c.in_err-put_ranges.ensures.stopped)

pub returns-clause-put : goal.returns-clause-put
returns-clause-put g c =
    put_third g.S.Sink.lawful _ _ _ _ _ _ _ _ _ _ _ _
    (found_text c.args.told.now c.args.file.now)
    c.in_ok-put.ensures.put (rw c.deref.ensures.value at c.in_ok-put_ranges.ensures.put) _ c.put_members.ensures.put

pub returns-clause-stopped : goal.returns-clause-stopped
returns-clause-stopped g c =
    stop_third g.S.Sink.lawful _ _ _ _ _ _ _ _ _ _ _ _
    (found_text c.args.told.now c.args.file.now)
    c.in_ok-put.ensures.put (rw c.deref.ensures.value at c.in_ok-put_ranges.ensures.put) c.put_members.ensures.stopped

-- The object, and the line feed after it.
use Rattle.std.proofs.Common.{refl}
use Rattle.tor_report.proofs.ProvedLaws.{fault_in, put_last, stop_last}
use Rattle.tor_cli.proofs.recheck.record.put_record.Goals as goal

pub returns-in_err-put_object-clause-stopped : goal.returns-in_err-put_object-clause-stopped
returns-in_err-put_object-clause-stopped g c =
    fault_in g.S.Sink.lawful _ _ _ _ _ _ _ _ c.from_residual.ensures refl c.in_err-put_object.ensures.stopped

pub returns-clause-put : goal.returns-clause-put
returns-clause-put g c =
    put_last _ _ _ _ _ _ _ _ _ _ refl c.in_ok-put_object.ensures.put c.put.ensures.put

pub returns-clause-stopped : goal.returns-clause-stopped
returns-clause-stopped g c =
    stop_last g.S.Sink.lawful _ _ _ _ _ _ _ _ _ refl c.in_ok-put_object.ensures.put c.put.ensures.stopped

-- Digits between quotation marks.
use Rattle.std.proofs.Common.{refl}
use Rattle.tor_report.proofs.Faults.{fault_after, fault_in, put_third, stop_third}
use Rattle.tor_report.proofs.buffer.Buffer.put_behind.Goals as goal

pub returns-in_err-put-clause-stopped : goal.returns-in_err-put-clause-stopped
returns-in_err-put-clause-stopped g c =
    fault_in g.S.Sink.lawful _ _ _ _ _ _ _ _ c.from_residual.ensures refl c.in_err-put.ensures.stopped

pub returns-in_err-put_behind_these-clause-stopped : goal.returns-in_err-put_behind_these-clause-stopped
returns-in_err-put_behind_these-clause-stopped g c =
    fault_after g.S.Sink.lawful _ _ _ _ _ _ _ _ _ _ _ c.from_residual-in_err-put_behind_these.ensures refl
    c.in_ok-put.ensures.put c.in_err-put_behind_these.ensures.stopped

pub returns-clause-put : goal.returns-clause-put
returns-clause-put g c =
    put_third g.S.Sink.lawful _ _ _ _ _ _ _ _ _ _ _ _ refl c.in_ok-put.ensures.put
    c.in_ok-put_behind_these.ensures.put _ c.put-2.ensures.put

pub returns-clause-stopped : goal.returns-clause-stopped
returns-clause-stopped g c =
    stop_third g.S.Sink.lawful _ _ _ _ _ _ _ _ _ _ _ _ refl c.in_ok-put.ensures.put
    c.in_ok-put_behind_these.ensures.put c.put-2.ensures.stopped

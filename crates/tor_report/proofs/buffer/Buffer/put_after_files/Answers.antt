-- The plain members, the web seeds, and the bracket after them.
use Rattle.std.proofs.Common.{refl}
use Rattle.tor_report.proofs.Faults.{fault_after, fault_in, put_third, stop_third}
use Rattle.tor_report.proofs.buffer.Buffer.put_after_files.Goals as goal

pub returns-in_err-put_plain_members-clause-stopped : goal.returns-in_err-put_plain_members-clause-stopped
returns-in_err-put_plain_members-clause-stopped g c =
    fault_in g.S.Sink.lawful _ _ _ _ _ _ _ _ c.from_residual.ensures refl c.in_err-put_plain_members.ensures.stopped

pub returns-in_err-put_url_list-clause-stopped : goal.returns-in_err-put_url_list-clause-stopped
returns-in_err-put_url_list-clause-stopped g c =
    fault_after g.S.Sink.lawful _ _ _ _ _ _ _ _ _ _ _ c.from_residual-in_err-put_url_list.ensures refl
    c.in_ok-put_plain_members.ensures.put c.in_err-put_url_list.ensures.stopped

pub returns-clause-put : goal.returns-clause-put
returns-clause-put g c =
    put_third g.S.Sink.lawful _ _ _ _ _ _ _ _ _ _ _ _ refl c.in_ok-put_plain_members.ensures.put
    c.in_ok-put_url_list.ensures.put _ c.put.ensures.put

pub returns-clause-stopped : goal.returns-clause-stopped
returns-clause-stopped g c =
    stop_third g.S.Sink.lawful _ _ _ _ _ _ _ _ _ _ _ _ refl c.in_ok-put_plain_members.ensures.put
    c.in_ok-put_url_list.ensures.put c.put.ensures.stopped

-- The members of the trackers, and those of the hashes.
use Rattle.std.proofs.Common.{refl}
use Rattle.tor_report.proofs.Faults.{fault_after, fault_in, put_third, stop_third}
use Rattle.tor_report.proofs.buffer.Buffer.put_before_files.Goals as goal

pub returns-in_err-put_announce_member-clause-stopped : goal.returns-in_err-put_announce_member-clause-stopped
returns-in_err-put_announce_member-clause-stopped g c =
    fault_in g.S.Sink.lawful _ _ _ _ _ _ _ _ c.from_residual.ensures refl c.in_err-put_announce_member.ensures.stopped

pub returns-in_err-put_announce_list_member-clause-stopped : goal.returns-in_err-put_announce_list_member-clause-stopped
returns-in_err-put_announce_list_member-clause-stopped g c =
    fault_after g.S.Sink.lawful _ _ _ _ _ _ _ _ _ _ _ c.from_residual-in_err-put_announce_list_member.ensures refl
    c.in_ok-put_announce_member.ensures.put c.in_err-put_announce_list_member.ensures.stopped

pub returns-clause-put : goal.returns-clause-put
returns-clause-put g c =
    put_third g.S.Sink.lawful _ _ _ _ _ _ _ _ _ _ _ _ refl c.in_ok-put_announce_member.ensures.put
    c.in_ok-put_announce_list_member.ensures.put _ c.put_hash_members.ensures.put

pub returns-clause-stopped : goal.returns-clause-stopped
returns-clause-stopped g c =
    stop_third g.S.Sink.lawful _ _ _ _ _ _ _ _ _ _ _ _ refl c.in_ok-put_announce_member.ensures.put
    c.in_ok-put_announce_list_member.ensures.put c.put_hash_members.ensures.stopped

-- The piece length, the items, and the bracket after them.
use Rattle.tor_cli.proofs.ScanSegments.{refusals_text}
use Rattle.tor_report.proofs.ProvedLaws.{fault_after, fault_in, put_third, stop_third}
use Rattle.tor_cli.proofs.scan.record.put_refused_member.Goals as goal

pub returns-in_err-put_all-clause-stopped : goal.returns-in_err-put_all-clause-stopped
returns-in_err-put_all-clause-stopped g c =
    fault_in g.S.Sink.lawful _ _ _ _ _ _ _ _ c.from_residual.ensures
    (refusals_text c.args.piece_length c.args.refused.now)
    c.in_err-put_all.ensures.stopped

pub returns-in_err-put_refusals-clause-stopped : goal.returns-in_err-put_refusals-clause-stopped
returns-in_err-put_refusals-clause-stopped g c =
    fault_after g.S.Sink.lawful _ _ _ _ _ _ _ _ _ _ _ c.from_residual-in_err-put_refusals.ensures
    (refusals_text c.args.piece_length c.args.refused.now)
    c.in_ok-put_all.ensures.put c.in_err-put_refusals.ensures.stopped

pub returns-clause-put : goal.returns-clause-put
returns-clause-put g c =
    put_third g.S.Sink.lawful _ _ _ _ _ _ _ _ _ _ _ _
    (refusals_text c.args.piece_length c.args.refused.now)
    c.in_ok-put_all.ensures.put c.in_ok-put_refusals.ensures.put _ c.put.ensures.put

pub returns-clause-stopped : goal.returns-clause-stopped
returns-clause-stopped g c =
    stop_third g.S.Sink.lawful _ _ _ _ _ _ _ _ _ _ _ _
    (refusals_text c.args.piece_length c.args.refused.now)
    c.in_ok-put_all.ensures.put c.in_ok-put_refusals.ensures.put c.put.ensures.stopped

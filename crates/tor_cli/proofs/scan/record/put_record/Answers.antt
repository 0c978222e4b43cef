-- The members up to the files, those up to what is refused, and the bracket.
use Rattle.std.proofs.Common.{◌∙◌, ap, refl}
use Rattle.tor_cli.specs.make.FileSizes.{total_of}
use Rattle.tor_cli.proofs.ScanSegments.{scan_record}
use Rattle.tor_report.proofs.ProvedLaws.{fault_after, fault_in, put_third, stop_third}
use Rattle.tor_cli.proofs.scan.record.put_record.Goals as goal

pub returns-in_err-put_files_member-clause-stopped : goal.returns-in_err-put_files_member-clause-stopped
returns-in_err-put_files_member-clause-stopped g c =
    fault_in g.S.Sink.lawful _ _ _ _ _ _ _ _ c.from_residual.ensures
    (scan_record c.args.found.now c.total_of-bytes.result _ _
    (c.total_of-bytes.ensures ∙ ap total_of c.deref.ensures.value) refl refl)
    c.in_err-put_files_member.ensures.stopped

pub returns-in_err-put_refused_member-clause-stopped : goal.returns-in_err-put_refused_member-clause-stopped
returns-in_err-put_refused_member-clause-stopped g c =
    fault_after g.S.Sink.lawful _ _ _ _ _ _ _ _ _ _ _ c.from_residual-in_err-put_refused_member.ensures
    (scan_record c.args.found.now c.total_of-bytes.result c.auto_piece_length.result c.deref-2.result.now
    (c.total_of-bytes.ensures ∙ ap total_of c.deref.ensures.value) c.auto_piece_length.ensures c.deref-2.ensures.value)
    c.in_ok-put_files_member.ensures.put c.in_err-put_refused_member.ensures.stopped

pub returns-clause-put : goal.returns-clause-put
returns-clause-put g c =
    put_third g.S.Sink.lawful _ _ _ _ _ _ _ _ _ _ _ _
    (scan_record c.args.found.now c.total_of-bytes.result c.auto_piece_length.result c.deref-2.result.now
    (c.total_of-bytes.ensures ∙ ap total_of c.deref.ensures.value) c.auto_piece_length.ensures c.deref-2.ensures.value)
    c.in_ok-put_files_member.ensures.put c.in_ok-put_refused_member.ensures.put _ c.put.ensures.put

pub returns-clause-stopped : goal.returns-clause-stopped
returns-clause-stopped g c =
    stop_third g.S.Sink.lawful _ _ _ _ _ _ _ _ _ _ _ _
    (scan_record c.args.found.now c.total_of-bytes.result c.auto_piece_length.result c.deref-2.result.now
    (c.total_of-bytes.ensures ∙ ap total_of c.deref.ensures.value) c.auto_piece_length.ensures c.deref-2.ensures.value)
    c.in_ok-put_files_member.ensures.put c.in_ok-put_refused_member.ensures.put c.put.ensures.stopped

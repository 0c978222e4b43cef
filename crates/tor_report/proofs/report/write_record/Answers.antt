-- What was put is what was written.
use Rattle.std.proofs.Common.{◌∙◌, [], subst, List}
use Rattle.std.specs.Io.KnownBytes.{Appends}
use Rattle.std.specs.Prelude.{IfErr}
use Rattle.serde_json.specs.Data.{object}
use Rattle.tor_bencode.specs.RefView.{view}
use Rattle.tor_view.specs.FileBytes.{PiecedFile}
use Rattle.tor_report.specs.Records.{check_line, members_of, record_line}
use Rattle.tor_report.specs.Reports.{IsCutShort}
use Rattle.tor_report.proofs.Putting.{put_nothing}
use Rattle.tor_report.specs.Writers.{writer_is_sink}
use Rattle.tor_report.proofs.Reports.{at_write, without_memory}
use Rattle.tor_report.proofs.report.write_record.Goals as goal

pub returns-in_err-buffer-clause-stopped : goal.returns-in_err-buffer-clause-stopped
returns-in_err-buffer-clause-stopped g c =
    without_memory _ (check_line (view c.args.root.now) c.args.torrent.now c.args.hashes.now) _
    c.from_residual.ensures

pub returns-in_err-pieces-clause-stopped : goal.returns-in_err-pieces-clause-stopped
returns-in_err-pieces-clause-stopped g c =
    without_memory _ (check_line (view c.args.root.now) c.args.torrent.now c.args.hashes.now) _
    c.from_residual-in_err-pieces.ensures

pub returns-in_err-put_record-clause-stopped : goal.returns-in_err-put_record-clause-stopped
returns-in_err-put_record-clause-stopped g c =
    let start = c.args.out.now in
    let fresh = put_nothing (writer_is_sink g.W.Write.contents) start c.in_ok-buffer.buffer c.in_ok-buffer.ensures in
    let stopped = c.in_err-put_record.ensures.stopped.after start [] fresh in
    subst
    (λ (pieces : List PiecedFile). IfErr c.from_residual-in_err-put_record.result (IsCutShort
    (record_line (object (members_of (view c.args.root.now) c.args.torrent.now pieces c.args.hashes.now)))
    (g.W.Write.contents start) (g.W.Write.contents c.put_record.new.out)))
    (c.deref.ensures.value ∙ c.in_ok-pieces.ensures.files)
    (at_write _ _ _ _ _ c.from_residual-in_err-put_record.ensures (stopped.0, stopped.1))

pub returns-in_err-end-clause-stopped : goal.returns-in_err-end-clause-stopped
returns-in_err-end-clause-stopped g c =
    let start = c.args.out.now in
    let fresh = put_nothing (writer_is_sink g.W.Write.contents) start c.in_ok-buffer.buffer c.in_ok-buffer.ensures in
    let stopped = c.in_err-end.ensures.stopped start _ (c.in_ok-put_record.ensures.put.after start [] fresh) in
    subst
    (λ (pieces : List PiecedFile). IfErr c.from_residual-in_err-end.result (IsCutShort
    (record_line (object (members_of (view c.args.root.now) c.args.torrent.now pieces c.args.hashes.now)))
    (g.W.Write.contents start) (g.W.Write.contents c.end.new.out)))
    (c.deref.ensures.value ∙ c.in_ok-pieces.ensures.files)
    (at_write _ _ _ _ _ c.from_residual-in_err-end.ensures (stopped.0, stopped.1))

pub returns-clause-printed : goal.returns-clause-printed
returns-clause-printed g c =
    let start = c.args.out.now in
    let fresh = put_nothing (writer_is_sink g.W.Write.contents) start c.in_ok-buffer.buffer c.in_ok-buffer.ensures in
    subst
    (λ (pieces : List PiecedFile). Appends (g.W.Write.contents start) (g.W.Write.contents c.end.new.out)
    (record_line (object (members_of (view c.args.root.now) c.args.torrent.now pieces c.args.hashes.now))))
    (c.deref.ensures.value ∙ c.in_ok-pieces.ensures.files)
    (c.in_ok-end.ensures.whole start _ (c.in_ok-put_record.ensures.put.after start [] fresh))

-- What was put is what was sent.
use Rattle.std.proofs.Common.{◌∙◌, [], subst, List}
use Rattle.std.specs.Prelude.{IfErr}
use Rattle.serde_json.specs.Data.{object}
use Rattle.serde_json.specs.Written.{compact_text}
use Rattle.tor_bencode.specs.RefView.{view}
use Rattle.tor_view.specs.FileBytes.{PiecedFile}
use Rattle.tor_report.specs.Records.{check_members, members_of}
use Rattle.tor_report.specs.Reports.{IsReportStopped}
use Rattle.tor_report.proofs.Putting.{put_nothing}
use Rattle.tor_report.proofs.Reports.{at_send, without_memory_sent}
use Rattle.tor_report.proofs.report.send_object.Goals as goal

pub returns-in_err-buffer-clause-stopped : goal.returns-in_err-buffer-clause-stopped
returns-in_err-buffer-clause-stopped g c =
    without_memory_sent g.S.Sink.took g.S.Sink.fails _
    (compact_text (object (check_members (view c.args.root.now) c.args.torrent.now c.args.hashes.now))) _
    c.from_residual.ensures

pub returns-in_err-pieces-clause-stopped : goal.returns-in_err-pieces-clause-stopped
returns-in_err-pieces-clause-stopped g c =
    without_memory_sent g.S.Sink.took g.S.Sink.fails _
    (compact_text (object (check_members (view c.args.root.now) c.args.torrent.now c.args.hashes.now))) _
    c.from_residual-in_err-pieces.ensures

pub returns-in_err-put_object-clause-stopped : goal.returns-in_err-put_object-clause-stopped
returns-in_err-put_object-clause-stopped g c =
    let start = c.args.out.now in
    let fresh = put_nothing g.S.Sink.lawful start c.in_ok-buffer.buffer c.in_ok-buffer.ensures in
    subst
    (λ (pieces : List PiecedFile). IfErr c.from_residual-in_err-put_object.result (IsReportStopped g.S.Sink.took
    g.S.Sink.fails
    (compact_text (object (members_of (view c.args.root.now) c.args.torrent.now pieces c.args.hashes.now)))
    start c.put_object.new.out))
    (c.deref.ensures.value ∙ c.in_ok-pieces.ensures.files)
    (at_send g.S.Sink.took g.S.Sink.fails _ _ _ _ _ c.from_residual-in_err-put_object.ensures
    (c.in_err-put_object.ensures.stopped.after start [] fresh))

pub returns-in_err-end-clause-stopped : goal.returns-in_err-end-clause-stopped
returns-in_err-end-clause-stopped g c =
    let start = c.args.out.now in
    let fresh = put_nothing g.S.Sink.lawful start c.in_ok-buffer.buffer c.in_ok-buffer.ensures in
    subst
    (λ (pieces : List PiecedFile). IfErr c.from_residual-in_err-end.result (IsReportStopped g.S.Sink.took
    g.S.Sink.fails
    (compact_text (object (members_of (view c.args.root.now) c.args.torrent.now pieces c.args.hashes.now)))
    start c.end.new.out))
    (c.deref.ensures.value ∙ c.in_ok-pieces.ensures.files)
    (at_send g.S.Sink.took g.S.Sink.fails _ _ _ _ _ c.from_residual-in_err-end.ensures
    (c.in_err-end.ensures.stopped start _ (c.in_ok-put_object.ensures.put.after start [] fresh)))

pub returns-clause-sent : goal.returns-clause-sent
returns-clause-sent g c =
    let start = c.args.out.now in
    let fresh = put_nothing g.S.Sink.lawful start c.in_ok-buffer.buffer c.in_ok-buffer.ensures in
    subst
    (λ (pieces : List PiecedFile). g.S.Sink.took start c.end.new.out
    (compact_text (object (members_of (view c.args.root.now) c.args.torrent.now pieces c.args.hashes.now))))
    (c.deref.ensures.value ∙ c.in_ok-pieces.ensures.files)
    (c.in_ok-end.ensures.whole start _ (c.in_ok-put_object.ensures.put.after start [] fresh))

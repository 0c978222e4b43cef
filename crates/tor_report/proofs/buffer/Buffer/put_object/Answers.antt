-- The members before the files, the files, and the members after them.
use Rattle.tor_bencode.specs.RefView.{view}
use Rattle.tor_report.proofs.Faults.{fault_after, fault_in, put_third, stop_third}
use Rattle.tor_report.proofs.MembersTexts.{object_text}
use Rattle.tor_report.proofs.buffer.Buffer.put_object.Goals as goal

pub returns-in_err-put_before_files-clause-stopped : goal.returns-in_err-put_before_files-clause-stopped
returns-in_err-put_before_files-clause-stopped g c =
    fault_in g.S.Sink.lawful _ _ _ _ _ _ _ _ c.from_residual.ensures
    (object_text (view c.args.root.now) c.args.torrent.now c.args.pieces.now c.args.hashes.now)
    c.in_err-put_before_files.ensures.stopped

pub returns-in_err-put_files-clause-stopped : goal.returns-in_err-put_files-clause-stopped
returns-in_err-put_files-clause-stopped g c =
    fault_after g.S.Sink.lawful _ _ _ _ _ _ _ _ _ _ _ c.from_residual-in_err-put_files.ensures
    (object_text (view c.args.root.now) c.args.torrent.now c.args.pieces.now c.args.hashes.now)
    c.in_ok-put_before_files.ensures.put (rw c.files.ensures.value at c.in_err-put_files.ensures.stopped)

pub returns-clause-put : goal.returns-clause-put
returns-clause-put g c =
    put_third g.S.Sink.lawful _ _ _ _ _ _ _ _ _ _ _ _
    (object_text (view c.args.root.now) c.args.torrent.now c.args.pieces.now c.args.hashes.now)
    c.in_ok-put_before_files.ensures.put (rw c.files.ensures.value at c.in_ok-put_files.ensures.put) _
    c.put_after_files.ensures.put

pub returns-clause-stopped : goal.returns-clause-stopped
returns-clause-stopped g c =
    stop_third g.S.Sink.lawful _ _ _ _ _ _ _ _ _ _ _ _
    (object_text (view c.args.root.now) c.args.torrent.now c.args.pieces.now c.args.hashes.now)
    c.in_ok-put_before_files.ensures.put (rw c.files.ensures.value at c.in_ok-put_files.ensures.put)
    c.put_after_files.ensures.stopped

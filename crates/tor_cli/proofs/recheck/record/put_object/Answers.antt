-- The members before the files, the files, and the members after them.
use Rattle.tor_cli.proofs.FoundSegments.{object_text}
use Rattle.tor_report.proofs.ProvedLaws.{fault_after, fault_in, put_third, stop_third}
use Rattle.tor_cli.proofs.recheck.record.put_object.Goals as goal

pub returns-in_err-put_before_files-clause-stopped : goal.returns-in_err-put_before_files-clause-stopped
returns-in_err-put_before_files-clause-stopped g c =
    fault_in g.S.Sink.lawful _ _ _ _ _ _ _ _ c.from_residual.ensures
    (object_text c.args.listing c.args.judged.now.torrent c.args.judged.now.hashes c.args.bits.now c.args.told.now
    c.args.packed.now c.requires)
    c.in_err-put_before_files.ensures.stopped

pub returns-in_err-put_files-clause-stopped : goal.returns-in_err-put_files-clause-stopped
returns-in_err-put_files-clause-stopped g c =
    fault_after g.S.Sink.lawful _ _ _ _ _ _ _ _ _ _ _ c.from_residual-in_err-put_files.ensures
    (object_text c.args.listing c.args.judged.now.torrent c.args.judged.now.hashes c.args.bits.now c.args.told.now
    c.args.packed.now c.requires)
    c.in_ok-put_before_files.ensures.put (rw c.files.ensures.value at c.in_err-put_files.ensures.stopped)

pub returns-clause-put : goal.returns-clause-put
returns-clause-put g c =
    put_third g.S.Sink.lawful _ _ _ _ _ _ _ _ _ _ _ _
    (object_text c.args.listing c.args.judged.now.torrent c.args.judged.now.hashes c.args.bits.now c.args.told.now
    c.args.packed.now c.requires)
    c.in_ok-put_before_files.ensures.put (rw c.files.ensures.value at c.in_ok-put_files.ensures.put) _
    c.put_after_files.ensures.put

pub returns-clause-stopped : goal.returns-clause-stopped
returns-clause-stopped g c =
    stop_third g.S.Sink.lawful _ _ _ _ _ _ _ _ _ _ _ _
    (object_text c.args.listing c.args.judged.now.torrent c.args.judged.now.hashes c.args.bits.now c.args.told.now
    c.args.packed.now c.requires)
    c.in_ok-put_before_files.ensures.put (rw c.files.ensures.value at c.in_ok-put_files.ensures.put)
    c.put_after_files.ensures.stopped

-- The request is of a torrent or a proof in a file; the reader stays.
use Rattle.tor_cli.proofs.Doing.{is_answered, is_done, is_stopped}
use Rattle.tor_cli.proofs.execute.perform.Goals as goal

pub returns-in-Check-clause-done : goal.returns-in-Check-clause-done
returns-in-Check-clause-done g c =
    rw c.in-Check.is
    (is_done _ c.tell_torrent.result c.done-in-Check.result c.done-in-Check.ensures
    (c.tell_torrent.ensures.printed (g.R.Read.remaining c.args.reader.now)))

pub returns-in-Check-clause-stopped : goal.returns-in-Check-clause-stopped
returns-in-Check-clause-stopped g c =
    rw c.in-Check.is
    (is_stopped _ c.tell_torrent.result c.done-in-Check.result c.done-in-Check.ensures
    (c.tell_torrent.ensures.stopped (g.R.Read.remaining c.args.reader.now)))

pub returns-in-Magnet-clause-done : goal.returns-in-Magnet-clause-done
returns-in-Magnet-clause-done g c =
    rw c.in-Magnet.is
    (is_done _ c.tell_torrent-in-Magnet.result c.done-in-Magnet.result c.done-in-Magnet.ensures
    (c.tell_torrent-in-Magnet.ensures.printed (g.R.Read.remaining c.args.reader.now)))

pub returns-in-Magnet-clause-stopped : goal.returns-in-Magnet-clause-stopped
returns-in-Magnet-clause-stopped g c =
    rw c.in-Magnet.is
    (is_stopped _ c.tell_torrent-in-Magnet.result c.done-in-Magnet.result c.done-in-Magnet.ensures
    (c.tell_torrent-in-Magnet.ensures.stopped (g.R.Read.remaining c.args.reader.now)))

pub returns-in-Prove-clause-done : goal.returns-in-Prove-clause-done
returns-in-Prove-clause-done g c =
    rw c.in-Prove.is
    (is_done _ c.prove.result c.done-in-Prove.result c.done-in-Prove.ensures
    (c.prove.ensures.proved (g.R.Read.remaining c.args.reader.now)))

pub returns-in-Prove-clause-stopped : goal.returns-in-Prove-clause-stopped
returns-in-Prove-clause-stopped g c =
    rw c.in-Prove.is
    (is_stopped _ c.prove.result c.done-in-Prove.result c.done-in-Prove.ensures
    (c.prove.ensures.stopped (g.R.Read.remaining c.args.reader.now)))

pub returns-in-Verify-clause-done : goal.returns-in-Verify-clause-done
returns-in-Verify-clause-done g c =
    rw c.in-Verify.is
    (is_answered _ _ c.verify.result (λ yes. yes) (λ no. no)
    (c.verify.ensures.answered (g.R.Read.remaining c.args.reader.now)))

pub returns-in-Verify-clause-stopped : goal.returns-in-Verify-clause-stopped
returns-in-Verify-clause-stopped g c =
    rw c.in-Verify.is (c.verify.ensures.stopped (g.R.Read.remaining c.args.reader.now))

pub returns-in-Recheck-clause-done : goal.returns-in-Recheck-clause-done
returns-in-Recheck-clause-done g c =
    rw c.in-Recheck.is
    (is_answered _ _ c.recheck.result (λ yes. yes) (λ no. no)
    (c.recheck.ensures.answered (g.R.Read.remaining c.args.reader.now)))

pub returns-in-Recheck-clause-stopped : goal.returns-in-Recheck-clause-stopped
returns-in-Recheck-clause-stopped g c =
    rw c.in-Recheck.is (c.recheck.ensures.stopped (g.R.Read.remaining c.args.reader.now))

pub returns-in-Scan-clause-done : goal.returns-in-Scan-clause-done
returns-in-Scan-clause-done g c =
    rw c.in-Scan.is (is_answered _ _ c.scan.result (λ yes. yes) (λ no. no) c.scan.ensures.answered)

pub returns-in-Lot-clause-done : goal.returns-in-Lot-clause-done
returns-in-Lot-clause-done g c =
    rw c.in-Lot.is
    (is_done _ c.lot.result c.done-in-Lot.result c.done-in-Lot.ensures
    (c.lot.ensures.made (g.R.Read.remaining c.args.reader.now)))

pub returns-in-Lot-clause-stopped : goal.returns-in-Lot-clause-stopped
returns-in-Lot-clause-stopped g c =
    rw c.in-Lot.is
    (is_stopped _ c.lot.result c.done-in-Lot.result c.done-in-Lot.ensures
    (c.lot.ensures.stopped (g.R.Read.remaining c.args.reader.now)))

pub returns-in-Join-clause-done : goal.returns-in-Join-clause-done
returns-in-Join-clause-done g c =
    rw c.in-Join.is
    (is_done _ c.join.result c.done-in-Join.result c.done-in-Join.ensures
    (c.join.ensures.made (g.R.Read.remaining c.args.reader.now)))

pub returns-in-Join-clause-stopped : goal.returns-in-Join-clause-stopped
returns-in-Join-clause-stopped g c =
    rw c.in-Join.is
    (is_stopped _ c.join.result c.done-in-Join.result c.done-in-Join.ensures
    (c.join.ensures.stopped (g.R.Read.remaining c.args.reader.now)))

pub returns-in-Edit-clause-done : goal.returns-in-Edit-clause-done
returns-in-Edit-clause-done g c =
    rw c.in-Edit.is
    (is_done _ c.edit.result c.done-in-Edit.result c.done-in-Edit.ensures
    (c.edit.ensures.edited (g.R.Read.remaining c.args.reader.now)))

pub returns-in-Edit-clause-stopped : goal.returns-in-Edit-clause-stopped
returns-in-Edit-clause-stopped g c =
    rw c.in-Edit.is
    (is_stopped _ c.edit.result c.done-in-Edit.result c.done-in-Edit.ensures
    (c.edit.ensures.stopped (g.R.Read.remaining c.args.reader.now)))

pub returns-in-RecheckLot-clause-done : goal.returns-in-RecheckLot-clause-done
returns-in-RecheckLot-clause-done g c =
    rw c.in-RecheckLot.is
    (is_answered _ _ c.recheck_part.result (λ yes. yes) (λ no. no)
    (c.recheck_part.ensures.answered (g.R.Read.remaining c.args.reader.now)))

pub returns-in-RecheckLot-clause-stopped : goal.returns-in-RecheckLot-clause-stopped
returns-in-RecheckLot-clause-stopped g c =
    rw c.in-RecheckLot.is (c.recheck_part.ensures.stopped (g.R.Read.remaining c.args.reader.now))

pub returns-in-Extra-clause-done : goal.returns-in-Extra-clause-done
returns-in-Extra-clause-done g c =
    rw c.in-Extra.is
    (is_answered _ _ c.tell_extra.result (λ yes. yes) (λ no. no)
    (c.tell_extra.ensures.answered (g.R.Read.remaining c.args.reader.now)))

pub returns-in-Extra-clause-stopped : goal.returns-in-Extra-clause-stopped
returns-in-Extra-clause-stopped g c =
    rw c.in-Extra.is (c.tell_extra.ensures.stopped (g.R.Read.remaining c.args.reader.now))

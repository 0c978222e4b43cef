-- What is told is that of the torrent that was judged; a place that is refused is no fault of a recheck.
use Rattle.tor_cli.proofs.Rechecking.{unplaced, unplaced_past}
use Rattle.tor_cli.proofs.recheck.command.report_at.Goals as goal

pub returns-in-Err-clause-stopped : goal.returns-in-Err-clause-stopped
returns-in-Err-clause-stopped g c =
    unplaced c.args.options.now.workers c.args.bytes.now c.in-Err.fault c.in-Err.ensures.stopped

pub returns-in-Err-clause-goes_on : goal.returns-in-Err-clause-goes_on
returns-in-Err-clause-goes_on g c = λ kept.
    unplaced_past c.args.bytes.now c.in-Err.fault c.in-Err.ensures.stopped

pub returns-in-Ok-report_on-clause-rechecked : goal.returns-in-Ok-report_on-clause-rechecked
returns-in-Ok-report_on-clause-rechecked g c = λ text printed.
    record {
      view = c.in-Ok.placed.judged.torrent;
      hashes = c.in-Ok.placed.judged.hashes;
      torrent = c.in-Ok.ensures.told;
      allowed = c.in-Ok-report_on.ensures.workers;
      report = c.in-Ok-report_on.ensures.reported text printed;
    }

-- A fault of what was not placed is none of the lot's files.
use Rattle.tor_cli.proofs.Rechecking.{unplaced_of_lot}
use Rattle.tor_cli.proofs.recheck.lot.report_at.Goals as goal

pub returns-in-Err-clause-of_lot : goal.returns-in-Err-clause-of_lot
returns-in-Err-clause-of_lot g c =
    unplaced_of_lot c.args.options.now.lot c.args.bytes.now c.in-Err.fault c.in-Err.ensures.stopped

-- Why nothing is told is that of the place, of a torrent that was judged.
use Rattle.tor_cli.proofs.Rechecking.{no_extra, told_of}
use Rattle.tor_cli.proofs.recheck.extra.extra_report.Goals as goal

pub returns-in-Err-extra_at-clause-stopped : goal.returns-in-Err-extra_at-clause-stopped
returns-in-Err-extra_at-clause-stopped c =
    rw c.from-in-Err-extra_at.ensures
    (no_extra c.args.bytes.now c.in-Ok.judged.torrent (told_of c.in-Ok.ensures.accepted) c.in-Err-extra_at.fault
    c.in-Err-extra_at.ensures.refused)

-- Why there is none is that of the torrent that was judged.
use Rattle.tor_cli.specs.Status.{of_refusal}
use Rattle.tor_cli.proofs.Judging.{no_torrent}
use Rattle.tor_cli.proofs.Rechecking.{not_judged, not_placed, told_of}
use Rattle.tor_cli.proofs.recheck.source.placed_at.Goals as goal

pub returns-in-Err-clause-stopped : goal.returns-in-Err-clause-stopped
returns-in-Err-clause-stopped c =
    let bytes = c.args.bytes.now in
    rw c.from.ensures
    (not_judged bytes (of_refusal c.in-Err.refusal) (no_torrent bytes c.in-Err.refusal c.in-Err.ensures.refused))

pub returns-in-Err-source_at-clause-stopped : goal.returns-in-Err-source_at-clause-stopped
returns-in-Err-source_at-clause-stopped c =
    rw c.from-in-Err-source_at.ensures
    (not_placed c.args.bytes.now c.in-Ok.judged.torrent (told_of c.in-Ok.ensures.accepted) c.in-Err-source_at.fault
    c.in-Err-source_at.ensures.refused)

-- A refusal is answered as it is.
use Rattle.std.proofs.Common.{subst, sym}
use Rattle.tor_cli.specs.Foreign.{IsNoTorrent}
use Rattle.tor_cli.proofs.Judging.{no_torrent}
use Rattle.tor_cli.proofs.edit.command.edited_of.Goals as goal

pub returns-in-Err-clause-stopped : goal.returns-in-Err-clause-stopped
returns-in-Err-clause-stopped c =
    subst (IsNoTorrent c.args.bytes.now) (sym c.from.ensures)
    (no_torrent c.args.bytes.now c.in-Err.refusal c.in-Err.ensures.refused)

-- What was told is reported, and bytes that are a torrent are refused for nothing but want of memory.
use Rattle.std.proofs.Common.{length, subst, sym}
use Rattle.tor_c.specs.Reports.{IsNotRefused, magnet_text}
use Rattle.tor_c.specs.steps.Told.{told_bytes}
use Rattle.tor_c.proofs.NotRefused.{not_refused}
use Rattle.tor_c.proofs.magnet.plover_magnet.Goals as goal

pub returns-clause-told : goal.returns-clause-told
returns-clause-told c = (told_bytes c.link_of.result, c.link_of.ensures, c.report.ensures)

pub returns-clause-only : goal.returns-clause-only
returns-clause-only c = λ valid.
    subst IsNotRefused (sym c.report.ensures.answered)
    (not_refused magnet_text c.args.torrent.now valid (told_bytes c.link_of.result) c.link_of.ensures
    (length c.args.room.now))

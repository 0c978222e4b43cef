-- What was told is reported, and bytes that are a torrent are refused for nothing but want of memory.
use Rattle.std.proofs.Common.{Err, length, subst, sym}
use Rattle.tor_c.specs.Reports.{IsNotRefused, check_text}
use Rattle.tor_c.proofs.NotRefused.{not_refused}
use Rattle.tor_c.proofs.Reported.{object_told}
use Rattle.tor_c.proofs.check.plover_check.Goals as goal

pub returns-in-Ok-torrent_tree-clause-told : goal.returns-in-Ok-torrent_tree-clause-told
returns-in-Ok-torrent_tree-clause-told c =
    let (told, which, reported) = c.report_object.ensures in
    let text = object_told c.args.torrent.now c.in-Ok-torrent_tree.root c.in-Ok.judged c.in-Ok.ensures.accepted
    c.in-Ok-torrent_tree.ensures told which in
    (told, text, reported)

pub returns-in-Ok-torrent_tree-clause-only : goal.returns-in-Ok-torrent_tree-clause-only
returns-in-Ok-torrent_tree-clause-only c = λ valid.
    let (told, which, reported) = c.report_object.ensures in
    let text = object_told c.args.torrent.now c.in-Ok-torrent_tree.root c.in-Ok.judged c.in-Ok.ensures.accepted
    c.in-Ok-torrent_tree.ensures told which in
    subst IsNotRefused (sym reported.answered)
    (not_refused check_text c.args.torrent.now valid told text (length c.args.room.now))

pub returns-clause-only : goal.returns-clause-only
returns-clause-only c = λ valid.
    subst IsNotRefused (sym c.report-in-Err.ensures.answered)
    (not_refused check_text c.args.torrent.now valid (Err c.in-Err.refusal) c.in-Err.ensures.refused
    (length c.args.room.now))

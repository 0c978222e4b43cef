-- The bytes have one tree.
use Rattle.std.proofs.Common.{◌∙◌, [], append-nil, sym}
use Rattle.tor_bencode.specs.RefView.{view}
use Rattle.tor_bencode.specs.Spelling.{spelling}
use Rattle.tor_report.proofs.judged.torrent_tree.Goals as goal

pub returns-in-Ok : goal.returns-in-Ok
returns-in-Ok c root torrent =
    let read = view c.in-Ok.tree in
    let tree = c.in-Ok.ensures.item in
    (c.no_spelling_begins_another.ensures read root [] [] tree.0 torrent.lawful
    (append-nil (spelling read) ∙ sym tree.1 ∙ torrent.spelled ∙ sym (append-nil (spelling root)))).0

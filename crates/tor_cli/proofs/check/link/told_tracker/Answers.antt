-- The bytes have one tree.
use Rattle.std.proofs.Common.{◌∙◌, [], append-nil, ap, sym}
use Rattle.tor_bencode.specs.Data.{Data}
use Rattle.tor_bencode.specs.RefView.{view}
use Rattle.tor_bencode.specs.Spelling.{spelling}
use Rattle.tor_cli.specs.check.Shown.{tracker_of}
use Rattle.tor_cli.proofs.check.link.told_tracker.Goals as goal

pub returns-in-Ok : goal.returns-in-Ok
returns-in-Ok c root lawful spelled =
    let read = view c.in-Ok.root in
    let tree = c.in-Ok.ensures.item in
    let same = c.no_spelling_begins_another.ensures read root [] [] tree.0 lawful
    (append-nil (spelling read) ∙ sym tree.1 ∙ spelled ∙ sym (append-nil (spelling root))) in
    c.tracker_of.ensures ∙ ap (λ (d : Data). tracker_of d) same.0

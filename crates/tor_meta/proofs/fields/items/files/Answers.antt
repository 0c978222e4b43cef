-- one more entry, and all of them
use Rattle.std.proofs.Common.{◌∙◌, ap, map}
use Rattle.std.proofs.lemmas.List.{take_all}
use Rattle.tor_bencode.specs.Data.{list}
use Rattle.tor_bencode.specs.View.{items_of, view}
use Rattle.tor_spec.specs.FilesList.{entry_dictionary}
use Rattle.tor_meta.proofs.ListSteps.{list_seen, seen_more}
use Rattle.tor_meta.proofs.fields.items.files.Goals as goal

pub loop-entry-preserved : goal.loop-entry-preserved
loop-entry-preserved c =
    ap (map view) c.in_ok-push.ensures.items
    ∙ seen_more view entry_dictionary c.args.entries.now c.loop-entry.entry-index c.entry-item.result
    c.loop-entry.items.items c.in_ok-file.field-0 c.loop-entry-test.true c.loop-entry.invariant
    (c.in_ok-file.ensures ∙ ap entry_dictionary c.entry-item.is)

pub returns : goal.returns
returns c =
    list_seen c.loop-entry.items
    ∙ ap (λ items. list (items_of items))
    (rw (take_all c.loop-entry.entry-index c.args.entries.now c.loop-entry-test.false) at c.loop-entry.invariant)

-- one more name, and all of them
use Rattle.std.proofs.Common.{◌∙◌, ap, map}
use Rattle.std.proofs.lemmas.List.{take_all}
use Rattle.tor_bencode.specs.Data.{list, string}
use Rattle.tor_bencode.specs.View.{items_of, view}
use Rattle.tor_meta.proofs.ListSteps.{list_seen, seen_more}
use Rattle.tor_meta.proofs.fields.items.path.Goals as goal

pub loop-name-preserved : goal.loop-name-preserved
loop-name-preserved c =
    ap (map view) c.in_ok-push.ensures.items
    ∙ seen_more view string c.args.names.now c.loop-name.name-index c.name-item.result
    c.loop-name.items.items c.in_ok-text.field-0 c.loop-name-test.true c.loop-name.invariant
    (c.in_ok-text.ensures ∙ ap string (c.as_bytes.ensures.value ∙ c.name-item.is))

pub returns : goal.returns
returns c =
    list_seen c.loop-name.items
    ∙ ap (λ items. list (items_of items))
    (rw (take_all c.loop-name.name-index c.args.names.now c.loop-name-test.false) at c.loop-name.invariant)

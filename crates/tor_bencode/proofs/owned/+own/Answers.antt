use Rattle.tor_bencode.proofs.Names.{ap, arith, ◌∙◌, items_view, pairs_view, ref_items_view, ref_pairs_view, take_all}
use Rattle.tor_bencode.proofs.OwnedItems.{items_more, pairs_more}
use Rattle.tor_bencode.proofs.owned.+own.Goals as goal

pub own_items-items-preserved : goal.own_items-items-preserved
own_items-items-preserved t c =
    ap items_view c.in_ok-push.ensures.items
    ∙ items_more c.items.owned.items c.in_ok-own.field-0 c.deref-item-items.result.now c.items.item-index
    c.item-item.result (omega arith) c.item-item.is c.items.invariant c.in_ok-own.ensures.same

pub own_pairs-pairs-preserved : goal.own_pairs-pairs-preserved
own_pairs-pairs-preserved t c =
    ap pairs_view c.in_ok-push.ensures.items
    ∙ pairs_more c.pairs.owned.items c.in_ok-from_slice.field-0 c.in_ok-own.field-0 c.deref-key-items.result.now
    c.pairs.key-index c.pairs-item.result (omega arith) c.pairs-item.is c.pairs.invariant
    c.in_ok-from_slice.ensures.items c.in_ok-own.ensures.same

-- at the end all items were taken
pub own_items-returns : goal.own_items-returns
own_items-returns t c =
    let all = take_all c.items.item-index c.deref-item-items.result.now c.items-test.false in
    c.items.invariant ∙ ap ref_items_view (all ∙ c.deref-item-items.ensures.value)

pub own_pairs-returns : goal.own_pairs-returns
own_pairs-returns t c =
    let all = take_all c.pairs.key-index c.deref-key-items.result.now c.pairs-test.false in
    c.pairs.invariant ∙ ap ref_pairs_view (all ∙ c.deref-key-items.ensures.value)

use Rattle.tor_bencode.proofs.Names.{ap, arith, ◌∙◌, items_view, pairs_view, ref_items_view, ref_pairs_view, take_all}
use Rattle.tor_bencode.proofs.OwnedItems.{refs_more, ref_pairs_more}
use Rattle.tor_bencode.proofs.owned.+lend.Goals as goal

pub lend_items-items-preserved : goal.lend_items-items-preserved
lend_items-items-preserved t c =
    ap ref_items_view c.in_ok-push.ensures.items
    ∙ refs_more c.items.lent.items c.in_ok-lend.field-0 c.deref-item-items.result.now c.items.item-index
    c.item-item.result (omega arith) c.item-item.is c.items.invariant c.in_ok-lend.ensures

pub lend_pairs-pairs-preserved : goal.lend_pairs-pairs-preserved
lend_pairs-pairs-preserved t c =
    ap ref_pairs_view c.in_ok-push.ensures.items
    ∙ ref_pairs_more c.pairs.lent.items c.as_slice.result c.in_ok-lend.field-0 c.deref-key-items.result.now
    c.pairs.key-index c.pairs-item.result (omega arith) c.pairs-item.is c.pairs.invariant
    c.as_slice.ensures.value c.in_ok-lend.ensures

-- at the end all items were taken
pub lend_items-returns : goal.lend_items-returns
lend_items-returns t c =
    let all = take_all c.items.item-index c.deref-item-items.result.now c.items-test.false in
    c.items.invariant ∙ ap items_view (all ∙ c.deref-item-items.ensures.value)

pub lend_pairs-returns : goal.lend_pairs-returns
lend_pairs-returns t c =
    let all = take_all c.pairs.key-index c.deref-key-items.result.now c.pairs-test.false in
    c.pairs.invariant ∙ ap pairs_view (all ∙ c.deref-key-items.ensures.value)

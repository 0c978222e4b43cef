use Rattle.tor_bencode.proofs.Names.{◌≡◌, take, items_view, pairs_view, ref_items_view, ref_pairs_view}
use Rattle.tor_bencode.proofs.owned.+lend.Given as goal

-- the items so far
abbrev pub invariant-lend_items-items : goal.invariant-lend_items-items
invariant-lend_items-items l = ref_items_view l.lent.items ≡ items_view (take l.item-index l.item-items)

abbrev pub invariant-lend_pairs-pairs : goal.invariant-lend_pairs-pairs
invariant-lend_pairs-pairs l = ref_pairs_view l.lent.items ≡ pairs_view (take l.key-index l.key-items)

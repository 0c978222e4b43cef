use Rattle.tor_bencode.proofs.Names.{◌≡◌, take, items_view, pairs_view, ref_items_view, ref_pairs_view}
use Rattle.tor_bencode.proofs.owned.+own.Given as goal

-- the items so far
abbrev pub invariant-own_items-items : goal.invariant-own_items-items
invariant-own_items-items l = items_view l.owned.items ≡ ref_items_view (take l.item-index l.item-items)

abbrev pub invariant-own_pairs-pairs : goal.invariant-own_pairs-pairs
invariant-own_pairs-pairs l = pairs_view l.owned.items ≡ ref_pairs_view (take l.key-index l.key-items)

use Rattle.tor_bencode.proofs.Names.{◌↔◌, drop, ItemsAreLawfulWithin, PairsAreLawfulWithin, items_view, pairs_view}
use Rattle.tor_bencode.proofs.tree.+lawful.Given as goal

-- all are lawful if those that are left are
abbrev pub invariant-all_are_lawful-loop-item : goal.invariant-all_are_lawful-loop-item
invariant-all_are_lawful-loop-item l =
    ItemsAreLawfulWithin l.room (items_view (drop l.item-index l.item-items)) ↔ ItemsAreLawfulWithin l.room
    (items_view l.item-items)

abbrev pub invariant-values_are_lawful-loop-value : goal.invariant-values_are_lawful-loop-value
invariant-values_are_lawful-loop-value l =
    PairsAreLawfulWithin l.room (pairs_view (drop l.value-index l.value-items)) ↔ PairsAreLawfulWithin l.room
    (pairs_view l.value-items)

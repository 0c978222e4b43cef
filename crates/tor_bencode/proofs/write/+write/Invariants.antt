use Rattle.tor_bencode.proofs.Names.{◌≡◌, ◌++◌, drop, codes, items_spelling, pairs_spelling, items_view, pairs_view}
use Rattle.tor_bencode.proofs.write.+write.Given as goal

-- what was written, with the items that are left, is the list but for its end
abbrev pub invariant-write_list-loop-item : goal.invariant-write_list-loop-item
invariant-write_list-loop-item l =
    l.out.items ++ items_spelling (items_view (drop l.item-index l.item-items))
    ≡ l.fn.out.items ++ (codes "l" ++ items_spelling (items_view l.item-items))

abbrev pub invariant-write_dictionary-loop-key : goal.invariant-write_dictionary-loop-key
invariant-write_dictionary-loop-key l =
    l.out.items ++ pairs_spelling (pairs_view (drop l.key-index l.key-items))
    ≡ l.fn.out.items ++ (codes "d" ++ pairs_spelling (pairs_view l.key-items))

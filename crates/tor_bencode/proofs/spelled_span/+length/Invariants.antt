use Rattle.tor_bencode.proofs.Names.{◌≡◌, ◌-◌, ◌^◌, length, min, take, items_spelling, pairs_spelling}
use Rattle.tor_bencode.proofs.Names.{ref_items_view, ref_pairs_view}
use Rattle.tor_bencode.proofs.spelled_span.+length.Given as goal

-- the bytes of the items so far, or the greatest number of 64 bits
abbrev pub invariant-length_of_items-items : goal.invariant-length_of_items-items
invariant-length_of_items-items l =
    l.count ≡ min (2 ^ 64 - 1) (length (items_spelling (ref_items_view (take l.item-index l.items))))

abbrev pub invariant-length_of_pairs-pairs : goal.invariant-length_of_pairs-pairs
invariant-length_of_pairs-pairs l =
    l.count ≡ min (2 ^ 64 - 1) (length (pairs_spelling (ref_pairs_view (take l.key-index l.pairs))))

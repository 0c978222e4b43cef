use Rattle.tor_bencode.proofs.Names.{◌≡◌, drop, value_in, ref_pairs_view}
use Rattle.tor_bencode.proofs.item_ref.ItemRef.get.Given as goal

-- the value is among the pairs that are left, if it is anywhere
abbrev pub invariant-loop-name : goal.invariant-loop-name
invariant-loop-name l =
    value_in l.key (ref_pairs_view (drop l.name-index l.name-items)) ≡ value_in l.key (ref_pairs_view l.name-items)

use Rattle.tor_tree.proofs.Cited.{◌≡◌, drop, ref_pairs_view, has_empty_key}
use Rattle.tor_tree.proofs.mixed.has_empty_key.Given as goal

-- the empty key is among the pairs that are left, if it is anywhere
abbrev pub invariant-loop-key : goal.invariant-loop-key
invariant-loop-key l =
    has_empty_key (ref_pairs_view (drop l.key-index l.pairs)) ≡ has_empty_key (ref_pairs_view l.pairs)

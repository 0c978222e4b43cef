use Rattle.tor_tree.proofs.Cited.{◌≡◌, drop, ref_pairs_view, entries_mix}
use Rattle.tor_tree.proofs.mixed.+mixes.Given as goal

-- such a folder is among the pairs that are left, if it is anywhere
abbrev pub invariant-below_mixes-loop-key : goal.invariant-below_mixes-loop-key
invariant-below_mixes-loop-key l =
    entries_mix (ref_pairs_view (drop l.key-index l.key-items)) ≡ entries_mix (ref_pairs_view l.key-items)

use Rattle.tor_bencode.proofs.Names.{◌-◌, ◌↔◌, drop, keys_of, AreRising, pairs_view}
use Rattle.tor_bencode.proofs.tree.keys_rise.Given as goal

-- the keys rise if those from the last one on do
abbrev pub invariant-loop-i : goal.invariant-loop-i
invariant-loop-i l =
    AreRising (keys_of (pairs_view (drop (l.i - 1) l.pairs))) ↔ AreRising (keys_of (pairs_view l.pairs))

use Rattle.tor_edit.proofs.Names.{◌≡◌, take, drop, pairs_view, after, before, joined}
use Rattle.tor_edit.proofs.places.place_of.Given as goal

-- the pairs so far come before the key, and are followed by what follows it
abbrev pub invariant-pairs : goal.invariant-pairs
invariant-pairs l = record {
  front : joined (pairs_view (take l.index l.pairs)) (before l.key (pairs_view (drop l.index l.pairs)))
      ≡ before l.key (pairs_view l.pairs);
  back : after l.key (pairs_view (drop l.index l.pairs)) ≡ after l.key (pairs_view l.pairs);
}

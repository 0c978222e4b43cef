use Rattle.tor_bencode.proofs.Names.{◌≡◌, ◌+◌, drop, length, span_in, pairs_spelling, ref_pairs_view}
use Rattle.tor_bencode.proofs.spelled_span.span_of_key.Given as goal

-- what is left is spelled from here to the end, and the key is there if it is anywhere
abbrev pub invariant-pairs : goal.invariant-pairs
invariant-pairs l = record {
  place : l.at + length (pairs_spelling (ref_pairs_view (drop l.i l.pairs))) + 1 ≡ l.size;
  same : span_in l.at l.key (ref_pairs_view (drop l.i l.pairs)) ≡ span_in 1 l.key (ref_pairs_view l.pairs);
}

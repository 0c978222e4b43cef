-- after i steps the list has the first i nodes of the level above
use Rattle.tor_merkle.proofs.Names.{◌≡◌, ◌+◌, ◌*◌, map, get_or, range_with_len, node_of}
use Rattle.tor_merkle.proofs.plain.level_above.Given as goal

abbrev pub invariant-loop-i : goal.invariant-loop-i
invariant-loop-i l =
    l.above.items ≡ map (λ i. node_of (get_or l.hashes (2 * i) l.padding) (get_or l.hashes (2 * i + 1) l.padding))
    (range_with_len 0 l.i)

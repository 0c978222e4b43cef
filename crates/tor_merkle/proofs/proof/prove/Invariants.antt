-- the siblings of the levels so far
use Rattle.tor_merkle.proofs.Names.{◌≡◌, ◌^◌, map, range_with_len, run_at, sibling_index, padded_subtree}
use Rattle.tor_merkle.proofs.proof.prove.Given as goal

abbrev pub invariant-levels : goal.invariant-levels
invariant-levels l =
    l.siblings.items
    ≡ map (λ level. padded_subtree level l.level (run_at (2 ^ level) l.hashes (sibling_index l.index level)))
    (range_with_len 0 l.above)

-- after i steps the list has the leaves of the first i blocks
use Rattle.tor_merkle.proofs.Names.{◌≡◌, map, range_with_len, sha256, run_at}
use Rattle.tor_merkle.proofs.plain.leaves.Given as goal

abbrev pub invariant-loop-i : goal.invariant-loop-i
invariant-loop-i l = l.hashes.items ≡ map sha256 (map (run_at 16384 l.content) (range_with_len 0 l.i))

-- those so far, and those that are left
use Rattle.std.proofs.Common.{◌≡◌, ◌++◌, length}
use Rattle.tor_engine.proofs.pieces.joined.Given as goal

abbrev pub decreases-loop-hash : goal.decreases-loop-hash
decreases-loop-hash l = length l.left

abbrev pub invariant-loop-hash : goal.invariant-loop-hash
invariant-loop-hash l = l.all.items ++ l.left ≡ l.hashes

-- the hashes so far
use Rattle.std.proofs.Common.{◌≡◌, map, take}
use Rattle.tor_engine.proofs.workers.roots.hashes_of.Given as goal

abbrev pub invariant-sums : goal.invariant-sums
invariant-sums g l = l.hashes.items ≡ map (g.W.UnitWork.hash_in l.work) (take l.one-index l.sums)

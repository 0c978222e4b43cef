-- the roots of the trees so far
use Rattle.std.proofs.Common.{◌≡◌, take}
use Rattle.tor_sums.specs.steps.Roots.{roots_of_trees}
use Rattle.tor_engine.proofs.workers.roots.roots_of_trees.Given as goal

abbrev pub invariant-trees : goal.invariant-trees
invariant-trees l = l.roots.items ≡ roots_of_trees l.hashes (take l.run-index l.trees)

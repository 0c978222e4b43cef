-- as many as were counted
use Rattle.std.proofs.Common.{◌≡◌, [], None, replicate}
use Rattle.tor_sums.specs.Sums.{lists_of}
use Rattle.tor_sums.proofs.sums.no_trees.Given as goal

abbrev pub invariant-files : goal.invariant-files
invariant-files l = record {
  roots : l.roots.items ≡ replicate l.counter None;
  layers : lists_of l.layers.items ≡ replicate l.counter [];
}

-- what is not left was fed
use Rattle.std.proofs.Common.{◌-◌, ◌≤◌}
use Rattle.sha1.specs.Sha1.{Holds}
use Rattle.tor_v1.specs.Piece.{zeros}
use Rattle.tor_v1.proofs.sums.sum_of_zeros.Given as goal

abbrev pub invariant-parts : goal.invariant-parts
invariant-parts l = record {
  within : l.left ≤ l.count;
  holds : Holds l.hasher (zeros (l.count - l.left));
}

abbrev pub decreases-parts : goal.decreases-parts
decreases-parts l = l.left

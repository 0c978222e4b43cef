-- so many zeros were fed
use Rattle.std.proofs.Common.{◌-◌, ◌≤◌}
use Rattle.tor_v1.specs.Feeding.{Feeds}
use Rattle.tor_v1.specs.Piece.{zeros}
use Rattle.tor_sums.proofs.hasher.feed_zeros.Given as goal

abbrev pub invariant-runs : goal.invariant-runs
invariant-runs l = record {
  within : l.left ≤ l.count;
  fed : Feeds l.initial.pieces l.pieces (zeros (l.count - l.left));
}

abbrev pub decreases-runs : goal.decreases-runs
decreases-runs l = l.left

-- what is not left was fed, and there is room for what is left
use Rattle.std.proofs.Common.{◌-◌, ◌≤◌}
use Rattle.tor_v1.specs.Feeding.{Feeds}
use Rattle.tor_v1.specs.Piece.{zeros}
use Rattle.tor_v1.specs.steps.Room.{HasRoom}
use Rattle.tor_v1.proofs.sums.PieceSums.feed_zeros.Given as goal

abbrev pub invariant-parts : goal.invariant-parts
invariant-parts l = record {
  within : l.left ≤ l.count;
  fed : Feeds l.initial.self l.self (zeros (l.count - l.left));
  room : HasRoom l.self l.left;
}

abbrev pub decreases-parts : goal.decreases-parts
decreases-parts l = l.left

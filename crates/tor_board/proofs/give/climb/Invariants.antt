-- how far the hash has come, and what the seat knows of it
use Rattle.tor_board.proofs.Names.{Option, ◌-◌, ◌≡◌, ◌≤◌, Climb, IsClimbing, joined_view}
use Rattle.tor_board.proofs.give.climb.Given as goal

abbrev pub decreases-nodes : goal.decreases-nodes
decreases-nodes l = l.tree.height - l.spot.level

abbrev pub invariant-nodes : goal.invariant-nodes
invariant-nodes l = record {
  table : l.seat.table_id ≡ l.fn.seat.table_id;
  low : l.spot.level ≤ l.tree.height;
  few : l.joined ≤ l.spot.level;
  climbs : IsClimbing l.tree l.spot.level l.spot.index l.spot.hash l.seat.me;
  view : (c : Option Climb) × (l.seat.me.0 ≡ joined_view l.joined l.fn.seat.me.0 c);
}

use Rattle.tor_board.proofs.{Meets.joined_none, Names.{arith, refl}}
use Rattle.tor_board.proofs.give.climb.Goals as goal

pub nodes-init : goal.nodes-init
nodes-init c = record {
  table = refl;
  low = c.requires.low;
  few = omega arith;
  climbs = c.requires.climbs;
  view = (_, joined_none c.args.seat.now.me.0);
}

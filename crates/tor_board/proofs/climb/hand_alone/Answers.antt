use Rattle.tor_board.proofs.{Moves.hands_alone, Names.arith}
use Rattle.tor_board.proofs.climb.hand_alone.Goals as goal

pub load-requires : goal.load-requires
load-requires g c = let idle = c.requires.idle in let p = c.requires.picked in (
  c.requires.table,
  omega (arith, c.requires.shape.two),
  rw (p.0, p.1, p.2) (hands_alone _ _ _ _ c.args._unit c.args._hash.now idle.0 idle.1 c.requires.held c.requires.alone),
)

use Rattle.tor_board.proofs.{Going.hands, Names.arith}
use Rattle.tor_board.proofs.climb.hand_in.Goals as goal

pub load-requires : goal.load-requires
load-requires g c = let idle = c.requires.idle in let tree = c.requires.tree in (
  c.requires.table,
  omega (arith, c.requires.shape.two),
  rw (c.requires.picked.0, c.requires.picked.1, c.requires.picked.2)
      (hands c.requires.shape _ _ _ c.args._tree.now c.args._unit c.args._hash.now idle.0 idle.1 idle.2
      c.requires.held tree.0 tree.1 tree.2),
)

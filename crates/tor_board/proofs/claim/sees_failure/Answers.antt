use Rattle.tor_board.proofs.{Moves.looks, Names.arith}
use Rattle.tor_board.proofs.claim.sees_failure.Goals as goal

pub load-requires : goal.load-requires
load-requires c = let free = c.requires.free in
    (c.requires.table, omega (arith, c.requires.shape.two), looks _ _ _ _ free.0.0 free.0.1 free.1)

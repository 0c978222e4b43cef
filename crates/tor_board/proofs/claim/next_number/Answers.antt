use Rattle.tor_board.proofs.{Moves.claims, Names.arith}
use Rattle.tor_board.proofs.claim.next_number.Goals as goal

pub fetch_add-requires : goal.fetch_add-requires
fetch_add-requires c = let free = c.requires.free in (
  c.requires.table,
  omega (arith, c.requires.shape.two),
  claims _ _ _ _ free.0.0 free.0.1 free.1 c.requires.looked c.requires.units,
)

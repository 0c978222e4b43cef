use Rattle.tor_board.proofs.{Moves.fails, Names.arith}
use Rattle.tor_board.proofs.board.Board.fail.Goals as goal

pub fetch_min-requires : goal.fetch_min-requires
fetch_min-requires c = let seat = c.args.seat.now in let board = c.args.self.now in (
  c.requires.board.0,
  omega (arith, board.shaped.two),
  rw board.sized (fails board.shape _ _ _ c.args.job.number (omega (arith, seat.roomy.0, seat.same.0)) seat.idle
      c.requires.job),
)

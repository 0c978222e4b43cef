use Rattle.tor_board.proofs.{Names.arith, Seats.split_keeps}
use Rattle.tor_board.proofs.board.Board.split.Goals as goal

pub split_seat-other-requires : goal.split_seat-other-requires
split_seat-other-requires c = let seat = c.args.seat in let board = c.args.self.now in (
  c.requires.0,
  omega (arith, board.shaped.two),
  rw board.sized (λ s kept at.
      split_keeps board.shape kept _ _ at (omega (arith, seat.roomy.0, seat.same.0, c.if-seat-eq1.false))),
)

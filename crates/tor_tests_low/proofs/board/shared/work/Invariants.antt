-- the seat stays the board's
use Rattle.tor_board.specs.Seats.{IsSeatOf}
use Rattle.tor_tests_low.proofs.board.shared.work.Given as goal

abbrev pub invariant-units : goal.invariant-units
invariant-units g l = record {
  mine : IsSeatOf l.board l.seat;
}

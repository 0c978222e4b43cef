-- both seats stay the board's
use Rattle.tor_board.specs.Seats.{IsSeatOf}
use Rattle.tor_tests_low.proofs.board.rows.split_off.Given as goal

abbrev pub invariant-rooms : goal.invariant-rooms
invariant-rooms g l = record {
  mine : IsSeatOf l.board l.seat;
  others : IsSeatOf l.board l.others;
}

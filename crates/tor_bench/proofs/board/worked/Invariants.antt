-- the seat stays the board's, and has its room
use Rattle.std.proofs.Common.{◌≡◌}
use Rattle.tor_board.specs.Seats.{IsSeatOf, knows}
use Rattle.tor_bench.proofs.board.worked.Given as goal

abbrev pub invariant-units : goal.invariant-units
invariant-units l = record {
  mine : IsSeatOf l.board l.seat;
  room : (knows l.seat).room ≡ (knows l.fn.seat).room;
}

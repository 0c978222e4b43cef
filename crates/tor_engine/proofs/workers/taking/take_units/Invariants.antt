-- what was taken so far
use Rattle.std.proofs.Common.{◌+◌, ◌-◌, length}
use Rattle.tor_board.specs.Seats.{IsSeatOf, knows}
use Rattle.tor_engine.specs.steps.Taken.{HasBegun, IsAny}
use Rattle.tor_engine.proofs.ClaimedUnits.{IsTaking}
use Rattle.tor_engine.proofs.workers.taking.take_units.Given as goal

abbrev pub invariant-claims : goal.invariant-claims
invariant-claims g l =
    let w = g.W.UnitWork in record {
      board : IsSeatOf l.board l.seat;
      stands : HasBegun (w.stands l.work) (w.number_in l.work) l.units l.share.units.items l.worker;
      taking : IsTaking (w.number_in l.work) (w.hash_in l.work) IsAny (w.is_steady l.work)
          (w.fault l.work) (w.gave l.work) l.units (knows l.fn.seat) (knows l.seat) l.share;
    }

-- no unit is claimed twice, so that the units that are left become fewer
abbrev pub decreases-claims : goal.decreases-claims
decreases-claims g l =
    length l.units + length (knows l.fn.seat).given + 1 - length (knows l.seat).given

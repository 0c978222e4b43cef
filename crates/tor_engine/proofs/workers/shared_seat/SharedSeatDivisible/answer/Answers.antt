-- what one worker took
use Rattle.std.proofs.Common.{Vec, Result, refl, subst, sym}
use Rattle.std.specs.declared.alloc.Global.{Global}
use Rattle.tor_board.specs.Seats.{knows}
use Rattle.tor_engine.specs.declared.workers.failure.Failure.{Failure}
use Rattle.tor_engine.specs.steps.Taken.{AnswersSeat}
use Rattle.tor_engine.proofs.SeatAnswers.{seat_answers}
use Rattle.tor_engine.proofs.workers.shared_seat.SharedSeatDivisible.answer.Goals as goal

pub returns : goal.returns
returns g c =
    let w = g.W.UnitWork in
    let work = c.args.self.work.now in
    let share = c.take_units-share in (
      refl,
      share.ensures.board,
      subst (λ (r : Result (Vec g.row.W-Sums.Denot Global) (Failure g.row.W-Fault.Denot)).
          AnswersSeat (w.number_in work) (w.hash_in work) (w.sums_up work) (w.is_steady work) (w.fault work)
          (w.gave work) c.args.self.units.now (knows c.args.self.seat) (knows share.new.seat) r)
          (sym c.without_tops.ensures)
          (seat_answers (w.number_in work) (w.hash_in work) (w.sums_up work) (w.is_steady work) (w.fault work)
          (w.gave work) c.args.self.units.now (knows c.args.self.seat) (knows share.new.seat) share.result
          share.ensures.taken),
    )

-- two workers are as one
use Rattle.std.proofs.Common.{List, subst, ◌∙◌}
use Rattle.tor_board.specs.Seats.{IsSeatOf, knows}
use Rattle.tor_board.specs.declared.board.Board.{Board}
use Rattle.tor_plan.specs.declared.units.PlanUnit.{PlanUnit}
use Rattle.tor_engine.specs.steps.Taken.{AnswersSeat}
use Rattle.tor_engine.proofs.SeatAnswers.{seats_answer}
use Rattle.tor_engine.proofs.workers.shared_seat.SharedSeatDivisible.join.Goals as goal

pub returns : goal.returns
returns g c = λ whole first second halves one other.
    let w = g.W.UnitWork in
    let work = whole.work.now in
    let units = whole.units.now in
    let first_answers =
    subst (λ (v : g.row.W.Denot). AnswersSeat (w.number_in v) (w.hash_in v) (w.sums_up v) (w.is_steady v) (w.fault v)
    (w.gave v) units (knows first.seat) (knows c.args.one.seat) c.args.one.result) halves.0
    (subst (λ (us : List PlanUnit). AnswersSeat (w.number_in first.work.now) (w.hash_in first.work.now)
    (w.sums_up first.work.now) (w.is_steady first.work.now) (w.fault first.work.now) (w.gave first.work.now) us
    (knows first.seat) (knows c.args.one.seat) c.args.one.result) halves.2 one.2) in
    let second_answers =
    subst (λ (v : g.row.W.Denot). AnswersSeat (w.number_in v) (w.hash_in v) (w.sums_up v) (w.is_steady v) (w.fault v)
    (w.gave v) units (knows second.seat) (knows c.args.other.seat) c.args.other.result) halves.1
    (subst (λ (us : List PlanUnit). AnswersSeat (w.number_in second.work.now) (w.hash_in second.work.now)
    (w.sums_up second.work.now) (w.is_steady second.work.now) (w.fault second.work.now) (w.gave second.work.now) us
    (knows second.seat) (knows c.args.other.seat) c.args.other.result) halves.3 other.2) in (
      one.0 ∙ halves.4,
      subst (λ (b : Board). IsSeatOf b c.join.result) (one.0 ∙ halves.4) c.join.ensures.seat.0,
      seats_answer (w.number_in work) (w.hash_in work) (w.sums_up work) (w.is_steady work) (w.fault work) (w.gave work)
          units (knows whole.seat) (knows first.seat) (knows second.seat) (knows c.join.result) (knows c.args.one.seat)
          (knows c.args.other.seat) halves.6 halves.7 halves.8 c.join.ensures.seat.1 c.args.one.result
          c.args.other.result
          c.both_joined.result first_answers second_answers c.both_joined.ensures
          (g.met.W.UnitWork.may_refuse work),
    )

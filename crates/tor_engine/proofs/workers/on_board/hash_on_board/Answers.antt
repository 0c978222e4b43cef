-- what the board had when it was closed
use Rattle.std.proofs.Common.{ℕ, List, ap, length, subst, sym, ◌∙◌}
use lib.ListN.{get_elem?}
use Rattle.std.specs.Prelude.{Result, Vec}
use Rattle.std.specs.declared.alloc.Global.{Global}
use Rattle.tor_board.specs.Desks.{Desk}
use Rattle.tor_board.specs.Seats.{IsAllGiven, knows}
use Rattle.tor_board.proofs.ProvedLaws.{rising_runs_are_apart}
use Rattle.tor_plan.specs.declared.forests.Run.{Run}
use Rattle.tor_sums.specs.Fault.{IsFault, first_of}
use Rattle.tor_engine.specs.declared.workers.failure.Failure.{Failure}
use Rattle.tor_engine.specs.steps.Taken.{AnswersSeat}
use Rattle.tor_engine.proofs.BoardEnd.{faultless, least_fault, roots_there, summed}
use Rattle.tor_engine.proofs.workers.on_board.hash_on_board.Goals as goal

pub open-requires-clause-runs : goal.open-requires-clause-runs
open-requires-clause-runs g c
    = rising_runs_are_apart (length c.args.units.now) 0 c.args.forest.now.trees.items c.requires.runs

pub returns-in-Ok : goal.returns-in-Ok
returns-in-Ok g c =
    let w = g.W.UnitWork in
    let work = c.args.work.now in
    let units = c.args.units.now in
    let old = knows c.in_ok-board.seat in
    let new = knows c.by_halves-seated.result.seat in
    let least = c.close-closed.result.least_failed in
    let ends = c.close-closed.ensures in
    let placed = c.in_order-sums.result.items in
    let order = c.in_order-sums.ensures in
    let bare = ap (λ (d : Desk). d.given) c.in_ok-board.ensures.seat.1 in
    let all = subst (λ (n : ℕ). IsAllGiven n new least) c.in_ok-board.ensures.board.0 ends.all in
    let answers = subst (λ (r : Result (Vec g.row.W-Sums.Denot Global) (Failure g.row.W-Fault.Denot)).
    AnswersSeat (w.number_in work) (w.hash_in work) (w.sums_up work) (w.is_steady work) (w.fault work) (w.gave work)
    units old new r) c.in-Ok.is c.by_halves-seated.ensures.2 in
    let forest = c.in_ok-board.ensures.board.1 in
    record {
      summed = summed (w.number_in work) (w.hash_in work) (w.sums_up work) (w.is_steady work) (w.fault work)
          (w.gave work) units old new bare least ends.least all c.in-Ok.sums answers placed order.same order.placed;
      roots = roots_there (w.number_in work) (w.hash_in work) (w.sums_up work) (w.is_steady work) (w.fault work)
          (w.gave work) units old new bare least ends.least all c.in-Ok.sums answers placed order.same order.placed
          c.args.forest.now.trees.items c.close-closed.result.roots.items c.requires.runs
          (ends.count ∙ ap length forest)
          (λ k run is. ends.roots k run (ap (λ (runs : List Run). get_elem? runs k) forest ∙ is));
      fault = faultless (w.number_in work) (w.hash_in work) (w.sums_up work) (w.is_steady work) (w.fault work)
          (w.gave work) units old new bare least ends.least all c.in-Ok.sums answers;
      gave = tt;
    }

pub returns-in-Err : goal.returns-in-Err
returns-in-Err g c =
    let w = g.W.UnitWork in
    let work = c.args.work.now in
    let units = c.args.units.now in
    let bare = ap (λ (d : Desk). d.given) c.in_ok-board.ensures.seat.1 in
    let all = subst (λ (n : ℕ). IsAllGiven n (knows c.by_halves-seated.result.seat) c.close-closed.result.least_failed)
    c.in_ok-board.ensures.board.0 c.close-closed.ensures.all in
    let answers = subst (λ (r : Result (Vec g.row.W-Sums.Denot Global) (Failure g.row.W-Fault.Denot)).
    AnswersSeat (w.number_in work) (w.hash_in work) (w.sums_up work) (w.is_steady work) (w.fault work) (w.gave work)
    units (knows c.in_ok-board.seat) (knows c.by_halves-seated.result.seat) r) c.in-Err.is c.by_halves-seated.ensures.2
    in
    record {
      summed = tt;
      roots = tt;
      fault = λ facts steady. subst (IsFault (first_of (w.fault work facts) units)) (sym c.into_error.ensures)
          (least_fault (w.number_in work) (w.hash_in work) (w.sums_up work) (w.is_steady work) (w.fault work)
          (w.gave work) units (knows c.in_ok-board.seat) (knows c.by_halves-seated.result.seat) bare
          c.close-closed.result.least_failed c.close-closed.ensures.least all c.in-Err.failure answers facts steady);
      gave = subst (w.gave work) (sym c.into_error.ensures) answers.gave;
    }

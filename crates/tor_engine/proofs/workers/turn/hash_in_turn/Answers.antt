-- one unit after the other
use Rattle.std.proofs.Common.{List, [], ◌∷◌, ◌++◌, take, subst, sym, ap, ◌∙◌}
use Rattle.std.proofs.lemmas.List.{take_all, take_more}
use Rattle.tor_plan.specs.declared.units.PlanUnit.{PlanUnit}
use Rattle.tor_sums.specs.steps.Each.{SumUpEach}
use Rattle.tor_engine.specs.steps.Failing.{IsFailure, failure_of, first_failure}
use Rattle.tor_engine.proofs.Failing.{all_hold, fails_here, next_holds}
use Rattle.tor_sums.proofs.FirstOf.{first_of_none}
use Rattle.tor_engine.proofs.Stopping.{error_stays, stops}
use Rattle.tor_engine.proofs.UnitShares.{refused}
use Rattle.tor_engine.proofs.workers.turn.hash_in_turn.Goals as goal

pub returns-in_err-worker : goal.returns-in_err-worker
returns-in_err-worker g c =
    let w = g.W.UnitWork in
    refused (λ work units sums. SumUpEach (w.sums_up work) units sums)
    w.is_steady w.fault w.gave c.args.work.now c.args.first c.args.units.now c.from_residual.result
    c.from_residual.ensures.1 (g.met.W.UnitWork.may_refuse c.args.work.now)

pub units-init : goal.units-init
units-init g c = record {
  stands = subst (λ (sums : List _). g.W.UnitWork.stands c.args.work.now [] sums c.in_ok-worker.worker)
      (sym c.new-sums.ensures.items) c.in_ok-worker.ensures;
  faultless = λ facts steady. first_of_none (failure_of (g.W.UnitWork.fault c.args.work.now facts));
}

pub hash-requires-clause-stands : goal.hash-requires-clause-stands
hash-requires-clause-stands g c =
    (take c.units.index c.args.units.now, c.units.sums.items, c.units.invariant.stands)

pub complete-requires-clause-stands : goal.complete-requires-clause-stands
complete-requires-clause-stands g c = (take c.units.index c.args.units.now, c.units.invariant.stands)

pub returns-in-Err : goal.returns-in-Err
returns-in-Err g c = record {
  summed = _;
  steady = λ facts steady.
      stops _ c.of.result c.of.ensures
      (IsFailure (first_failure (g.W.UnitWork.fault c.args.work.now facts) c.args.first c.args.units.now)) tt
      (c.in-Err.ensures.fault facts steady)
      (fails_here (g.W.UnitWork.fault c.args.work.now facts) c.args.first c.args.units.now c.units.index
      _ c.index-units-index.result c.units-test.true (sym c.index-units-index.is)
      (c.units.invariant.faultless facts steady) c.in-Err.error);
  gave = subst (g.W.UnitWork.gave c.args.work.now) (sym (error_stays _ c.of.result c.of.ensures)) c.in-Err.ensures.gave;
}

pub returns-in_err-push : goal.returns-in_err-push
returns-in_err-push g c =
    let w = g.W.UnitWork in
    refused (λ work units sums. SumUpEach (w.sums_up work) units sums)
    w.is_steady w.fault w.gave c.args.work.now c.args.first c.args.units.now
    c.from_residual-in_err-push.result c.from_residual-in_err-push.ensures.1
    (g.met.W.UnitWork.may_refuse c.args.work.now)

pub units-preserved : goal.units-preserved
units-preserved g c =
    let work = c.args.work.now in
    let units = c.args.units.now in
    let i = c.units.index in
    let unit = c.index-units-index.result in
    let here = sym c.index-units-index.is in
    record {
      stands = subst (λ (us : List PlanUnit).
          g.W.UnitWork.stands work us c.push.new.self.items c.hash.new.worker)
          (ap (λ u. take i units ++ u ∷ []) c.index-units-index.is ∙ sym (take_more units i _ c.units-test.true))
          (subst (λ (sums : List _). g.W.UnitWork.stands work (take i units ++ unit ∷ []) sums c.hash.new.worker)
          (sym c.in_ok-push.ensures.items)
          (c.in-Ok.ensures.stands (take i units) c.units.sums.items c.units.invariant.stands));
      faultless = λ facts steady.
          next_holds (g.W.UnitWork.fault work facts) c.args.first units i _ unit c.units-test.true here
          (c.units.invariant.faultless facts steady) (c.in-Ok.ensures.fault facts steady);
    }

pub returns : goal.returns
returns g c =
    let units = c.args.units.now in
    record {
      summed = subst (λ (us : List PlanUnit).
          SumUpEach (g.W.UnitWork.sums_up c.args.work.now) us c.complete.new.sums.items)
          (take_all c.units.index units c.units-test.false)
          (c.complete.ensures.summed (take c.units.index units) c.units.invariant.stands);
      steady = λ facts steady.
          all_hold (g.W.UnitWork.fault c.args.work.now facts) c.args.first units c.units.index c.units-test.false
          (c.units.invariant.faultless facts steady);
      gave = _;
    }

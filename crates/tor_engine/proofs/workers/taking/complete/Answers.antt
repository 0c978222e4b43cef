-- a worker that has begun completes all
use Rattle.std.proofs.Common.{subst}
use Rattle.tor_engine.specs.steps.Taken.{HasBegun, units_taken}
use Rattle.tor_engine.proofs.ClaimedUnits.{all_complete}
use Rattle.tor_engine.proofs.workers.taking.complete.Goals as goal

pub complete-requires-clause-stands : goal.complete-requires-clause-stands
complete-requires-clause-stands g c =
    let w = g.W.UnitWork in
    let work = c.args.work.now in (
      units_taken (w.number_in work) c.args.units.now c.args.sums.now.items,
      subst (HasBegun (w.stands work) (w.number_in work) c.args.units.now c.args.sums.now.items) c.in-Some.is
          c.requires.stands,
    )

pub returns-in-Some-clause-summed : goal.returns-in-Some-clause-summed
returns-in-Some-clause-summed g c = λ each.
    let w = g.W.UnitWork in
    let work = c.args.work.now in
    let units = c.args.units.now in
    let sums = c.args.sums.now.items in
    all_complete (w.number_in work) (w.hash_in work) (w.sums_up work) units sums c.complete.new.sums.items
    c.complete.ensures.same
    (c.complete.ensures.summed (units_taken (w.number_in work) units sums)
    (subst (HasBegun (w.stands work) (w.number_in work) units sums) c.in-Some.is c.requires.stands)) each

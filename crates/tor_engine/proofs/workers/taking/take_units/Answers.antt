-- one unit after the other
use Rattle.std.proofs.Common.{◌<◌, length, arith, ap, refl, subst, ◌∙◌}
use Rattle.tor_board.specs.Desks.{Desk, failing}
use Rattle.tor_board.specs.Seats.{knows}
use Rattle.tor_engine.specs.steps.Taken.{GivesUnit, IsAny}
use Rattle.tor_engine.proofs.ClaimedUnits.{taken_few, takes_all, takes_as, takes_failed, takes_next, takes_none}
use Rattle.tor_engine.proofs.ClaimedUnits.{taking_complete}
use Rattle.tor_engine.proofs.workers.taking.take_units.Goals as goal

pub claims-init : goal.claims-init
claims-init g c =
    let w = g.W.UnitWork in
    let work = c.args.work.now in
    record {
      board = c.requires.board.0;
      stands = c.new-share.ensures.units;
      taking = takes_none (w.number_in work) (w.hash_in work) IsAny (w.is_steady work) (w.fault work)
          (w.gave work) c.args.units.now (knows c.args.seat.now) c.new-share.result c.requires.idle
          c.new-share.ensures.units c.new-share.ensures.tops;
    }

pub claims-smaller : goal.claims-smaller
claims-smaller g c =
    let w = g.W.UnitWork in
    let work = c.args.work.now in
    let few = taken_few (w.number_in work) (w.hash_in work) IsAny (w.is_steady work) (w.fault work)
    (w.gave work) c.args.units.now (knows c.args.seat.now) (knows c.claims.seat) c.claims.share
    c.claims.invariant.taking in
    let given = ap (λ (d : Desk). length d.given) c.in-Ok.ensures.given.given in
    let before = ap (λ (d : Desk). length d.given) c.in-Some.ensures.some.1 in
    omega (arith, few, given, before)

pub claims-preserved : goal.claims-preserved
claims-preserved g c =
    let w = g.W.UnitWork in
    let work = c.args.work.now in
    let units = c.args.units.now in
    let claimed = c.in-Some.ensures.some in
    let there : c.in-Some.job.number < length units = omega (arith, claimed.0, c.requires.board.1) in
    record {
      board = c.take_unit.ensures.board;
      stands = c.in-Ok.ensures.stands;
      taking = takes_next (w.number_in work) (w.hash_in work) IsAny (w.is_steady work) (w.fault work)
          (w.gave work) units (knows c.args.seat.now) (knows c.claims.seat) c.claims.share c.claims.invariant.taking
          c.in-Some.job.number there claimed.2 (knows c.take_unit.new.seat) c.take_unit.new.share
          (subst (λ (d : Desk). GivesUnit (w.number_in work) (w.hash_in work) IsAny units
          c.in-Some.job.number d (knows c.take_unit.new.seat) c.claims.share c.take_unit.new.share) claimed.1
          c.in-Ok.ensures.given) c.in-Ok.ensures.fault;
    }

pub returns-in-Err-clause-taken : goal.returns-in-Err-clause-taken
returns-in-Err-clause-taken g c =
    let w = g.W.UnitWork in
    let work = c.args.work.now in
    let units = c.args.units.now in
    let claimed = c.in-Some.ensures.some in
    let there : c.in-Some.job.number < length units = omega (arith, claimed.0, c.requires.board.1) in
    takes_as (w.number_in work) (w.hash_in work) IsAny (w.sums_up work) (w.is_steady work) (w.fault work)
    (w.gave work) units (knows c.args.seat.now) (knows c.take_unit.new.seat) c.in-Err.failure
    (takes_failed (w.number_in work) (w.hash_in work) IsAny (w.is_steady work) (w.fault work) (w.gave work)
    units (knows c.args.seat.now) (knows c.claims.seat) c.claims.share c.claims.invariant.taking
    c.in-Some.job.number there claimed.2 (knows c.take_unit.new.seat) c.in-Err.failure
    (c.in-Err.ensures.failed.1 ∙ ap (λ (d : Desk). failing d c.in-Some.job.number) claimed.1)
    c.in-Err.ensures.failed.0 c.in-Err.ensures.fault c.in-Err.ensures.gave)

pub returns-clause-taken : goal.returns-clause-taken
returns-clause-taken g c =
    let w = g.W.UnitWork in
    let work = c.args.work.now in
    let done = c.complete.ensures in
    takes_all (w.number_in work) (w.hash_in work) (w.sums_up work) (w.is_steady work) (w.fault work) (w.gave work)
    c.args.units.now (knows c.args.seat.now) (knows c.claims.seat) (knows c.claim.new.seat) _
    (taking_complete (w.number_in work) (w.hash_in work) (w.sums_up work) (w.is_steady work) (w.fault work)
    (w.gave work) c.args.units.now (knows c.args.seat.now) (knows c.claims.seat) c.claims.share _
    c.claims.invariant.taking refl done.same (done.summed c.claims.invariant.taking.of.summed))
    c.in_default.ensures.none

-- the unit of this number, hashed by a worker that has begun
use Rattle.std.proofs.Common.{[], ap, subst, sym, ◌∙◌}
use Rattle.std.proofs.lemmas.List.{get_or_default}
use Rattle.tor_plan.specs.declared.units.PlanUnit.{PlanUnit}
use Rattle.tor_sums.specs.Fault.{IsFault}
use Rattle.tor_engine.specs.steps.Taken.{HasBegun, units_taken}
use Rattle.tor_engine.proofs.ClaimedUnits.{taken_next}
use Rattle.tor_engine.proofs.workers.taking.hash_claimed.Goals as goal

pub hash-requires : goal.hash-requires
hash-requires g c = record {
  begin = c.requires.begin;
  unit = subst (λ (one : PlanUnit). g.W.UnitWork.may_hash c.args.work.now one) (sym c.index-units-number.is)
      (c.requires.units c.args.number c.index-units-number.result c.requires.number);
  stands = (
    units_taken (g.W.UnitWork.number_in c.args.work.now) c.args.units.now c.args.share.now.units.items,
    c.args.share.now.units.items,
    c.in_ok-own.ensures c.args.units.now c.args.share.now.units.items
        (subst (HasBegun (g.W.UnitWork.stands c.args.work.now) (g.W.UnitWork.number_in c.args.work.now)
        c.args.units.now c.args.share.now.units.items) (sym c.take.ensures.value) c.requires.stands),
  );
}

pub returns-in-Err : goal.returns-in-Err
returns-in-Err g c =
    let w = g.W.UnitWork in
    let work = c.args.work.now in
    let none : PlanUnit = record { zeros = 0; parts = [] } in
    let unit = c.index-units-number.is
    ∙ get_or_default c.args.units.now c.args.number c.index-units-number.result none c.requires.number in
    record {
      stands = tt;
      room = tt;
      kept = (c.in_ok-reserve.ensures.units, c.in_ok-reserve.ensures.tops);
      number = tt;
      fault = λ facts steady.
          subst (λ (one : PlanUnit). IsFault (w.fault work facts one) c.in-Err.error) unit
          (c.in-Err.ensures.fault facts steady);
      gave = c.in-Err.ensures.gave;
    }

pub returns : goal.returns
returns g c =
    let w = g.W.UnitWork in
    let work = c.args.work.now in
    let none : PlanUnit = record { zeros = 0; parts = [] } in
    let work_stands = w.stands work in
    let begun = c.in_ok-own.ensures c.args.units.now c.args.share.now.units.items
    (subst (HasBegun work_stands (w.number_in work) c.args.units.now c.args.share.now.units.items)
    (sym c.take.ensures.value) c.requires.stands) in
    let unit = c.index-units-number.is
    ∙ get_or_default c.args.units.now c.args.number c.index-units-number.result none c.requires.number in
    record {
      stands = taken_next work_stands (w.number_in work) c.args.units.now c.args.share.now.units.items c.in-Ok.sums
          c.args.number c.index-units-number.result unit c.in-Ok.ensures.number c.hash.new.worker
          (c.in-Ok.ensures.stands _ _ begun);
      room = c.in_ok-reserve.ensures.room;
      kept = (c.in_ok-reserve.ensures.units, c.in_ok-reserve.ensures.tops);
      number = c.in-Ok.ensures.number;
      fault = λ facts steady. ap (λ one. w.fault work facts one) (sym unit) ∙ c.in-Ok.ensures.fault facts steady;
      gave = tt;
    }

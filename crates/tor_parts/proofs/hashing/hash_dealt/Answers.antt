-- the lot's units are those from its first on, and before the first after it
use Rattle.std.proofs.Common.{◌≡◌, ℕ, List, None, ap₂, subst, sym}
use Rattle.std.specs.Prelude.{MatchResult}
use Rattle.tor_engine.specs.Rows.{AreInFiles, units_between}
use Rattle.tor_plan.specs.declared.units.PlanUnit.{PlanUnit}
use Rattle.tor_sums.specs.Fault.{FailsWithin, IsFault, wanted_units_fault}
use Rattle.tor_parts.proofs.hashing.hash_dealt.Goals as goal

pub returns-clause-of_lot : goal.returns-clause-of_lot
returns-clause-of_lot g c = λ lengths are.
    c.hash_lot.ensures.of_lot lengths
    (subst (λ (units : List PlanUnit). AreInFiles lengths units)
    (sym (ap₂ (λ (from : ℕ) (to : ℕ). units_between from to c.args.plan.now.units) c.deal-from.ensures.first
    c.deal-from.ensures.after)) are)

pub returns-clause-wanted : goal.returns-clause-wanted
returns-clause-wanted g c = λ facts steady within.
    let is = ap₂ (λ (from : ℕ) (to : ℕ). units_between from to c.args.plan.now.units) c.deal-from.ensures.first
    c.deal-from.ensures.after in
    subst (λ (units : List PlanUnit). MatchResult c.hash_lot.result (λ _. wanted_units_fault facts units ≡ None)
    (IsFault (wanted_units_fault facts units))) is
    (c.hash_lot.ensures.wanted facts steady
    (subst (λ (units : List PlanUnit). FailsWithin facts units) (sym is) within))

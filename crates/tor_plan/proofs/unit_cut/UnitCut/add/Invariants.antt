-- so many bytes were added; what is left of them begins with them or with a unit
use Rattle.tor_plan.proofs.Names.{◌≡◌, ◌⊎◌, ℕ, ◌+◌, ◌-◌, ◌≤◌, PlanUnit, HasCut, IsStretchAt}
use Rattle.tor_plan.proofs.unit_cut.UnitCut.add.Given as goal

abbrev pub invariant-stretch : goal.invariant-stretch
invariant-stretch l = record {
  within : l.done ≤ l.length;
  size : l.self.size ≡ l.initial.self.size;
  begins : (l.done ≡ 0) ⊎ ((l.done ≡ l.length) ⊎ (l.self.room ≡ 0));
  cut : (unit : PlanUnit) (at : ℕ) → HasCut l.initial.self unit at → IsStretchAt unit at l.stretch l.length
      → HasCut l.self unit (at + l.done);
}

abbrev pub decreases-stretch : goal.decreases-stretch
decreases-stretch l = l.length - l.done

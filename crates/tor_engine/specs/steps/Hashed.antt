-- What hashing the units of a plan answers, by whatever workers. Only private clauses cite this.
use Rattle.std.specs.Prelude.{◌≡◌, ℕ, List, None, Option, IfErr, IfOk, MatchResult, Result, Vec, map}
use Rattle.std.specs.declared.alloc.Global.{Global}
use Rattle.tor_plan.specs.declared.forests.Run.{Run}
use Rattle.tor_plan.specs.declared.units.PlanUnit.{PlanUnit}
use Rattle.tor_source.specs.Source.{SourceFacts}
use Rattle.tor_sums.specs.Fault.{IsFault, first_of}
use Rattle.tor_sums.specs.declared.errors.EngineError.{EngineError}
use Rattle.tor_sums.specs.steps.Each.{SumUpEach}
use Rattle.tor_sums.specs.steps.Roots.{roots_of_trees}

-- what each of the units sums up to, and the roots of the trees over their hashes; or the first fault in the order of
-- the units, or want of resources, which comes before all
pub record AreHashed {F A : Type 0} (hash_in : A → List ℕ) (sums_up : PlanUnit → A → Type 0)
    (is_steady : SourceFacts F → Type 0) (fault_of : SourceFacts F → PlanUnit → Option (EngineError F))
    (may_be : EngineError F → Type 0) (units : List PlanUnit) (trees : List Run)
    (result : Result (Vec A Global × Vec (Option (List ℕ)) Global) (EngineError F)) : Type 0 where
  pub summed : IfOk result (λ r. SumUpEach sums_up units r.0.items)
  pub roots : IfOk result (λ r. r.1.items ≡ roots_of_trees (map hash_in r.0.items) trees)
  pub fault : (facts : SourceFacts F) → is_steady facts → MatchResult result
      (λ _. first_of (fault_of facts) units ≡ None) (IsFault (first_of (fault_of facts) units))
  pub gave : IfErr result may_be

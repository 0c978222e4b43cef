-- The first of numbered units that fails. Only private clauses cite these.
use Rattle.std.specs.Prelude.{◌≡◌, ◌++◌, ℕ, Bool, true, false, nat_le, List, Option, None, Result, IfErr, IfOk}
use Rattle.std.specs.Prelude.{MatchResult, Some, option_map, Ok, Err, Vec, if◌then◌else◌}
use Rattle.std.specs.declared.alloc.Global.{Global}
use Rattle.std.specs.List.{enumerate_from}
use Rattle.tor_plan.specs.declared.units.PlanUnit.{PlanUnit}
use Rattle.tor_source.specs.Source.{SourceFacts}
use Rattle.tor_sums.specs.Fault.{first_of}
use Rattle.tor_sums.specs.declared.errors.EngineError.{EngineError}
use Rattle.tor_sums.specs.declared.errors.EngineError.TheVariants.{Resources}
use Rattle.tor_engine.specs.declared.workers.failure.Failure.{Failure}
use Rattle.tor_engine.specs.declared.workers.failure.Failure.TheVariants.{AtUnit, Memory}
use Rattle.tor_engine.specs.declared.workers.failure.UnitFailure.{UnitFailure}

-- the fault of a unit, with its number
abbrev pub failure_of : {F : Type 0} → (PlanUnit → Option (EngineError F)) → ℕ × PlanUnit → Option (UnitFailure F)
failure_of fault numbered = option_map (λ error. record { unit = numbered.0; error = error }) (fault numbered.1)

-- the first of units that are numbered from `first` on
abbrev pub first_failure : {F : Type 0} → (PlanUnit → Option (EngineError F)) → ℕ → List PlanUnit
    → Option (UnitFailure F)
first_failure fault first units = first_of (failure_of fault) (enumerate_from first units)

abbrev pub is_resources : {F : Type 0} → EngineError F → Bool
is_resources Resources = true
is_resources _ = false

-- why a worker stops that failed this unit
abbrev pub stopped_by : {F : Type 0} → UnitFailure F → Failure F
stopped_by failure = if is_resources failure.error then Memory else AtUnit failure

-- the error that is answered
abbrev pub error_of : {F : Type 0} → Failure F → EngineError F
error_of Memory = Resources
error_of (AtUnit failure) = failure.error

-- memory was refused, or this is the failure
abbrev pub IsFailure : {F : Type 0} → Option (UnitFailure F) → Failure F → Type 0
IsFailure first Memory = Unit {0}
IsFailure first (AtUnit failure) = first ≡ Some failure

-- what a worker answers for units that are numbered from `first` on: what they sum up to; of a steady source no unit
-- fails, or the first that does is answered; an error is one that may be
pub record AnswersUnits {F A : Type 0} (sums_up : List PlanUnit → A → Type 0) (is_steady : SourceFacts F → Type 0)
    (fault : SourceFacts F → PlanUnit → Option (EngineError F)) (may_be : EngineError F → Type 0) (first : ℕ)
    (units : List PlanUnit) (result : Result A (Failure F)) : Type 0 where
  pub summed : IfOk result (sums_up units)
  pub steady : (facts : SourceFacts F) → is_steady facts →
      MatchResult result (λ _. first_failure (fault facts) first units ≡ None)
      (IsFailure (first_failure (fault facts) first units))
  pub gave : IfErr result (λ failure. may_be (error_of failure))

-- of two failures: want of memory before all, else that of the lesser unit
abbrev pub least_of : {F : Type 0} → Failure F → Failure F → Failure F
least_of Memory other = Memory
least_of (AtUnit one) Memory = Memory
least_of (AtUnit one) (AtUnit other) = AtUnit (if nat_le one.unit other.unit then one else other)

-- what two workers answer together: both answers, or why one stopped
abbrev pub both_of : {F A : Type 0} → Result A (Failure F) → Result A (Failure F) → Result (A × A) (Failure F)
both_of (Ok one) (Ok other) = Ok (one, other)
both_of (Ok one) (Err failure) = Err failure
both_of (Err failure) (Ok other) = Err failure
both_of (Err failure) (Err later) = Err (least_of failure later)

-- the items of one list after those of the other
abbrev pub AreJoined : {F A : Type 0} → Result (Vec A Global × Vec A Global) (Failure F)
    → Result (Vec A Global) (Failure F) → Type 0
AreJoined (Ok both) result =
    MatchResult result (λ joined. joined.items ≡ both.0.items ++ both.1.items) (λ failure. failure ≡ Memory)
AreJoined (Err failure) result = result ≡ Err failure

-- Why a worker stops, and which of two failures is answered.
use Rattle.std.proofs.Common.{◌≡◌, ◌⊎◌, true, false, nat_le, inl, inr, refl, ap, sym, subst, ◌∙◌}
use Rattle.std.proofs.Common.{if◌then◌else◌}
use Rattle.tor_sums.specs.declared.errors.EngineError.{EngineError}
use Rattle.tor_sums.specs.declared.errors.EngineError.TheVariants.{Resources}
use Rattle.tor_engine.specs.declared.workers.failure.Failure.{Failure}
use Rattle.tor_engine.specs.declared.workers.failure.Failure.TheVariants.{AtUnit, Memory}
use Rattle.tor_engine.specs.declared.workers.failure.UnitFailure.{UnitFailure}
use Rattle.tor_engine.specs.steps.Failing.{error_of, is_resources, least_of, stopped_by}

-- what holds of both failures does of the one that is answered
pub of_least : {F : Type 0} (P : Failure F → Type 0) (one other : Failure F) → P one → P other
    → P (least_of one other)
of_least P Memory other holds more = holds
of_least P (AtUnit one) Memory holds more = more
of_least P (AtUnit one) (AtUnit other) holds more =
    elim (nat_le one.unit other.unit) as (λ b. P (AtUnit (if b then one else other))) [ true ↦ holds | false ↦ more ]

-- why a worker stops that failed this unit
module _ {F : Type 0} (failure : UnitFailure F) (why : Failure F) (is_why : why ≡ stopped_by failure) where
  abbrev stopped : EngineError F → Failure F
  stopped error = if is_resources error then Memory else AtUnit failure

  -- the error stays
  pub error_stays : error_of why ≡ failure.error
  error_stays = ap error_of is_why ∙ kept failure.error refl
    where
      kept : (error : EngineError F) → failure.error ≡ error → error_of (stopped failure.error) ≡ failure.error
      kept Resources is = ap (λ e. error_of (stopped e)) is ∙ sym is
      kept error is = ap (λ e. error_of (stopped e)) is

  -- what is said of memory, and of a unit that has a fault, is said of it
  pub stops : {X : Type 0} (P : Failure F → Type 0) → P Memory → (failure.error ≡ Resources) ⊎ X
      → (X → P (AtUnit failure)) → P why
  stops P memory fault at = subst P (sym is_why) (
      elim fault [
        | inl is ↦ subst (λ (e : EngineError F). P (stopped e)) (sym is) memory
        | inr x ↦ elim (is_resources failure.error) as (λ b. P (if b then Memory else AtUnit failure)) [
          | true ↦ memory
          | false ↦ at x
        ]
      ]
      )

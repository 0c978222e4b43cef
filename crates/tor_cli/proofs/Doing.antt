-- What came of a request, and the status that tells it.
use Rattle.std.proofs.Common.{◌≡◌, ◌≢◌, ◌⊎◌, inl, inr, sym, subst, ℕ}
use Rattle.std.specs.Prelude.{IfErr, IfOk, OnOk, Result, Ok, Err}
use Rattle.tor_cli.specs.Status.{status_of}
use Rattle.tor_cli.specs.steps.Ending.{done_of, status_after}
use Rattle.tor_cli.specs.declared.answer.Answer.{Answer}
use Rattle.tor_cli.specs.declared.answer.Answer.TheVariants.{Yes, No}
use Rattle.tor_cli.specs.declared.fault.Fault.{Fault}

-- what asks nothing is answered by yes
pub is_done : {A : Type 0} (Holds : Answer → Type 0) (outcome : Result A Fault) (result : Result Answer Fault)
    → result ≡ done_of outcome → OnOk outcome (Holds Yes) → IfOk result Holds
is_done Holds (Ok done) result is holds = subst (λ r. IfOk r Holds) (sym is) holds
is_done Holds (Err fault) result is holds = subst (λ r. IfOk r Holds) (sym is) tt

pub is_stopped : {A : Type 0} (Why : Fault → Type 0) (outcome : Result A Fault) (result : Result Answer Fault)
    → result ≡ done_of outcome → IfErr outcome Why → IfErr result Why
is_stopped Why (Ok done) result is holds = subst (λ r. IfErr r Why) (sym is) tt
is_stopped Why (Err fault) result is holds = subst (λ r. IfErr r Why) (sym is) holds

pub is_answered : (Given Holds : Answer → Type 0) (result : Result Answer Fault) → (Given Yes → Holds Yes)
    → (Given No → Holds No) → IfOk result Given → IfOk result Holds
is_answered Given Holds (Ok Yes) of_yes of_no given = of_yes given
is_answered Given Holds (Ok No) of_yes of_no given = of_no given
is_answered Given Holds (Err fault) of_yes of_no given = tt

-- a status that is not 0 is that of a no, or of a fault
pub ends : (Holds : Answer → Type 0) (Why : Fault → Type 0) (outcome : Result Answer Fault) (status : ℕ)
    → status ≡ status_after outcome → IfOk outcome Holds → IfErr outcome Why → status ≢ 0
    → ((status ≡ 1) × Holds No) ⊎ ((fault : Fault) × (status ≡ status_of fault) × Why fault)
ends Holds Why (Ok Yes) status is done why other = absurd (other is)
ends Holds Why (Ok No) status is done why other = inl (is, done)
ends Holds Why (Err fault) status is done why other = inr (fault, is, why)

-- the outcome that is a yes
pub ends_well : (Holds : Answer → Type 0) (outcome : Result Answer Fault) → outcome ≡ Ok Yes → IfOk outcome Holds
    → Holds Yes
ends_well Holds outcome is done = subst (λ r. IfOk r Holds) is done

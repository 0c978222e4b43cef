use Rattle.std.proofs.Common.{◌≡◌, rules, ℕ, List, None, Ok, Err, Result, IfOk}
use Rattle.std.specs.Result.{result_err}
use Rattle.tor_check.specs.Valid.{IsTold}
use Rattle.tor_check.specs.declared.refusal.Refusal.{Refusal}
use Rattle.tor_spec.specs.valid.Conditions.{IsValid}
use Rattle.tor_spec.specs.valid.View.{View}
use Rattle.tor_promises.proofs.judging.refusal_of.Goals as goal

-- of what is no refusal a torrent is told
told : (bytes : List ℕ) (result : Result View Refusal) → IfOk result (IsTold bytes) → result_err result ≡ None
    → IsValid bytes
told bytes (Ok view) is_told none = (is_told.0, is_told.1)
told bytes (Err refusal) is_told none = search rules

pub returns-clause-accepted : goal.returns-clause-accepted
returns-clause-accepted c =
    λ none. search (rules, told)

pub returns-clause-only : goal.returns-clause-only
returns-clause-only c = search rules

pub returns-clause-refused : goal.returns-clause-refused
returns-clause-refused c = search rules

pub returns-clause-memory : goal.returns-clause-memory
returns-clause-memory c = search rules

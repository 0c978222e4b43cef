-- What holds of a result that is only the error of a call before it.
use Rattle.std.proofs.Common.{◌≡◌, Result, Ok, Err, IfErr, IfOk, IsErrAnd, MatchResult, subst, sym}
use Rattle.std.specs.Prelude.{OnOk}

module _ {T E : Type 0} where
  -- all that is said of a value
  pub stopped : (P : T → Type 0) (Q : E → Type 0) (r : Result T E) → IsErrAnd r Q → IfOk r P
  stopped P Q (Ok x) is = absurd is
  stopped P Q (Err y) is = tt

  pub stopped_on : (P : Type 0) (Q : E → Type 0) (r : Result T E) → IsErrAnd r Q → OnOk r P
  stopped_on P Q (Ok x) is = absurd is
  stopped_on P Q (Err y) is = tt

  -- what holds of that error
  pub stopped_by : (P : E → Type 0) (e : E) (r : Result T E) → IsErrAnd r (λ y. y ≡ e) → P e → IfErr r P
  stopped_by P e (Ok x) is holds = absurd is
  stopped_by P e (Err y) is holds = subst P (sym is) holds

  pub stopped_match : (A : T → Type 0) (P : E → Type 0) (e : E) (r : Result T E) → IsErrAnd r (λ y. y ≡ e) → P e
      → MatchResult r A P
  stopped_match A P e (Ok x) is holds = absurd is
  stopped_match A P e (Err y) is holds = subst P (sym is) holds

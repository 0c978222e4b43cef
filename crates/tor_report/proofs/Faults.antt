-- A fault of the writer that `?` hands on.
use Rattle.std.proofs.Common.{◌≡◌, ℕ, List, ◌++◌, Result, Ok, Err, append_assoc, subst, sym, ◌∙◌}
use Rattle.std.specs.Prelude.{IfErr, OnOk}
use Rattle.tor_report.specs.Sinks.{IsSink}
use Rattle.std.specs.Result.{IsErr, IsErrAnd}
use Rattle.tor_spec.specs.declared.output.WriteFault.{WriteFault}
use Rattle.tor_report.specs.Put.{Puts, Stops}
use Rattle.tor_report.specs.declared.buffer.Buffer.{Buffer}
use Rattle.tor_report.proofs.Putting.{puts_both, stops_later, stops_sooner}

handed_on : {A : Type 0} (r : Result A WriteFault) (e : WriteFault) (P : ℕ → Type 0) → IsErrAnd r (λ x. x ≡ e)
    → P e.written → IfErr r (λ fault. P fault.written)
handed_on (Ok a) e P same holds = tt
handed_on (Err x) e P same holds = subst (λ (y : WriteFault). P y.written) (sym same) holds

-- while the first text was put
pub fault_in : {S : Type 0} {took : S → S → List ℕ → Type 0} {fails : S → List ℕ → Type 0} → IsSink took fails
    → {A : Type 0} (r : Result A WriteFault) (e : WriteFault) (first rest whole : List ℕ)
    (out out' : S) (b : Buffer) → IsErr r × IsErrAnd r (λ x. x ≡ e) → first ++ rest ≡ whole
    → Stops took fails first out b out' e.written → IfErr r (λ fault. Stops took fails whole out b out' fault.written)
fault_in {took = took} {fails = fails} law r e first rest whole out out' b same split stop =
    handed_on r e (Stops took fails whole out b out') same.1
    (subst (λ (xs : List ℕ). Stops took fails xs out b out' e.written) split
    (stops_sooner law first rest out out' b e.written stop))

-- while the one after it was put
pub fault_after : {S : Type 0} {took : S → S → List ℕ → Type 0} {fails : S → List ℕ → Type 0} → IsSink took fails
    → {A : Type 0} (r : Result A WriteFault) (e : WriteFault) (done first rest whole : List ℕ)
    (out mid out' : S) (b m : Buffer) → IsErr r × IsErrAnd r (λ x. x ≡ e)
    → done ++ (first ++ rest) ≡ whole → Puts took done out b mid m → Stops took fails first mid m out' e.written
    → IfErr r (λ fault. Stops took fails whole out b out' fault.written)
fault_after {took = took} {fails = fails} law r e done first rest whole out mid out' b m same split put stop =
    handed_on r e (Stops took fails whole out b out') same.1
    (subst (λ (xs : List ℕ). Stops took fails xs out b out' e.written) split
    (stops_later law done (first ++ rest) out mid out' b m e.written put
    (stops_sooner law first rest mid out' m e.written stop)))

-- ---- the last text

pub put_last : {S : Type 0} {took : S → S → List ℕ → Type 0} {A : Type 0} (r : Result A WriteFault) (done last whole :
    List ℕ) (out mid out' : S)
    (b m b' : Buffer) → done ++ last ≡ whole → Puts took done out b mid m → OnOk r (Puts took last mid m out' b')
    → OnOk r (Puts took whole out b out' b')
put_last {took = took} (Ok a) done last whole out mid out' b m b' split one two =
    subst (λ (xs : List ℕ). Puts took xs out b out' b') split (puts_both done last out mid out' b m b' one two)
put_last {took = took} (Err e) done last whole out mid out' b m b' split one two = tt

pub stop_last : {S : Type 0} {took : S → S → List ℕ → Type 0} {fails : S → List ℕ → Type 0} → IsSink took fails
    → {A : Type 0} (r : Result A WriteFault) (done last whole : List ℕ) (out mid out' : S)
    (b m : Buffer) → done ++ last ≡ whole → Puts took done out b mid m
    → IfErr r (λ fault. Stops took fails last mid m out' fault.written)
    → IfErr r (λ fault. Stops took fails whole out b out' fault.written)
stop_last {took = took} {fails = fails} law (Ok a) done last whole out mid out' b m split one stop = tt
stop_last {took = took} {fails = fails} law (Err e) done last whole out mid out' b m split one stop =
    subst (λ (xs : List ℕ). Stops took fails xs out b out' e.written) split
    (stops_later law done last out mid out' b m e.written one stop)

-- ---- the same text, written another way

module _ {S : Type 0} {took : S → S → List ℕ → Type 0} {fails : S → List ℕ → Type 0} (law : IsSink took fails)
    {A : Type 0} (r : Result A WriteFault) (text whole : List ℕ) (out out' : S) (b : Buffer) (same : text ≡ whole) where
  pub put_same : (b' : Buffer) → OnOk r (Puts took text out b out' b') → OnOk r (Puts took whole out b out' b')
  put_same b' put = subst (λ (xs : List ℕ). OnOk r (Puts took xs out b out' b')) same put

  pub stop_same : IfErr r (λ fault. Stops took fails text out b out' fault.written)
      → IfErr r (λ fault. Stops took fails whole out b out' fault.written)
  stop_same stop = subst (λ (xs : List ℕ). IfErr r (λ fault. Stops took fails xs out b out' fault.written)) same stop

-- ---- the last of three

module _ {S : Type 0} {took : S → S → List ℕ → Type 0} {fails : S → List ℕ → Type 0} (law : IsSink took fails)
    {A : Type 0} (r : Result A WriteFault) (first second last whole : List ℕ)
    (out mid most out' : S) (b m n : Buffer) (split : first ++ (second ++ last) ≡ whole)
    (one : Puts took first out b mid m) (two : Puts took second mid m most n) where
  both : Puts took (first ++ second) out b most n
  both = puts_both first second out mid most b m n one two

  pub put_third : (b' : Buffer) → OnOk r (Puts took last most n out' b') → OnOk r (Puts took whole out b out' b')
  put_third b' three =
      put_last r (first ++ second) last whole out most out' b n b' (append_assoc first second last ∙ split) both three

  pub stop_third : IfErr r (λ fault. Stops took fails last most n out' fault.written)
      → IfErr r (λ fault. Stops took fails whole out b out' fault.written)
  stop_third stop =
      stop_last law r (first ++ second) last whole out most out' b n (append_assoc first second last ∙ split) both stop

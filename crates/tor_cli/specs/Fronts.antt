-- What an input that keeps some of its bytes is before and after it takes a part: it has no more than came.
use Rattle.std.specs.Prelude.{◌≡◌, ◌≤◌, ◌+◌, ◌++◌, [], ℕ, List, length, vec_len}
use Rattle.std.proofs.Common.{arith, length-append, refl, ◌∙◌}
use Rattle.tor_cli.specs.declared.foreign.Front.{Front}

abbrev pub KeepsAtMost : {S : Type 0} → (S → ℕ) → S → List ℕ → S → Type 0
KeepsAtMost size old part new = size new ≤ size old + length part

pub keeps_none : {S : Type 0} (size : S → ℕ) (s : S) → KeepsAtMost size s [] s
keeps_none size s = omega arith

pub keeps_both : {S : Type 0} (size : S → ℕ) (s t u : S) (front rest : List ℕ) → KeepsAtMost size s front t
    → KeepsAtMost size t rest u → KeepsAtMost size s (front ++ rest) u
keeps_both size s t u front rest one other =
    let longer = length-append front rest in omega (arith, one, other, longer)

-- and it keeps as many at the most as before
abbrev pub KeepsFront : Front → List ℕ → Front → Type 0
KeepsFront old part new = (new.most ≡ old.most) × KeepsAtMost (λ kept. vec_len kept.bytes) old part new

pub front_none : (s : Front) → KeepsFront s [] s
front_none s = (refl, keeps_none (λ kept. vec_len kept.bytes) s)

pub front_both : (s t u : Front) (front rest : List ℕ) → KeepsFront s front t → KeepsFront t rest u
    → KeepsFront s (front ++ rest) u
front_both s t u front rest one other =
    (other.0 ∙ one.0, keeps_both (λ kept. vec_len kept.bytes) s t u front rest one.1 other.1)

-- what stands before and after the first `/`
use Rattle.std.proofs.Common.{◌≡◌, ◌∙◌, ◌++◌, ◌∷◌, ◌+◌, ◌==◌, [], ℕ, List, Option, Some, None, ap, append_assoc, arith, drop}
use Rattle.std.proofs.Common.{length, sym, take}
use Rattle.std.proofs.Math.Seq.{drop-append_seam, take-append_seam}
use Rattle.std.proofs.lemmas.List.{length-append}
use Rattle.std.specs.Prelude.{position}
use Rattle.tor_tree.specs.Name.{slash}
use Rattle.tor_meta.proofs.PlanPaths.{first_slash, no_slash}
use Rattle.tor_meta.proofs.plans.plan_reading.first_name.Goals as goal

after_seam : (name later : List ℕ) → drop (length name + 1) (name ++ slash ∷ later) ≡ later
after_seam name later =
    let long : length name + 1 ≡ length (name ++ slash ∷ []) = omega (arith, length-append name (slash ∷ [])) in
    ap (λ n. drop n (name ++ slash ∷ later)) long
    ∙ ap (drop (length (name ++ slash ∷ []))) (sym (append_assoc name (slash ∷ []) later))
    ∙ drop-append_seam (name ++ slash ∷ []) later

pub returns-in_err-at-clause-some : goal.returns-in_err-at-clause-some
returns-in_err-at-clause-some c = λ name later plain same.
    let none : ◌≡◌ {A = Option ℕ} None (position (λ (byte : ℕ). byte == slash) c.args.text.now) = c.in_err-at.ensures.value in
    let there = none ∙ ap (position (λ (byte : ℕ). byte == slash)) same ∙ first_slash name later plain in
    cc

pub returns-clause-none : goal.returns-clause-none
returns-clause-none c = λ none.
    let some : ◌≡◌ {A = Option ℕ} (Some c.in_ok-at.at) (position (λ (byte : ℕ). byte == slash) c.args.text.now) =
    c.in_ok-at.ensures.value in
    let no = some ∙ no_slash c.args.text.now none in
    cc

pub returns-clause-some : goal.returns-clause-some
returns-clause-some c = λ name later plain same.
    let text = c.args.text.now in
    let some : ◌≡◌ {A = Option ℕ} (Some c.in_ok-at.at) (position (λ (byte : ℕ). byte == slash) text) =
    c.in_ok-at.ensures.value in
    let there = some ∙ ap (position (λ (byte : ℕ). byte == slash)) same ∙ first_slash name later plain in
    let at : c.in_ok-at.at ≡ length name = cc in (
      c.split_at.ensures.front ∙ ap (λ n. take n text) at ∙ ap (take (length name)) same
          ∙ take-append_seam name (slash ∷ later),
      c.split_at-2.ensures.back ∙ ap (λ n. drop (n + 1) text) at ∙ ap (drop (length name + 1)) same
          ∙ after_seam name later,
    )

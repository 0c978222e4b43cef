-- one name more, with `/` before it if it is not the first
use Rattle.std.proofs.Common.{◌≡◌, ◌++◌, ◌∷◌, ◌∙◌, [], ℕ, List, Vec, Global, ap, ap₂, get_or, sym}
use Rattle.std.proofs.lemmas.List.{take_all}
use Rattle.tor_meta.specs.PlanText.{path_text}
use Rattle.tor_tree.specs.Name.{slash}
use Rattle.tor_meta.proofs.PlanNames.{first_more, more_taken}
use Rattle.tor_meta.proofs.plans.plan_text.path_text.Goals as goal
use Rattle.tor_meta.proofs.plans.plan_text.path_text.Goals.{then-index-gt0+in_ok-push, else-index-gt0}

pub names-preserved : goal.names-preserved
names-preserved c =
    let names = c.args.names.now in
    let d = c.index-names-index.result in
    let is : c.as_bytes.result.now ≡ get_or names c.names.index d = c.as_bytes.ensures.value ∙ c.index-names-index.is in
    let pushed = c.in_ok-extend_from_slice.ensures.items in
    elim c.if-index-gt0.branch [
      | then-index-gt0+in_ok-push w ↦
          pushed
          ∙ ap₂ (λ (a : List ℕ) (b : List ℕ). a ++ b)
          (ap (λ (v : Vec ℕ Global). v.items) w.bytes-is ∙ w.in_ok-push.ensures.items
          ∙ ap (λ (bs : List ℕ). bs ++ slash ∷ []) c.names.invariant)
          is
          ∙ sym (more_taken names c.names.index d c.names-test.true w.if-index-gt0.true)
      | else-index-gt0 w ↦
          pushed
          ∙ ap₂ (λ (a : List ℕ) (b : List ℕ). a ++ b)
          (ap (λ (v : Vec ℕ Global). v.items) w.bytes-is ∙ c.names.invariant) is
          ∙ sym (first_more names c.names.index d c.names-test.true w.if-index-gt0.false)
    ]

pub returns : goal.returns
returns c = c.names.invariant ∙ ap path_text (take_all c.names.index c.args.names.now c.names-test.false)

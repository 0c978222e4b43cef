-- one more slot, and all of them
use Rattle.std.proofs.Common.{◌∙◌, ◌++◌, ◌∷◌, [], None, ap, arith, replicate}
use Rattle.std.proofs.lemmas.List.{replicate_more}
use Rattle.tor_meta.proofs.plans.lot_rows.no_rows.Goals as goal

pub slots-preserved : goal.slots-preserved
slots-preserved c =
    c.in_ok-push.ensures.items ∙ ap (λ slots. slots ++ None ∷ []) c.slots.invariant
    ∙ replicate_more c.slots.counter None

pub returns : goal.returns
returns c =
    c.slots.invariant ∙ ap (λ n. replicate n None) (omega (arith, c.slots-test.false, c.slots.auto.counter-end))

use Rattle.tor_tree.proofs.Cited.{◌∙◌}
use Rattle.tor_tree.proofs.NameLemmas.{is_ok-utf8}
use Rattle.tor_tree.proofs.names.is_utf8.Goals as goal

pub returns : goal.returns
returns c =
    c.is_ok.ensures.value
    ∙ is_ok-utf8 c.args.bytes.now c.from_utf8.result _ _ c.from_utf8.ensures.cases (λ _ h. h.1) (λ _ h. h.0)

use Rattle.tor_view.proofs.Names.{◌∙◌, ap, List, Bool, ◌++◌, ◌∷◌, []}
use Rattle.tor_view.proofs.Grown.{bits_more}
use Rattle.tor_view.proofs.bits.Bits.push.Goals as goal

pub returns-clause-ok : goal.returns-clause-ok
returns-clause-ok c =
    bits_more c.self.inside.bytes.items _ c.self.inside.count c.args.bit c.in_ok-add_bit.ensures.ok
    ∙ ap (λ (bits : List Bool). bits ++ c.args.bit ∷ []) c.self.view_is

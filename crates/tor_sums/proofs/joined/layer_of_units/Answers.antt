-- the layer of one
use Rattle.std.proofs.Common.{◌≡◌, ◌∙◌, ap, rules}
use Rattle.tor_sums.proofs.joined.layer_of_units.Goals as goal

pub returns : goal.returns
returns c =
    c.items_of_each.ensures (λ unit. unit.layer.items)
    (λ one own called.
    let met = called.says.met in
    let is : own.now ≡ called.shown.now.layer.items = search rules in
    is ∙ ap (λ unit. unit.layer.items) called.shows)

-- the sums of one
use Rattle.std.proofs.Common.{◌≡◌, ◌∙◌, ap, rules}
use Rattle.tor_sums.proofs.joined.pieces_of_units.Goals as goal

pub returns : goal.returns
returns c =
    c.items_of_each.ensures (λ unit. unit.pieces.items)
    (λ one own called.
    let met = called.says.met in
    let is : own.now ≡ called.shown.now.pieces.items = search rules in
    is ∙ ap (λ unit. unit.pieces.items) called.shows)

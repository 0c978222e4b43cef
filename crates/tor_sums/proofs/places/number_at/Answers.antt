-- the item that is read, whatever stands past the end
use Rattle.std.proofs.Common.{refl, subst, ◌∙◌}
use Rattle.std.proofs.lemmas.Fn.{says_at}
use Rattle.std.proofs.lemmas.List.{get_or_default}
use Rattle.std.specs.Fn.{FnReturnsAt}
use Rattle.tor_sums.proofs.places.number_at.Goals as goal

pub returns : goal.returns
returns g c = λ d.
    subst (λ (x : g.row.T.Denot). FnReturnsAt g.F.Fn c.args.number_of.now x c.number_of.result)
    (c.index-items-place.is
    ∙ get_or_default c.args.items.now c.args.place c.index-items-place.result d c.requires.within)
    (says_at g.F.Fn c.number_of.ensures refl)

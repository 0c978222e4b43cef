-- one unit more, and all
use Rattle.std.proofs.Common.{◌∷◌, ◌++◌, ◌∙◌, [], ap, ap₂, refl, sym, take}
use Rattle.std.proofs.lemmas.Fn.{says_at}
use Rattle.std.proofs.lemmas.List.{flat_map_more, take_all, take_more}
use Rattle.std.specs.List.{flat_map}
use Rattle.tor_sums.proofs.joined.items_of_each.Goals as goal

pub units-preserved : goal.units-preserved
units-preserved g c = λ items gives.
    let i = c.units.unit-index in
    let units = c.args.units.now in
    let unit = c.unit-item.result in
    c.in_ok-extend_from_slice.ensures.items
    ∙ ap₂ (λ all own. all ++ own) (c.units.invariant items gives)
    (gives unit c.items_of.result (says_at g.F.Fn c.items_of.ensures refl))
    ∙ flat_map_more items [] (take i units) unit
    ∙ ap (flat_map items) (ap (λ x. take i units ++ x ∷ []) c.unit-item.is
    ∙ sym (take_more units i unit c.units-test.true))

pub returns : goal.returns
returns g c = λ items gives.
    c.units.invariant items gives
    ∙ ap (flat_map items) (take_all c.units.unit-index c.args.units.now c.units-test.false)

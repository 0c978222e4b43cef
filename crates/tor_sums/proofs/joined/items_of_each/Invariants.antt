-- the items of the units so far
use Rattle.std.proofs.Common.{◌≡◌, List, take}
use Rattle.std.specs.Fn.{FnReturnsAt}
use Rattle.std.specs.List.{flat_map}
use Rattle.tor_sums.proofs.joined.items_of_each.Given as goal

abbrev pub invariant-units : goal.invariant-units
invariant-units g l =
    (items : g.row.T.Denot → List g.row.U.Denot) →
    ((one : g.row.T.Denot) (own : _) → FnReturnsAt g.F.Fn l.items_of one own → own.now ≡ items one) →
    l.all.items ≡ flat_map items (take l.unit-index l.units)

-- the empty slots so far, and those that are left
use Rattle.std.proofs.Common.{◌≡◌, ◌++◌, drop}
use Rattle.tor_meta.specs.steps.Join.{empty_from}
use Rattle.tor_meta.proofs.plans.lot_rows.empty_slots.Given as goal

abbrev pub invariant-slots : goal.invariant-slots
invariant-slots l = l.numbers.items ++ empty_from l.number (drop l.number l.slots) ≡ empty_from 0 l.slots

-- the slots so far
use Rattle.std.proofs.Common.{◌≡◌, None, replicate}
use Rattle.tor_meta.proofs.plans.lot_rows.no_rows.Given as goal

abbrev pub invariant-slots : goal.invariant-slots
invariant-slots l = l.slots.items ≡ replicate l.counter None

-- the rows so far
use Rattle.std.proofs.Common.{◌≡◌}
use Rattle.std.specs.List.{flat_map}
use Rattle.tor_meta.specs.steps.Join.{rows_in}
use Rattle.tor_meta.proofs.plans.lot_rows.all_rows.Given as goal

abbrev pub invariant-slots : goal.invariant-slots
invariant-slots l = l.rows.items ≡ flat_map rows_in l.yielded

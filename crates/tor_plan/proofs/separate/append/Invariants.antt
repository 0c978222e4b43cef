use Rattle.tor_plan.proofs.Names.{◌≡◌, ◌++◌}
use Rattle.tor_plan.proofs.separate.append.Given as goal

abbrev pub invariant-units : goal.invariant-units
invariant-units l = l.units.items ≡ l.fn.units.items ++ l.yielded

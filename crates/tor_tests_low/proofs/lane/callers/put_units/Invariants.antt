use Rattle.tor_lane.specs.Lane.{IsOpen}
use Rattle.tor_tests_low.proofs.lane.callers.put_units.Given as goal

abbrev pub invariant-units : goal.invariant-units
invariant-units g l = IsOpen l.feeder

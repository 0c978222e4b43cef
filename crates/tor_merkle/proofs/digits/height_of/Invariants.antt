-- every lower power is too small
use Rattle.tor_merkle.proofs.Names.{◌-◌, ◌≤◌, height}
use Rattle.tor_merkle.proofs.digits.height_of.Given as goal

abbrev pub invariant-higher : goal.invariant-higher
invariant-higher l = l.k ≤ height l.count

abbrev pub decreases-higher : goal.decreases-higher
decreases-higher l = height l.count - l.k

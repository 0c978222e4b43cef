-- the bits so far
use Rattle.tor_recheck.proofs.Names.{◌≡◌, ◌-◌, drop, take}
use Rattle.tor_recheck.proofs.rechecking_lot.bits_between.Given as goal

abbrev pub invariant-pieces : goal.invariant-pieces
invariant-pieces l = l.own ≡ take (l.index - l.from) (drop l.from l.bits)

use Rattle.tor_view.proofs.Names.{◌≡◌, take, set_count}
use Rattle.tor_view.proofs.bits.Bits.count_set.Given as goal

abbrev pub invariant-pieces : goal.invariant-pieces
invariant-pieces l = l.set ≡ set_count (take l.index l.self)

-- no byte, and no leaf
use Rattle.tor_merkle.proofs.Leaves.{keeps_nothing}
use Rattle.tor_merkle.proofs.blocks.BlockHasher.new.Goals as goal

pub invariant_of-result : goal.invariant_of-result
invariant_of-result c = rw (c.new-2.ensures.leaves, c.new-3.ensures) (keeps_nothing c.new.result c.new.ensures)

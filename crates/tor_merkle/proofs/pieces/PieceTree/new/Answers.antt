-- no leaf, and no piece
use Rattle.tor_merkle.proofs.Keeps.{keeps_none}
use Rattle.tor_merkle.proofs.pieces.PieceTree.new.Goals as goal

pub invariant_of-result : goal.invariant_of-result
invariant_of-result c =
    rw c.new-4.ensures
    (keeps_none c.args.height c.new.result c.new-2.result c.new-3.result.items c.requires
    c.new.ensures.level c.new.ensures.empty c.new-2.ensures.level c.new-2.ensures.empty c.new-3.ensures.items)

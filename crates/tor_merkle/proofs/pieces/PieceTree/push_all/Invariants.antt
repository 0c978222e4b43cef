-- the leaves of the slice that came so far were added
use Rattle.tor_merkle.proofs.Names.{◌≡◌, ◌≤◌, ◌++◌, take}
use Rattle.tor_merkle.proofs.pieces.PieceTree.push_all.Given as goal

abbrev pub invariant-leaves : goal.invariant-leaves
invariant-leaves l = record {
  height : l.self.height ≡ l.initial.self.height;
  all : l.self.leaves ≡ l.initial.self.leaves ++ take l.leaf-index l.leaves;
  capacity : l.initial.self.capacity ≤ l.self.capacity;
}

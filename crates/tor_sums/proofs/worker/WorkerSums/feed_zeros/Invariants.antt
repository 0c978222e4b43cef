-- the zeros that are not left were taken, and the tree wants nothing of what waits
use Rattle.std.proofs.Common.{◌≡◌, ◌≤◌, ◌-◌, ◌++◌, ℕ, List}
use Rattle.tor_tree.specs.declared.kinds.Kind.{Kind}
use Rattle.tor_v1.specs.Piece.{zeros}
use Rattle.tor_sums.specs.Hasher.{tree_of}
use Rattle.tor_sums.specs.steps.Worker.{HasTaken}
use Rattle.tor_sums.proofs.worker.WorkerSums.feed_zeros.Given as goal

abbrev pub invariant-zeros : goal.invariant-zeros
invariant-zeros l = record {
  within : l.left ≤ l.count;
  treed : l.self.treed ≡ l.self.room.held;
  begun : l.self.begun ≡ l.initial.self.begun;
  tree : tree_of l.self.hasher ≡ tree_of l.initial.self.hasher;
  taken : (kind : Kind) (p : ℕ) (bytes unit : List ℕ) → HasTaken kind p bytes unit l.initial.self
      → HasTaken kind p bytes (unit ++ zeros (l.count - l.left)) l.self;
}

abbrev pub decreases-zeros : goal.decreases-zeros
decreases-zeros l = l.left

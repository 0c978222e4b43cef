-- the bytes that are not left were taken, and the tree wants nothing of what waits
use Rattle.std.proofs.Common.{◌≡◌, ◌++◌, ℕ, List, length}
use Rattle.tor_tree.specs.declared.kinds.Kind.{Kind}
use Rattle.tor_sums.specs.steps.Worker.{HasTaken}
use Rattle.tor_sums.proofs.worker.WorkerSums.feed_pieces.Given as goal

abbrev pub invariant-parts : goal.invariant-parts
invariant-parts l = record {
  treed : l.self.treed ≡ l.self.room.held;
  taken : (more : List ℕ) × (more ++ l.left ≡ l.initial.left)
      × ((kind : Kind) (p : ℕ) (before unit : List ℕ) → HasTaken kind p before unit l.initial.self
      → HasTaken kind p before (unit ++ more) l.self);
}

abbrev pub decreases-parts : goal.decreases-parts
decreases-parts l = length l.left

-- the nodes so far lead to the same roots, and differ where the hashes do
use Rattle.tor_merkle.proofs.Names.{◌≢◌, length}
use Rattle.tor_merkle.proofs.Collisions.{IsWalk}
use Rattle.tor_merkle.proofs.collision.collide.Given as goal

abbrev pub invariant-levels : goal.invariant-levels
invariant-levels l = record {
  walk : IsWalk l.index l.hash l.proof.siblings.items (length l.yielded) l.node_index l.node;
  other_walk : IsWalk l.index l.other l.other_proof.siblings.items (length l.yielded) l.node_index l.other_node;
  apart : l.hash ≢ l.other → l.node ≢ l.other_node;
}

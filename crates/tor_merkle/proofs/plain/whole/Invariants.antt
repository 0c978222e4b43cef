-- the hashes are the nodes of the level, and the layer is there once the level of a piece is passed
use Rattle.tor_merkle.proofs.Names.{◌≡◌, ℕ, ◌-◌, ◌*◌, ◌^◌, ◌<◌, ◌≤◌, [], length, leaves, height, nodes}
use Rattle.tor_merkle.proofs.plain.whole.Given as goal

abbrev pub invariant-levels : goal.invariant-levels
invariant-levels l = record {
  hashes : l.hashes.items ≡ nodes 0 (leaves l.content) l.level;
  within : l.level ≤ height (length (leaves l.content));
  width : l.width ≡ 16384 * 2 ^ l.level;
  passed : (k : ℕ) → l.piece_length ≡ 16384 * 2 ^ k → k < l.level → l.layer.items ≡ nodes 0 (leaves l.content) k;
  ahead : (k : ℕ) → l.piece_length ≡ 16384 * 2 ^ k → l.level ≤ k → l.layer.items ≡ [];
}

abbrev pub decreases-levels : goal.decreases-levels
decreases-levels l = height (length (leaves l.content)) - l.level

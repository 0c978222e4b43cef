-- Hashes pushed one after another, and the root of the tree over them (BEP 52, "pieces root").
use Rattle.std.specs.Prelude.{ℕ, List, length}
use Rattle.tor_merkle.specs.Subtree.{zero_subtree, subtree_root, height, padded}

-- roots of subtrees of 2 ^ level leaves each, from the left
pub record Subtrees : Type 0 where
  pub level : ℕ
  pub hashes : List (List ℕ)

-- the root of 2 ^ k such roots: the hashes, followed by zero subtrees
abbrev pub padded_subtree : ℕ → ℕ → List (List ℕ) → List ℕ
padded_subtree k level hashes = subtree_root k (padded k (zero_subtree level) hashes)

-- the root of hashes of one level, followed by zero subtrees up to a power of two (BEP 52, "pieces root")
unfoldable pub padded_root : ℕ → List (List ℕ) → List ℕ
padded_root level hashes = padded_subtree (height (length hashes)) level hashes

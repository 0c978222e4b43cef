-- The nodes of a tree, each named by its level and its index in the level. Only private clauses cite this.
use Rattle.std.specs.Prelude.{ℕ, zero, suc, ◌+◌, ◌*◌, ◌^◌, List, length, map, slice_index_or}
use Rattle.std.specs.Int.{div_ceil}
use Rattle.std.specs.List.{range_with_len}
use Rattle.tor_merkle.specs.Subtree.{node_of, zero_subtree}

-- node i of level k over the hashes, past whose end stand zero subtrees of level base
unfoldable pub node : ℕ → List (List ℕ) → ℕ → ℕ → List ℕ
node base hashes zero i = slice_index_or hashes i (zero_subtree base)
node base hashes (suc k) i = node_of (node base hashes k (2 * i)) (node base hashes k (2 * i + 1))

-- the first n nodes of level k
unfoldable pub first_nodes : ℕ → List (List ℕ) → ℕ → ℕ → List (List ℕ)
first_nodes base hashes k n = map (node base hashes k) (range_with_len 0 n)

-- the nodes of level k that are not wholly past the end
unfoldable pub nodes : ℕ → List (List ℕ) → ℕ → List (List ℕ)
nodes base hashes k = map (node base hashes k) (range_with_len 0 (div_ceil (length hashes) (2 ^ k)))

-- For the plain program alone: one level of a tree over the one below it.
use Rattle.std.specs.Prelude.{ℕ, ◌+◌, ◌*◌, List, length, map, slice_index_or}
use Rattle.std.specs.Int.{div_ceil}
use Rattle.std.specs.List.{range_with_len}
use Rattle.tor_merkle.specs.Subtree.{node_of}

-- the hashes of the level above: the node of each two, where the padding hash stands for a missing last one
unfoldable pub level_above : List ℕ → List (List ℕ) → List (List ℕ)
level_above padding hashes =
    map (λ i. node_of (slice_index_or hashes (2 * i) padding) (slice_index_or hashes (2 * i + 1) padding))
    (range_with_len 0 (div_ceil (length hashes) 2))

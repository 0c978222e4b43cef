-- Proofs that a hash stands at an index of a tree (BEP 52, "piece layers"): the hash's siblings on the way to the root.
use Rattle.std.specs.Prelude.{ℕ, ◌+◌, ◌-◌, ◌*◌, ◌/◌, ◌%◌, ◌^◌, ◌==◌, Bool, not, ◌&&◌, ◌||◌, nat_lt, nat_le}
use Rattle.std.specs.Prelude.{List, [], ◌∷◌, length, map, slice_index_or, if◌then◌else◌}
use Rattle.std.specs.Int.{div_ceil}
use Rattle.std.specs.List.{list_all, range_with_len}
use Rattle.std.specs.Str.{bytes_eq}
use Rattle.tor_merkle.specs.Block.{run_at}
use Rattle.tor_merkle.specs.Layer.{piece_level}
use Rattle.tor_merkle.specs.Stack.{padded_subtree}
use Rattle.tor_merkle.specs.Subtree.{node_of, zero_subtree, zero_leaf, height}
use Rattle.tor_merkle.specs.declared.TheConstants.{BLOCK_LENGTH}

-- the root that a hash at an index and its siblings, lowest first, name. At an even index the hash is the left one (BEP
-- 52, "piece layers")
unfoldable pub proof_root : List ℕ → ℕ → List (List ℕ) → List ℕ
proof_root hash index [] = hash
proof_root hash index (sibling ∷ siblings) =
    proof_root (if index % 2 == 0 then node_of hash sibling else node_of sibling hash) (index / 2) siblings

-- the index of the sibling at a level, counted in subtrees of that level
abbrev pub sibling_index : ℕ → ℕ → ℕ
sibling_index index level =
    let node = index / 2 ^ level in
    if node % 2 == 0 then node + 1 else node - 1

-- that sibling covers only indices from count on
abbrev pub is_past_end : ℕ → ℕ → ℕ → Bool
is_past_end count index level = nat_le count (sibling_index index level * 2 ^ level)

-- and is then the zero subtree of its level; the hashes themselves stand at level bottom of the whole tree
abbrev pub is_zero_past_end : ℕ → ℕ → ℕ → List (List ℕ) → ℕ → Bool
is_zero_past_end bottom count index siblings level =
    not (is_past_end count index level)
    || bytes_eq (slice_index_or siblings level zero_leaf) (zero_subtree (bottom + level))

-- hash, index and siblings are a proof for a root over so many hashes. The index is below the count, there are as many
-- siblings as the tree over so many hashes has levels, those past the end are zero subtrees, and hash and siblings name
-- the root (BEP 52, "piece layers"; profile)
abbrev pub is_proof : List ℕ → ℕ → ℕ → ℕ → List ℕ → List (List ℕ) → Bool
is_proof root count bottom index hash siblings =
    nat_lt index count
    && (length siblings == height count)
    && list_all (is_zero_past_end bottom count index siblings) (range_with_len 0 (length siblings))
    && bytes_eq (proof_root hash index siblings) root

-- the siblings of the hash at an index, lowest first. At each level it is the root of the run beside it (BEP 52, "piece
-- layers"; profile)
unfoldable pub siblings_of : ℕ → List (List ℕ) → ℕ → List (List ℕ)
siblings_of bottom hashes index =
    map (λ level. padded_subtree level bottom (run_at (2 ^ level) hashes (sibling_index index level)))
    (range_with_len 0 (height (length hashes)))

-- how many hashes the proofs of a file are over. It is one for each piece, or the root alone (profile)
abbrev pub proof_count : ℕ → ℕ → ℕ
proof_count size piece_length = if nat_lt piece_length size then div_ceil size piece_length else 1

-- the level of these hashes (profile)
abbrev pub proof_level : ℕ → ℕ → ℕ
proof_level size piece_length =
    if nat_lt piece_length size then piece_level piece_length else height (div_ceil size BLOCK_LENGTH)

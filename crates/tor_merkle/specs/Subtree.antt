-- Trees of SHA-256 hashes in which each node has two children (BEP 52, "pieces root"). A hash is a list of 32 bytes.
use Rattle.std.specs.Prelude.{ℕ, zero, suc, ◌^◌, ◌-◌, List, ◌++◌, length}
use Rattle.std.specs.Prelude.{take, drop, replicate, slice_index_or, nat_le, if◌then◌else◌}
use Rattle.sha2.specs.Sha256.{sha256}

-- an inner node: the hash of its children's 64 bytes
unfoldable pub node_of : List ℕ → List ℕ → List ℕ
node_of left right = sha256 (left ++ right)

-- 32 zero bytes, which stand for a block past the end
unfoldable pub zero_leaf : List ℕ
zero_leaf = replicate 32 0

-- the root of 2^k leaves past the end (BEP 52, "pieces root")
unfoldable pub zero_subtree : ℕ → List ℕ
zero_subtree zero = zero_leaf
zero_subtree (suc k) = node_of (zero_subtree k) (zero_subtree k)

-- the root of 2^k hashes by halving. It is the only one, or that of the roots of the two halves; 32 zero bytes stand
-- for each that is missing (BEP 52, "pieces root")
unfoldable pub subtree_root : ℕ → List (List ℕ) → List ℕ
subtree_root zero hashes = slice_index_or hashes 0 zero_leaf
subtree_root (suc k) hashes = node_of (subtree_root k (take (2 ^ k) hashes)) (subtree_root k (drop (2 ^ k) hashes))

-- the least k with n at most 2 ^ k
unfoldable pub height : ℕ → ℕ
height zero = 0
height (suc n) = if nat_le (suc n) (2 ^ height n) then height n else suc (height n)

-- the hashes, followed by the same padding hash up to 2 ^ k of them
abbrev pub padded : ℕ → List ℕ → List (List ℕ) → List (List ℕ)
padded k padding hashes = hashes ++ replicate (2 ^ k - length hashes) padding

-- The root and the piece layer of a content (BEP 52, "pieces root" and "piece layers").
use Rattle.std.specs.Prelude.{ℕ, ◌/◌, Bool, ◌&&◌, IsTrue, List, [], ◌∷◌, length, map, nat_le, Option, None, Some}
use Rattle.std.specs.Prelude.{if◌then◌else◌}
use Rattle.std.specs.Int.{div_ceil, is_power_of_two}
use Rattle.std.specs.List.{range_with_len}
use Rattle.tor_merkle.specs.Block.{run_at, leaves}
use Rattle.tor_merkle.specs.Subtree.{zero_leaf, subtree_root, height, padded}
use Rattle.tor_merkle.specs.declared.TheConstants.{BLOCK_LENGTH, MAX_PIECE_LENGTH, MIN_PIECE_LENGTH}

-- a power of two from 16,384 on, as "piece length" of BEP 52 has it; the upper end is this profile's
abbrev pub is_piece_length : ℕ → Bool
is_piece_length n = is_power_of_two n && (nat_le MIN_PIECE_LENGTH n && nat_le n MAX_PIECE_LENGTH)

-- a power of two from 16,384 to 2^30. The upper end is this profile's (BEP 52, "piece length"; profile)
abbrev pub IsPieceLength : ℕ → Type 0
IsPieceLength n = IsTrue (is_piece_length n)

-- the leaves of a content, followed by hashes of 32 zero bytes up to the next power of two
abbrev pub tree_leaves : List ℕ → List (List ℕ)
tree_leaves content = padded (height (length (leaves content))) zero_leaf (leaves content)

-- the root of the leaves, followed by hashes of 32 zero bytes up to a power of two. The content is not empty (BEP 52,
-- "pieces root")
unfoldable pub pieces_root : List ℕ → List ℕ
pieces_root content = subtree_root (height (length (leaves content))) (tree_leaves content)

-- the root of a content; an empty one has none (BEP 52, "pieces root")
abbrev pub root_of : List ℕ → Option (List ℕ)
root_of [] = None
root_of (byte ∷ bytes) = Some (pieces_root (byte ∷ bytes))

-- the level at which one hash covers one piece
abbrev pub piece_level : ℕ → ℕ
piece_level piece_length = height (piece_length / BLOCK_LENGTH)

-- the root of each piece, widened to a whole one. It is that of the run of leaves that covers the piece, also if the
-- content is shorter than one piece: 32 zero bytes stand for each leaf that a piece lacks (BEP 52, "piece layers")
unfoldable pub piece_roots : List ℕ → ℕ → List (List ℕ)
piece_roots content piece_length =
    map (λ i. subtree_root (piece_level piece_length) (run_at (piece_length / BLOCK_LENGTH) (tree_leaves content) i))
    (range_with_len 0 (div_ceil (length content) piece_length))

-- those of a content longer than one piece; another has none (BEP 52, "piece layers")
unfoldable pub piece_layer : List ℕ → ℕ → List (List ℕ)
piece_layer content piece_length = if nat_le (length content) piece_length then [] else piece_roots content piece_length

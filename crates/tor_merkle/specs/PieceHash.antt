-- The hash of one piece of a file that has a Merkle tree.
use Rattle.std.specs.Prelude.{ℕ, List, nat_le, if◌then◌else◌}
use Rattle.tor_merkle.specs.Block.{leaves}
use Rattle.tor_merkle.specs.Layer.{piece_level, pieces_root}
use Rattle.tor_merkle.specs.Stack.{padded_subtree}

-- the Merkle hash of a piece of a file of so many bytes: of a file longer than a piece the root over the leaves of its
-- blocks and zero leaves up to a whole piece, as in "piece layers" of BEP 52; of another the root of the file, its
-- "pieces root"
abbrev pub merkle_hash : ℕ → ℕ → List ℕ → List ℕ
merkle_hash piece_length size bytes =
    if nat_le size piece_length then pieces_root bytes
    else padded_subtree (piece_level piece_length) 0 (leaves bytes)

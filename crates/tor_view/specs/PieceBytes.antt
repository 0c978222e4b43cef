-- The bytes of a piece of a file that has a Merkle tree.
use Rattle.std.specs.Prelude.{◌≡◌, ◌<◌, ℕ, ◌-◌, ◌*◌, List, length, min}
use Rattle.tor_merkle.specs.PieceHash.{merkle_hash}

-- how many bytes the piece at an index has, of a file of so many bytes: the last may have fewer than the others
abbrev pub piece_size : ℕ → ℕ → ℕ → ℕ
piece_size size piece_length index = min piece_length (size - index * piece_length)

-- the bytes are as many as the piece has, and have this hash (BEP 52, "piece layers", "pieces root")
pub record IsPiece (size piece_length index : ℕ) (hash bytes : List ℕ) : Type 0 where
  pub some : 0 < length bytes
  pub all : length bytes ≡ piece_size size piece_length index
  pub hashed : merkle_hash piece_length size bytes ≡ hash

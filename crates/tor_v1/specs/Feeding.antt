-- A content that is fed in parts to the sums of its pieces.
use Rattle.std.specs.Prelude.{◌≡◌, ℕ, ◌+◌, ◌*◌, ◌/◌, ◌%◌, ◌≤◌, List, ◌++◌, length, take, drop, vec_len, vec_capacity}
use Rattle.std.specs.Int.{div_ceil}
use Rattle.sha1.specs.Sha1.{Holds}
use Rattle.tor_v1.specs.Piece.{piece_sums}
use Rattle.tor_v1.specs.declared.sums.PieceSums.{PieceSums}

-- how many of n bytes fill whole pieces
abbrev pub in_pieces : ℕ → ℕ → ℕ
in_pieces piece_length n = n / piece_length * piece_length

-- the sums were fed these bytes. They have the SHA-1 of each whole piece, and the hasher holds the bytes after them
-- (profile)
pub record HasFed (sums : PieceSums) (piece_length : ℕ) (bytes : List ℕ) : Type 0 where
  pub cut_every : sums.piece_length ≡ piece_length
  pub begun : sums.begun ≡ length bytes % piece_length
  pub whole : sums.sums.items ≡ piece_sums piece_length (take (in_pieces piece_length (length bytes)) bytes)
  pub rest : Holds sums.hasher (drop (in_pieces piece_length (length bytes)) bytes)

-- the part was fed after whatever the old sums were fed (profile)
abbrev pub Feeds : PieceSums → PieceSums → List ℕ → Type 0
Feeds old new part =
    (piece_length : ℕ) (bytes : List ℕ) → HasFed old piece_length bytes → HasFed new piece_length (bytes ++ part)

-- whatever the old sums were fed, the new ones were fed that
abbrev pub IsUnchanged : PieceSums → PieceSums → Type 0
IsUnchanged old new =
    (piece_length : ℕ) (bytes : List ℕ) → HasFed old piece_length bytes → HasFed new piece_length bytes

-- room for the hash of each piece that is begun when so many more bytes are fed
abbrev pub HasRoom : PieceSums → ℕ → Type 0
HasRoom sums more = vec_len sums.sums + 20 * div_ceil (sums.begun + more) sums.piece_length ≤ vec_capacity sums.sums

-- Contents cut into pieces, and the SHA-1 of each (BEP 3, "info dictionary": `piece length` and `pieces`).
use Rattle.std.specs.Prelude.{ℕ, ◌^◌, ◌≤◌, List, length, map, replicate}
use Rattle.std.specs.Fork.{slice_chunk}
use Rattle.std.specs.Int.{div_ceil}
use Rattle.std.specs.List.{flat_map, range_with_len}
use Rattle.sha1.specs.Sha1.{sha1}

-- the most bytes of a piece
abbrev pub max_piece_length : ℕ
max_piece_length = 2 ^ 30

-- a power of two or not
abbrev pub IsV1PieceLength : ℕ → Type 0
IsV1PieceLength n = (1 ≤ n) × (n ≤ max_piece_length)

-- so many zero bytes
unfoldable pub zeros : ℕ → List ℕ
zeros count = replicate count 0

-- a content cut every piece_length bytes, the last piece perhaps shorter
unfoldable pub pieces_of : ℕ → List ℕ → List (List ℕ)
pieces_of piece_length content =
    map (slice_chunk content piece_length) (range_with_len 0 (div_ceil (length content) piece_length))

-- the joined SHA-1 of each piece of a content, the last as long as it is (BEP 3, "info dictionary")
unfoldable pub piece_sums : ℕ → List ℕ → List ℕ
piece_sums piece_length content = flat_map sha1 (pieces_of piece_length content)

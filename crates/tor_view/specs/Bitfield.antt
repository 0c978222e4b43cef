-- One bit a piece, piece 0 first, and the bitfield that says the same (BEP 3, "peer messages").
use Rattle.std.specs.Prelude.{ℕ, ◌+◌, ◌*◌, Bool, false, List, length, map, slice_index_or, if◌then◌else◌}
use Rattle.std.specs.Int.{div_ceil}
use Rattle.std.specs.List.{count_by, range_with_len}

-- how many of the bits are set (profile)
abbrev pub set_count : List Bool → ℕ
set_count bits = count_by (λ bit. bit) bits

-- the bit of a piece as a number; a bit past the end is zero
abbrev pub bit_of : List Bool → ℕ → ℕ
bit_of bits piece = if slice_index_or bits piece false then 1 else 0

-- the byte of eight pieces from this one on, the first of them as its high bit
abbrev pub byte_from : List Bool → ℕ → ℕ
byte_from bits piece =
    128 * bit_of bits piece
    + 64 * bit_of bits (piece + 1)
    + 32 * bit_of bits (piece + 2)
    + 16 * bit_of bits (piece + 3)
    + 8 * bit_of bits (piece + 4)
    + 4 * bit_of bits (piece + 5)
    + 2 * bit_of bits (piece + 6)
    + bit_of bits (piece + 7)

-- one bit a piece, piece 0 the high bit of the first byte, spare bits zero. There are as many bytes as hold all bits,
-- and the spare bits are at the end (BEP 3, "peer messages")
abbrev pub bitfield : List Bool → List ℕ
bitfield bits = map (λ k. byte_from bits (8 * k)) (range_with_len 0 (div_ceil (length bits) 8))

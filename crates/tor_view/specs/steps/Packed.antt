-- For the model of `Bits` alone: how it keeps the bits.
use Rattle.std.specs.Prelude.{◌≡◌, ◌≢◌, ℕ, ◌+◌, ◌-◌, ◌/◌, ◌%◌, ◌<◌, ◌≤◌, Bool, false, eqb}
use Rattle.std.specs.Prelude.{List, length, map, slice_index}
use Rattle.std.specs.Int.{bit_at, div_ceil}
use Rattle.std.specs.List.{range_with_len}

-- the bit of a piece in bytes whose high bits come first; a bit past the bytes is not set
abbrev pub packed_bit : List ℕ → ℕ → Bool
packed_bit bytes piece = eqb (bit_at (slice_index bytes (piece / 8)) (7 - piece % 8)) 1

-- the bits of so many pieces
abbrev pub packed_bits : List ℕ → ℕ → List Bool
packed_bits bytes count = map (packed_bit bytes) (range_with_len 0 count)

-- each is less than 256
abbrev pub AreBytes : List ℕ → Type 0
AreBytes bytes = (k : ℕ) → slice_index bytes k < 256

-- no byte more than the bits need, and no spare bit is set
pub record KeepsBits (bytes : List ℕ) (count : ℕ) : Type 0 where
  pub sized : length bytes ≡ div_ceil count 8
  pub spare : (piece : ℕ) → count ≤ piece → packed_bit bytes piece ≡ false
  pub small : AreBytes bytes

-- one more bit: the others are as they were
pub record Grows (old new : List ℕ) (count : ℕ) (bit : Bool) : Type 0 where
  pub sized : length new ≡ div_ceil (count + 1) 8
  pub here : packed_bit new count ≡ bit
  pub others : (piece : ℕ) → piece ≢ count → packed_bit new piece ≡ packed_bit old piece
  pub small : AreBytes new

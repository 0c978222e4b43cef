-- The bytes kept are the bitfield of their bits.
use Rattle.tor_view.proofs.Names.{◌≡◌, ℕ, zero, suc, ◌+◌, ◌*◌, ◌-◌, ◌/◌, ◌%◌, ◌^◌, ◌<◌, List, Bool, eqb, cond}
use Rattle.tor_view.proofs.Names.{length, get_or, refl, ap, add-one, ◌∙◌, arith, div-div-eq-div-mul, pow-suc}
use Rattle.tor_view.proofs.Names.{fill_by_all, bit_at-lt, bit_at, div_ceil, bit_of, byte_from, bitfield, packed_bit}
use Rattle.tor_view.proofs.Names.{packed_bits, KeepsBits}
use Rattle.tor_view.proofs.ReadBack.{read_any, length-packed_bits}

-- a digit tested and read as a number again
digit_again : (b : ℕ) → b < 2 → cond (eqb b 1) 1 0 ≡ b
digit_again zero lt = refl
digit_again (suc zero) lt = refl
digit_again (suc (suc b)) lt = absurd (omega arith)

-- what is above a digit is twice what is above the next
halves : (n k : ℕ) → n / 2 ^ k ≡ 2 * (n / 2 ^ (k + 1)) + bit_at n k
halves n k =
    let above : n / 2 ^ k / 2 ≡ n / 2 ^ (k + 1) = rw (div-div-eq-div-mul n (2 ^ k) 2, add-one, pow-suc 2 k) refl in
    omega arith

-- a byte is the sum of its digits
digits_of : (n : ℕ) → n < 256
    → n ≡ 128 * bit_at n 7 + 64 * bit_at n 6 + 32 * bit_at n 5 + 16 * bit_at n 4 + 8 * bit_at n 3 + 4 * bit_at n 2
    + 2 * bit_at n 1 + bit_at n 0
digits_of n lt =
    omega (arith, halves n 0, halves n 1, halves n 2, halves n 3, halves n 4, halves n 5, halves n 6, halves n 7)

-- the bit of a piece that stands there
bit_there : (bytes : List ℕ) (count k j i : ℕ) → KeepsBits bytes count → i / 8 ≡ k → i % 8 ≡ j
    → bit_of (packed_bits bytes count) i ≡ bit_at (get_or bytes k 0) (7 - j)
bit_there bytes count k j i kept byte digit =
    let found : cond (packed_bit bytes i) 1 0 ≡ bit_at (get_or bytes k 0) (7 - j) =
    rw (byte, digit) (digit_again (bit_at (get_or bytes k 0) (7 - j)) (bit_at-lt (get_or bytes k 0) (7 - j))) in
    ap (λ (b : Bool). cond b 1 0) (read_any bytes count i kept) ∙ found

-- piece j of byte k
bit_of_piece : (bytes : List ℕ) (count k j i : ℕ) → KeepsBits bytes count → j < 8 → i ≡ 8 * k + j
    → bit_of (packed_bits bytes count) i ≡ bit_at (get_or bytes k 0) (7 - j)
bit_of_piece bytes count k j i kept lt is = bit_there bytes count k j i kept (omega arith) (omega arith)

-- the byte kept is that of its eight pieces
byte_of : (bytes : List ℕ) (count k : ℕ) → KeepsBits bytes count → get_or bytes k 0 < 256
    → get_or bytes k 0 ≡ byte_from (packed_bits bytes count) (8 * k)
byte_of bytes count k kept lt =
    let at = λ (j i : ℕ) (small : j < 8) (is : i ≡ 8 * k + j). bit_of_piece bytes count k j i kept small is in
    omega (
      arith,
      digits_of (get_or bytes k 0) lt,
      at 0 (8 * k) (omega arith) (omega arith),
      at 1 (8 * k + 1) (omega arith) refl,
      at 2 (8 * k + 2) (omega arith) refl,
      at 3 (8 * k + 3) (omega arith) refl,
      at 4 (8 * k + 4) (omega arith) refl,
      at 5 (8 * k + 5) (omega arith) refl,
      at 6 (8 * k + 6) (omega arith) refl,
      at 7 (8 * k + 7) (omega arith) refl,
    )

pub packed_is_bitfield : (bytes : List ℕ) (count : ℕ) → KeepsBits bytes count
    → bytes ≡ bitfield (packed_bits bytes count)
packed_is_bitfield bytes count kept =
    fill_by_all (λ k. byte_from (packed_bits bytes count) (8 * k)) bytes
    (div_ceil (length (packed_bits bytes count)) 8) 0
    (rw (length-packed_bits bytes count) kept.sized)
    (λ k lt. byte_of bytes count k kept (kept.small k))

-- One bit of packed bytes, where a bit is set in them.
use Rattle.tor_view.proofs.Names.{◌≡◌, ◌≢◌, ℕ, ◌*◌, ◌-◌, ◌/◌, ◌%◌, ◌^◌, ◌<◌, List, true, eqb, length, get_or, refl}
use Rattle.tor_view.proofs.Names.{ap, inl, inr, arith, bit_or, w8, set, cases_eq, get_or-set_same, get_or-set_other}
use Rattle.tor_view.proofs.Names.{or_of_8, bit_at_set_same, bit_at_set_other, bit_at, packed_bit, AreBytes}

-- the bytes with this bit set
abbrev pub with_bit : List ℕ → ℕ → List ℕ
with_bit bytes i = set bytes (i / 8) (bit_or (get_or bytes (i / 8) 0) (1 * 2 ^ (7 - i % 8) % 2 ^ 8))

pub packed_bit_same : (bytes : List ℕ) (i : ℕ) → i / 8 < length bytes → packed_bit (with_bit bytes i) i ≡ true
packed_bit_same bytes i lt =
    let byte = bit_or (get_or bytes (i / 8) 0) (1 * 2 ^ (7 - i % 8) % 2 ^ 8) in
    let read : get_or (with_bit bytes i) (i / 8) 0 ≡ byte = get_or-set_same bytes (i / 8) byte 0 lt in
    let one : bit_at byte (7 - i % 8) ≡ 1 = bit_at_set_same w8 (get_or bytes (i / 8) 0) (7 - i % 8) (omega arith) in
    rw read (rw one refl)

pub packed_bit_other : (bytes : List ℕ) (i j : ℕ) → i / 8 < length bytes → j ≢ i
    → packed_bit (with_bit bytes i) j ≡ packed_bit bytes j
packed_bit_other bytes i j lt other =
    ap (λ (b : ℕ). eqb b 1) (elim (cases_eq (j / 8) (i / 8)) [
      | inl same ↦
          let read : get_or (with_bit bytes i) (j / 8) 0 ≡ byte = rw same (get_or-set_same bytes (i / 8) byte 0 lt) in
          let apart : (7 - j % 8) ≢ (7 - i % 8) = λ e. other (omega arith) in
          rw read (rw same (bit_at_set_other w8 (get_or bytes (i / 8) 0) (7 - i % 8) (omega arith) (7 - j % 8) apart))
      | inr apart ↦ ap (λ (b : ℕ). bit_at b (7 - j % 8)) (get_or-set_other bytes (i / 8) (j / 8) byte 0 apart)
    ]) where
      byte : ℕ
      byte = bit_or (get_or bytes (i / 8) 0) (1 * 2 ^ (7 - i % 8) % 2 ^ 8)

pub small_with_bit : (bytes : List ℕ) (i : ℕ) → i / 8 < length bytes → AreBytes bytes → AreBytes (with_bit bytes i)
small_with_bit bytes i lt small = λ k. elim (cases_eq k (i / 8)) [
  | inl same ↦ rw same (rw (get_or-set_same bytes (i / 8) byte 0 lt) low)
  | inr apart ↦ rw (get_or-set_other bytes (i / 8) k byte 0 apart) (small k)
] where
  byte : ℕ
  byte = bit_or (get_or bytes (i / 8) 0) (1 * 2 ^ (7 - i % 8) % 2 ^ 8)

  low : byte < 2 ^ 8
  low =
      let one : 1 * 2 ^ (7 - i % 8) % 2 ^ 8 < 2 ^ 8 = omega arith in
      or_of_8 (get_or bytes (i / 8) 0) (1 * 2 ^ (7 - i % 8) % 2 ^ 8) (small (i / 8)) one

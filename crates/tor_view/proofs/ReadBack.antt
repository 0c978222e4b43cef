-- Reading the bits kept, one by one.
use Rattle.tor_view.proofs.Names.{◌≡◌, ℕ, ◌<◌, ◌≤◌, List, false, length, get_or, inl, inr, sym, ◌∙◌, arith, refl}
use Rattle.tor_view.proofs.Names.{cases_lt, get_or-map-range_with_len, length-map-range_with_len, get_or_past}
use Rattle.tor_view.proofs.Names.{slice_get-get_or, slice_get_past, slice_get, Some, None, packed_bit, packed_bits}
use Rattle.tor_view.proofs.Names.{KeepsBits}

pub length-packed_bits : (bytes : List ℕ) (count : ℕ) → length (packed_bits bytes count) ≡ count
length-packed_bits bytes count = length-map-range_with_len (packed_bit bytes) 0 count

pub get_or-packed_bits : (bytes : List ℕ) (count i : ℕ) → i < count
    → get_or (packed_bits bytes count) i false ≡ packed_bit bytes i
get_or-packed_bits bytes count i lt = get_or-map-range_with_len (packed_bit bytes) 0 count i i false lt (omega arith)

pub read_within : (bytes : List ℕ) (count i : ℕ) → i < count
    → slice_get (packed_bits bytes count) i ≡ Some (packed_bit bytes i)
read_within bytes count i lt =
    let within : i < length (packed_bits bytes count) = omega (arith, length-packed_bits bytes count) in
    rw (slice_get-get_or (packed_bits bytes count) i false within) (rw (get_or-packed_bits bytes count i lt) refl)

pub read_past : (bytes : List ℕ) (count i : ℕ) → count ≤ i → slice_get (packed_bits bytes count) i ≡ None
read_past bytes count i le = slice_get_past (packed_bits bytes count) i (omega (arith, length-packed_bits bytes count))

-- with zero past the end
pub read_any : (bytes : List ℕ) (count i : ℕ) → KeepsBits bytes count
    → get_or (packed_bits bytes count) i false ≡ packed_bit bytes i
read_any bytes count i kept = elim (cases_lt i count) [
  | inl lt ↦ get_or-packed_bits bytes count i lt
  | inr le ↦
      get_or_past (packed_bits bytes count) i false (omega (arith, length-packed_bits bytes count))
      ∙ sym (kept.spare i le)
]

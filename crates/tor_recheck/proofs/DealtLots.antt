-- The lots have each piece once, in order, and so their bitfields are that of all.
use Rattle.tor_recheck.proofs.Names.{◌≡◌, ℕ, zero, suc, ◌+◌, ◌-◌, ◌*◌, ◌/◌, ◌%◌, ◌<◌, ◌≤◌, Bool, cond, List, [], ◌∷◌}
use Rattle.tor_recheck.proofs.Names.{◌++◌, length, take, drop, arith, sym, ap, ap₂, ◌∙◌, min, append-nil, inl, inr}
use Rattle.tor_recheck.proofs.Names.{sum_by, cases_lt, div_ceil_times, length-take, take_all, sum_by-append, sum_by-cons}
use Rattle.tor_recheck.proofs.Names.{div-add-mod', mod-lt, div_ceil, flat_map, range_with_len, bitfield, set_count}
use Rattle.tor_view.proofs.Bitfields.{bitfields_joined}
use Rattle.tor_recheck.specs.Lots.{first_of_lot, in_lot, lot_byte}
use Rattle.std.proofs.Math.Nat.{mul-mod_left}
use Rattle.std.proofs.Math.Seq.{take-add}
use Rattle.std.proofs.lemmas.Grind.{flat_map-append}

-- ---- numbers

pub lots_rise : (n lots lot : ℕ) → first_of_lot n lots lot ≤ first_of_lot n lots (lot + 1)
lots_rise n lots lot =
    let q = div_ceil n 8 / lots in
    let turned : (lot + 1) * q ≡ lot * q + q = omega arith in
    omega (arith, turned)

range_push : (a n : ℕ) → range_with_len a (suc n) ≡ range_with_len a n ++ (a + n) ∷ []
range_push a zero = ap (λ x. x ∷ []) (let e : a ≡ a + 0 = omega arith in e)
range_push a (suc n) =
    ap (λ xs. a ∷ xs) (range_push (a + 1) n
    ∙ ap (λ x. range_with_len (a + 1) n ++ x ∷ []) (let e : a + 1 + n ≡ a + suc n = omega arith in e))

last_byte : (bytes lots : ℕ) → 0 < lots → lot_byte bytes lots lots ≡ bytes
last_byte bytes lots some =
    let all = div-add-mod' bytes lots in
    let less = mod-lt bytes some in
    let turned : lots * (bytes / lots) ≡ bytes / lots * lots = omega arith in
    omega (arith, all, less, turned)

-- the last lot ends at the last piece
last_lot : (n lots : ℕ) → 0 < lots → first_of_lot n lots lots ≡ n
last_lot n lots some =
    ap (λ b. min n (8 * b)) (last_byte (div_ceil n 8) lots some)
    ∙ (let bounds = div_ceil_times n 8 (omega arith) in by (div_ceil n 8) bounds.0) where
      by : (b : ℕ) → n ≤ b * 8 → min n (8 * b) ≡ n
      by b le = omega (arith, le)

module _ (bits : List Bool) (lots : ℕ) (some : 0 < lots) where
  abbrev n : ℕ
  n = length bits

  abbrev first : ℕ → ℕ
  first k = first_of_lot n lots k

  abbrev lot : ℕ → List Bool
  lot k = in_lot lots k bits

  none_first : first 0 ≡ 0
  none_first =
      let none : 0 * (div_ceil n 8 / lots) ≡ 0 = omega arith in
      omega (arith, none)

  -- one lot more
  one_more : (k : ℕ) → take (first (k + 1)) bits ≡ take (first k) bits ++ lot k
  one_more k =
      ap (λ m. take m bits) (let rise = lots_rise n lots k in
      let e : first (k + 1) ≡ first k + (first (k + 1) - first k) = omega (arith, rise) in e)
      ∙ take-add (first k) (first (k + 1) - first k) bits

  all_bits : take (first lots) bits ≡ bits
  all_bits = ap (λ m. take m bits) (last_lot n lots some) ∙ take_all n bits (omega arith)

  bits_before : (k : ℕ) → flat_map lot (range_with_len 0 k) ≡ take (first k) bits
  bits_before zero = sym (ap (λ m. take m bits) none_first)
  bits_before (suc k) =
      ap (flat_map lot) (range_push 0 k ∙ ap (λ x. range_with_len 0 k ++ x ∷ []) (let e : 0 + k ≡ k = omega arith in e))
      ∙ flat_map-append lot (range_with_len 0 k) (k ∷ [])
      ∙ ap₂ (λ (xs ys : List Bool). xs ++ ys) (bits_before k) (append-nil (lot k))
      ∙ sym (one_more k)
      ∙ ap (λ m. take (first m) bits) (let e : k + 1 ≡ suc k = omega arith in e)

  pub bits_dealt : flat_map lot (range_with_len 0 lots) ≡ bits
  bits_dealt = bits_before lots ∙ all_bits

  -- the bytes of the bits up to a lot, and its own
  one_field_more : (k : ℕ) → bitfield (take (first k) bits ++ lot k) ≡ bitfield (take (first k) bits) ++ bitfield (lot k)
  one_field_more k = elim (cases_lt (8 * lot_byte (div_ceil n 8) lots k) n) [
    | inl less ↦
        bitfields_joined (take (first k) bits) (lot k)
        (ap (λ m. m % 8) (length-take (first k) bits ∙ even (lot_byte (div_ceil n 8) lots k) less)
        ∙ mul-mod_left (lot_byte (div_ceil n 8) lots k) 8)
    | inr past ↦
        let rise = lots_rise n lots k in
        let ended : first (k + 1) - first k ≡ 0 = omega (arith, rise, past) in
        let empty : lot k ≡ [] = ap (λ m. take m (drop (first k) bits)) ended in
        ap (λ own. bitfield (take (first k) bits ++ own)) empty
        ∙ ap bitfield (append-nil (take (first k) bits))
        ∙ sym (append-nil (bitfield (take (first k) bits)))
        ∙ ap (λ own. bitfield (take (first k) bits) ++ bitfield own) (sym empty)
  ] where
    even : (byte : ℕ) → 8 * byte < n → min (min n (8 * byte)) n ≡ byte * 8
    even byte lt = omega (arith, lt)

  bytes_before : (k : ℕ) → flat_map (λ k. bitfield (lot k)) (range_with_len 0 k) ≡ bitfield (take (first k) bits)
  bytes_before zero = sym (ap (λ m. bitfield (take m bits)) none_first)
  bytes_before (suc k) =
      ap (flat_map (λ k. bitfield (lot k)))
      (range_push 0 k ∙ ap (λ x. range_with_len 0 k ++ x ∷ []) (let e : 0 + k ≡ k = omega arith in e))
      ∙ flat_map-append (λ k. bitfield (lot k)) (range_with_len 0 k) (k ∷ [])
      ∙ ap₂ (λ (xs ys : List ℕ). xs ++ ys) (bytes_before k) (append-nil (bitfield (lot k)))
      ∙ sym (one_field_more k)
      ∙ ap bitfield (sym (one_more k))
      ∙ ap (λ m. bitfield (take (first m) bits)) (let e : k + 1 ≡ suc k = omega arith in e)

  pub bytes_dealt : flat_map (λ k. bitfield (lot k)) (range_with_len 0 lots) ≡ bitfield bits
  bytes_dealt = bytes_before lots ∙ ap bitfield all_bits

  counts_before : (k : ℕ) → sum_by (λ k. set_count (lot k)) (range_with_len 0 k) ≡ set_count (take (first k) bits)
  counts_before zero = sym (ap (λ m. set_count (take m bits)) none_first)
  counts_before (suc k) =
      ap (sum_by (λ k. set_count (lot k)))
      (range_push 0 k ∙ ap (λ x. range_with_len 0 k ++ x ∷ []) (let e : 0 + k ≡ k = omega arith in e))
      ∙ sum_by-append (λ k. set_count (lot k)) (range_with_len 0 k) (k ∷ [])
      ∙ ap₂ (λ a b. a + b) (counts_before k) (sum_by-cons (λ k. set_count (lot k)) k []
      ∙ (let e : set_count (lot k) + 0 ≡ set_count (lot k) = omega arith in e))
      ∙ sym (sum_by-append (λ bit. cond bit 1 0) (take (first k) bits) (lot k))
      ∙ ap (λ (own : List Bool). set_count own) (sym (one_more k))
      ∙ ap (λ m. set_count (take (first m) bits)) (let e : k + 1 ≡ suc k = omega arith in e)

  pub counts_dealt : sum_by (λ k. set_count (lot k)) (range_with_len 0 lots) ≡ set_count bits
  counts_dealt = counts_before lots ∙ ap (λ (own : List Bool). set_count own) all_bits

-- Piece k of a file, from its first on, has the bytes from one multiple of the piece length to the next, less those
-- that stand before the file.
use Rattle.tor_view.proofs.Names.{◌≡◌, ℕ, ◌+◌, ◌-◌, ◌*◌, ◌/◌, ◌<◌, ◌≤◌, ◌⊎◌, Bool, true, false, not, ◌&&◌, List, []}
use Rattle.tor_view.proofs.Names.{get_or, min, arith, refl, sym, ap, ◌∙◌, subst, inl, inr, mul-le-mul_right}
use Rattle.tor_view.proofs.Names.{cases_lt, le-ltb, lt-ltb, div_ceil_times, div-mul-add, div_ceil, below_from_ceil}
use Rattle.tor_view.proofs.Names.{AreRangesOf, IsSpanOf, is_bad_byte, piece_of_byte, ByteRange, FileSpan}
use Rattle.tor_view.proofs.Names.{PiecedFile, with_range}
use Rattle.tor_view.proofs.BadRanges.{AreUpTo, closed_more, none_yet, open_more, whole}

-- a file among its pieces
abbrev pub pieced : ℕ → FileSpan → PiecedFile
pieced p span = record { piece_length = p; span = span }

-- where the bytes of piece k of a file end, or begin those of the next
abbrev pub bound_of : ℕ → FileSpan → ℕ → ℕ
bound_of p span m = min span.length (m - span.lead)

-- numbers alone
from_is : (n lead m : ℕ) → m < lead + n → 0 < n → min n (m - lead) < n
from_is n lead m lt some = omega (arith, lt, some)

to_is : (n lead m p from room low to : ℕ) → lead < p → m < lead + n → 0 < n → (m ≡ 0) ⊎ (p ≤ m)
    → from ≡ min n (m - lead) → room ≡ m + p - lead - (m - lead) → low ≡ min room (n - from) → to ≡ from + low
    → (to ≡ min n (m + p - lead)) × (from < to)
to_is n lead m p from room low to small lt some (inl none) is_from is_room is_low is_to =
    first lead p n from room low to small some (omega (arith, none, is_from)) (omega (arith, none, is_room)) is_low is_to
    (omega (arith, none))
  where
    first : (lead p n from room low to : ℕ) → lead < p → 0 < n → from ≡ 0 → room ≡ p - lead → low ≡ min room (n - from)
        → to ≡ from + low → m + p ≡ p → (to ≡ min n (m + p - lead)) × (from < to)
    first lead p n from room low to small some is_from is_room is_low is_to none =
        (omega (arith, small, some, is_from, is_room, is_low, is_to, none), omega (arith, small, some, is_from, is_room, is_low, is_to))
to_is n lead m p from room low to small lt some (inr le) is_from is_room is_low is_to =
    later (m - lead) (omega (arith, is_from, lt)) (omega (arith, is_room, small, le)) is_low is_to (omega (arith, small, le))
    (omega (arith, lt, le, small))
  where
    later : (at : ℕ) → from ≡ at → room ≡ p → low ≡ min room (n - from) → to ≡ from + low → m + p - lead ≡ at + p
        → at < n → (to ≡ min n (m + p - lead)) × (from < to)
    later at is_from is_room is_low is_to all within =
        (omega (arith, is_from, is_room, is_low, is_to, all, within), omega (arith, small, is_from, is_room, is_low, is_to, within))

module _ (p : ℕ) (span : FileSpan) (bits : List Bool) (fits : IsSpanOf p span) (k : ℕ)
    (within : k < span.after - span.first) where
  filled : 0 < span.length
  filled = elim (cases_lt 0 span.length) [
    | inl some ↦ some
    | inr none ↦
        let same = fits.empty (omega (arith, none)) in
        absurd (omega (arith, within, same))
  ]

  begins : k * p < span.lead + span.length
  begins = below_from_ceil (span.lead + span.length) p k fits.some
      (let after = fits.filled filled in omega (arith, within, after))

  turned : (k + 1) * p ≡ k * p + p
  turned = omega arith

  rest_of : (m b lead : ℕ) → min span.length (m - lead) ≤ b → m < lead + span.length
      → b < min span.length (m + p - lead) → (lead + b ≡ m + (lead + b - m)) × (lead + b - m < p)
  rest_of m b lead low begun high = (omega (arith, low, begun, high), omega (arith, low, begun, high))

  -- its bytes are in it
  pub in_piece : (b : ℕ) → bound_of p span (k * p) ≤ b → b < bound_of p span (k * p + p)
      → piece_of_byte (pieced p span) b ≡ span.first + k
  in_piece b low high =
      let rest = rest_of (k * p) b span.lead low begins high in
      ap (λ n. span.first + n) (ap (λ n. n / p) rest.0 ∙ div-mul-add k p (span.lead + b - k * p) rest.1)

  pub bad_is : (b : ℕ) (bit : Bool) → get_or bits (span.first + k) false ≡ bit → bound_of p span (k * p) ≤ b
      → b < bound_of p span (k * p + p) → is_bad_byte (pieced p span) bits b ≡ not bit
  bad_is b bit is low high =
      let less : b < span.length = omega (arith, high) in
      ap (λ t. t && not (get_or bits (piece_of_byte (pieced p span) b) false)) (lt-ltb b span.length less)
      ∙ ap (λ n. not (get_or bits n false)) (in_piece b low high)
      ∙ ap not is

  -- where it ends, as the code has it
  pub ends : (from room low to : ℕ) → from ≡ bound_of p span (k * p) → room ≡ k * p + p - span.lead - (k * p - span.lead)
      → low ≡ min room (span.length - from) → to ≡ from + low → (to ≡ bound_of p span (k * p + p)) × (from < to)
  ends from room low to is_from is_room is_low is_to =
      to_is span.length span.lead (k * p) p from room low to fits.lead begins filled (apart k) is_from is_room is_low is_to
    where
      apart : (i : ℕ) → (i * p ≡ 0) ⊎ (p ≤ i * p)
      apart i = elim (cases_lt 0 i) [
        | inl more ↦
            let one : 1 * p ≤ i * p = mul-le-mul_right p more in
            inr (omega (arith, one))
        | inr none ↦
            let over : i * p ≤ 0 * p = mul-le-mul_right p none in
            inl (omega (arith, over))
      ]

-- what the loop keeps
pub record AreUpToPiece (p : ℕ) (span : FileSpan) (bits : List Bool) (k begun from room : ℕ) (ranges : List ByteRange)
    : Type 0 where
  pub from_is : from ≡ bound_of p span (k * p)
  pub room_is : room ≡ k * p + p - span.lead - (k * p - span.lead)
  pub found : AreUpTo (is_bad_byte (pieced p span) bits) begun from ranges

module _ (p : ℕ) (span : FileSpan) (bits : List Bool) (fits : IsSpanOf p span) (k : ℕ)
    (within : k < span.after - span.first) (begun from room low : ℕ) (ranges : List ByteRange)
    (before : AreUpToPiece p span bits k begun from room ranges) (is_low : low ≡ min room (span.length - from)) where
  abbrev test : ℕ → Bool
  test = is_bad_byte (pieced p span) bits

  end : (from + low ≡ bound_of p span (k * p + p)) × (from < from + low)
  end = ends p span bits fits k within from room low (from + low) before.from_is before.room_is is_low refl

  turned_once : (k + 1) * p ≡ k * p + p
  turned_once = omega arith

  each : (bit : Bool) → get_or bits (span.first + k) false ≡ bit → (b : ℕ) → from ≤ b → b < from + low → test b ≡ not bit
  each bit is b low_b high =
      bad_is p span bits fits k within b bit is (subst (λ n. n ≤ b) before.from_is low_b)
      (subst (λ n. b < n) end.0 high)

  next_from : from + low ≡ bound_of p span ((k + 1) * p)
  next_from = end.0 ∙ ap (bound_of p span) (sym turned_once)

  next_room : p ≡ (k + 1) * p + p - span.lead - ((k + 1) * p - span.lead)
  next_room = let lead = fits.lead in by (k * p) ((k + 1) * p) turned_once lead where
    by : (m n : ℕ) → n ≡ m + p → span.lead < p → p ≡ n + p - span.lead - (n - span.lead)
    by m n is lead = omega (arith, is, lead)

  pub after_bad : get_or bits (span.first + k) false ≡ false
      → AreUpToPiece p span bits (k + 1) begun (from + low) p ranges
  after_bad is = record {
    from_is = next_from;
    room_is = next_room;
    found = open_more test begun from (from + low) ranges before.found end.1 (each false is);
  }

  pub after_good : get_or bits (span.first + k) false ≡ true
      → AreUpToPiece p span bits (k + 1) (from + low) (from + low) p (with_range ranges begun from)
  after_good is = record {
    from_is = next_from;
    room_is = next_room;
    found = closed_more test begun from ranges before.found (from + low) end.1 (each true is);
  }

-- at the end no byte is left
pub all_found : (p : ℕ) (span : FileSpan) (bits : List Bool) → IsSpanOf p span → (k begun from room : ℕ)
    → (ranges : List ByteRange) → k ≡ span.after - span.first → AreUpToPiece p span bits k begun from room ranges
    → AreRangesOf (is_bad_byte (pieced p span) bits) (with_range ranges begun from)
all_found p span bits fits k begun from room ranges is before =
    whole (is_bad_byte (pieced p span) bits) begun from ranges before.found (λ b past.
    ap (λ t. t && not (get_or bits (piece_of_byte (pieced p span) b) false)) (le-ltb b span.length (trans b past))) where
      all_bytes : span.length ≤ from
      all_bytes = elim (cases_lt 0 span.length) [
        | inl some ↦
            let after = fits.filled some in
            let bounds = div_ceil_times (span.lead + span.length) p fits.some in
            let same : k ≡ div_ceil (span.lead + span.length) p = omega (arith, is, after) in
            by (k * p) (before.from_is)
            (subst (λ n. span.lead + span.length ≤ n * p) (sym same) bounds.0)
        | inr none ↦ omega (arith, none)
      ] where
        by : (m : ℕ) → from ≡ min span.length (m - span.lead) → span.lead + span.length ≤ m → span.length ≤ from
        by m is_from le = omega (arith, is_from, le)

      trans : (b : ℕ) → from ≤ b → span.length ≤ b
      trans b past = omega (arith, all_bytes, past)

pub along : (p : ℕ) (span : FileSpan) (bits : List Bool) (k next begun open_at from room : ℕ)
    → (ranges more : List ByteRange) → next ≡ k → open_at ≡ begun → more ≡ ranges
    → AreUpToPiece p span bits k begun from room ranges → AreUpToPiece p span bits next open_at from room more
along p span bits k next begun open_at from room ranges more is_next is_open is_more told =
    subst (λ n. AreUpToPiece p span bits n open_at from room more) (sym is_next)
    (subst (λ n. AreUpToPiece p span bits k n from room more) (sym is_open)
    (subst (λ rs. AreUpToPiece p span bits k begun from room rs) (sym is_more) told))

pub at_first : (p : ℕ) (span : FileSpan) (bits : List Bool) → IsSpanOf p span → AreUpToPiece p span bits 0 0 0 (p - span.lead) []
at_first p span bits fits = record {
  from_is = let none : 0 * p ≡ 0 = omega arith in omega (arith, none);
  room_is = let none : 0 * p ≡ 0 = omega arith in omega (arith, none);
  found = none_yet (is_bad_byte (pieced p span) bits);
}

-- where the loop over the pieces ends
pub all_pieces : (p : ℕ) (span : FileSpan) → IsSpanOf p span → (piece : ℕ) → span.first ≤ piece → span.after ≤ piece
    → (span.first ≤ span.after → piece ≤ span.after) → piece - span.first ≡ span.after - span.first
all_pieces p span fits piece low past high = elim (cases_lt 0 span.length) [
  | inl some ↦
      let is = fits.filled some in
      let begun : span.first ≤ span.after = omega (arith, is) in
      let ends = high begun in
      omega (arith, ends, past)
  | inr none ↦
      let is = fits.empty (omega (arith, none)) in
      let begun : span.first ≤ span.after = omega (arith, is) in
      let ends = high begun in
      omega (arith, ends, past)
]

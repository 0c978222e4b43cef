-- The piece of a byte of a file, and the units of joined entries that have it.
use Rattle.tor_view.proofs.Names.{◌≡◌, ◌↔◌, ℕ, zero, suc, ◌+◌, ◌-◌, ◌*◌, ◌/◌, ◌%◌, ◌<◌, ◌≤◌, ◌==◌, Bool, true, false}
use Rattle.tor_view.proofs.Names.{◌&&◌, ◌||◌, cond, List, [], ◌∷◌, get_or, max, nat_lt, leb, arith}
use Rattle.tor_view.proofs.Names.{refl, ap, sym, ◌∙◌, eq-eqb, eqb-true}
use Rattle.tor_view.proofs.Names.{ne_eqb, and_from, and_parts, le-leb, leb-true}
use Rattle.tor_view.proofs.Names.{lt-ltb, ltb-true, div-mul-add, div-add-mod', mod-lt}
use Rattle.tor_view.proofs.Names.{add-mul-div_right, after_part}
use Rattle.tor_view.proofs.Names.{shared, unit_within, PlanUnit}
use Rattle.tor_view.proofs.Names.{joined_span, joined_spans, no_span}
use Rattle.tor_view.proofs.Names.{FileSpan, Entry}
use Rattle.tor_view.proofs.Names.{entry_cases, piece_of_byte}
use Rattle.tor_view.specs.FileBytes.{has_byte_of}
use Rattle.tor_view.proofs.RangeSteps.{pieced}
use Rattle.tor_view.proofs.SpanBytes.{same_tests}

-- byte b is one of the file, and piece k has it
abbrev pub is_byte_in : ℕ → FileSpan → ℕ → ℕ → Bool
is_byte_in p span k b = nat_lt b span.length && (piece_of_byte (pieced p span) b == k)

pub is_byte_in_is : (p : ℕ) (span : FileSpan) (k b : ℕ)
    → (is_byte_in p span k b ≡ true) ↔ ((b < span.length) × (piece_of_byte (pieced p span) b ≡ k))
is_byte_in_is p span k b = (
  λ is.
      let both = and_parts (nat_lt b span.length) (piece_of_byte (pieced p span) b == k) is in
      (ltb-true b span.length both.0, eqb-true (piece_of_byte (pieced p span) b) k both.1),
  λ both. and_from (nat_lt b span.length) (piece_of_byte (pieced p span) b == k) (lt-ltb b span.length both.0)
      (eq-eqb (piece_of_byte (pieced p span) b) k both.1),
)

pub none_in_piece : (p : ℕ) (span : FileSpan) (k b : ℕ) → (b < span.length → piece_of_byte (pieced p span) b ≡ k → ⊥)
    → is_byte_in p span k b ≡ false
none_in_piece p span k b never = by (is_byte_in p span k b) refl where
  by : (t : Bool) → is_byte_in p span k b ≡ t → t ≡ false
  by true is = let both = (is_byte_in_is p span k b).0 is in absurd (never both.0 both.1)
  by false is = refl

pub no_byte : (p k b : ℕ) → is_byte_in p no_span k b ≡ false
no_byte p k b = none_in_piece p no_span k b (λ lt is. omega (arith, lt))

-- ---- a part

-- byte b is one of these
abbrev pub within : ℕ → ℕ → ℕ → Bool
within start n b = leb start b && nat_lt b (start + n)

or_false : (t : Bool) → (t || false) ≡ t
or_false true = refl
or_false false = refl

pub this_part : (one other : ℕ) (test : Bool) → one ≡ other → ((one == other && test) || false) ≡ test
this_part one other test same = ap (λ (first : Bool). first && test || false) (eq-eqb one other same) ∙ or_false test

pub other_part : (one other : ℕ) (test rest : Bool) → (one ≡ other → ⊥) → ((one == other && test) || rest) ≡ rest
other_part one other test rest differ = ap (λ (first : Bool). first && test || rest) (ne_eqb one other differ)

-- numbers of a piece
pub piece_at : (p k b : ℕ) → 0 < p → k * p ≤ b → b < k * p + p → b / p ≡ k
piece_at p k b some low high =
    ap (λ n. n / p) (let e : b ≡ k * p + (b - k * p) = omega (arith, low) in e)
    ∙ div-mul-add k p (b - k * p) (omega (arith, low, high))

pub at_piece : (p k b : ℕ) → 0 < p → b / p ≡ k → (k * p ≤ b) × (b < k * p + p)
at_piece p k b some is =
    let all = div-add-mod' b p in
    let less = mod-lt b some in
    let same : b / p * p ≡ k * p = ap (λ q. q * p) is in
    (omega (arith, all, same), omega (arith, all, same, less))

-- ---- units of joined entries

abbrev perhaps_part : Bool → ℕ → ℕ → ℕ → PlanUnit → PlanUnit
perhaps_part some index start n rest = cond some (after_part index start n rest) rest

part_of_this : (some : Bool) (index start n other b : ℕ) (rest : PlanUnit) → index ≡ other
    → has_byte_of other b rest ≡ false → has_byte_of other b (perhaps_part some index start n rest) ≡ (some && within start n b)
part_of_this true index start n other b rest same none =
    ap (λ t. index == other && within start n b || t) none ∙ this_part index other (within start n b) same
part_of_this false index start n other b rest same none = none

part_of_other : (some : Bool) (index start n other b : ℕ) (rest : PlanUnit) → (index ≡ other → ⊥)
    → has_byte_of other b (perhaps_part some index start n rest) ≡ has_byte_of other b rest
part_of_other true index start n other b rest differ = other_part index other (within start n b) (has_byte_of other b rest) differ
part_of_other false index start n other b rest differ = refl

module _ (p k b : ℕ) (some : 0 < p) where
  abbrev unit : ℕ → ℕ → List Entry → PlanUnit
  unit index at entries = unit_within (k * p) ((k + 1) * p) index at entries

  turned : (k + 1) * p ≡ k * p + p
  turned = omega arith

  -- the piece of a byte among joined ones
  joined_piece : (at m : ℕ) → piece_of_byte (pieced p (joined_span p at m)) b ≡ (at + b) / p
  joined_piece at m = sym (
      ap (λ n. n / p) (let all = div-add-mod' at p in let e : at + b ≡ at % p + b + at / p * p = omega (arith, all) in e)
      ∙ add-mul-div_right (at % p + b) (at / p) some
      ∙ (let q = at / p in let r = (at % p + b) / p in let e : r + q ≡ q + r = omega arith in e)
      )

  shares_byte : (at m : ℕ) → (nat_lt 0 (shared (k * p) ((k + 1) * p) at m)
      && within (max (k * p) at - at) (shared (k * p) ((k + 1) * p) at m) b) ≡ is_byte_in p (joined_span p at m) k b
  shares_byte at m =
      let n = shared (k * p) ((k + 1) * p) at m in
      let start = max (k * p) at - at in
      same_tests (nat_lt 0 n && within start n b) (is_byte_in p (joined_span p at m) k b)
      (λ is.
      let both = and_parts (nat_lt 0 n) (within start n b) is in
      let more = and_parts (leb start b) (nat_lt b (start + n)) both.1 in
      let filled = ltb-true 0 n both.0 in
      let low = leb-true start b more.0 in
      let high = ltb-true b (start + n) more.1 in
      let bounds = numbers (k * p) ((k + 1) * p) at m b filled low high in
      (is_byte_in_is p (joined_span p at m) k b).1 (
        bounds.0,
        joined_piece at m ∙ piece_at p k (at + b) some bounds.1 (omega (arith, bounds.2, turned)),
      ))
      (λ is.
      let both = (is_byte_in_is p (joined_span p at m) k b).0 is in
      let bounds = at_piece p k (at + b) some (sym (joined_piece at m) ∙ both.1) in
      let facts = back (k * p) ((k + 1) * p) at m b both.0 bounds.0 (omega (arith, bounds.1, turned)) in
      and_from (nat_lt 0 n) (within start n b) (lt-ltb 0 n facts.0)
      (and_from (leb start b) (nat_lt b (start + n)) (le-leb start b facts.1) (lt-ltb b (start + n) facts.2)))
    where
      numbers : (from to at m b : ℕ) → 0 < shared from to at m → max from at - at ≤ b
          → b < max from at - at + shared from to at m → (b < m) × (from ≤ at + b) × (at + b < to)
      numbers from to at m b filled low high =
          (omega (arith, filled, low, high), omega (arith, low), omega (arith, filled, low, high))

      back : (from to at m b : ℕ) → b < m → from ≤ at + b → at + b < to
          → (0 < shared from to at m) × (max from at - at ≤ b) × (b < max from at - at + shared from to at m)
      back from to at m b lt low high =
          (omega (arith, lt, low, high), omega (arith, low), omega (arith, lt, low, high))

  none_before : (entries : List Entry) (index at other : ℕ) → other < index
      → has_byte_of other b (unit index at entries) ≡ false
  unfolding unit_within
  none_before [] index at other lt = refl
  none_before (entry ∷ entries) index at other lt =
      entry_cases (λ e. has_byte_of other b (unit index at (e ∷ entries)) ≡ false)
      (λ label m. none_before entries index (at + m) other lt)
      (λ label m.
      let n = shared (k * p) ((k + 1) * p) at m in
      part_of_other (nat_lt 0 n) index (max (k * p) at - at) n other b (unit (index + 1) (at + m) entries)
      (λ same. omega (arith, same, lt))
      ∙ none_before entries (index + 1) (at + m) other (omega (arith, lt))) entry

  pub joined_have : (entries : List Entry) (index at j : ℕ) → has_byte_of (index + j) b (unit index at entries)
      ≡ is_byte_in p (get_or (joined_spans p at entries) j no_span) k b
  unfolding unit_within
  joined_have [] index at j = sym (no_byte p k b)
  joined_have (entry ∷ entries) index at j =
      entry_cases (λ e. has_byte_of (index + j) b (unit index at (e ∷ entries))
      ≡ is_byte_in p (get_or (joined_spans p at (e ∷ entries)) j no_span) k b)
      (λ label m. joined_have entries index (at + m) j)
      (λ label m. of_file m j (λ i. joined_have entries (index + 1) (at + m) i)) entry where
        of_file : (m j : ℕ) → ((i : ℕ) → has_byte_of (index + 1 + i) b (unit (index + 1) (at + m) entries)
            ≡ is_byte_in p (get_or (joined_spans p (at + m) entries) i no_span) k b)
            → has_byte_of (index + j) b (perhaps_part (nat_lt 0 (shared (k * p) ((k + 1) * p) at m)) index
            (max (k * p) at - at) (shared (k * p) ((k + 1) * p) at m) (unit (index + 1) (at + m) entries))
            ≡ is_byte_in p (get_or (joined_span p at m ∷ joined_spans p (at + m) entries) j no_span) k b
        of_file m zero later =
            let n = shared (k * p) ((k + 1) * p) at m in
            part_of_this (nat_lt 0 n) index (max (k * p) at - at) n (index + 0) b (unit (index + 1) (at + m) entries)
            (omega arith) (none_before entries (index + 1) (at + m) (index + 0) (omega arith))
            ∙ shares_byte at m
        of_file m (suc i) later =
            let n = shared (k * p) ((k + 1) * p) at m in
            part_of_other (nat_lt 0 n) index (max (k * p) at - at) n (index + suc i) b (unit (index + 1) (at + m) entries)
            (λ same. omega (arith, same))
            ∙ ap (λ (other : ℕ). has_byte_of other b (unit (index + 1) (at + m) entries))
            (let e : index + suc i ≡ index + 1 + i = omega arith in e)
            ∙ later i

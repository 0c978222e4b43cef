-- A piece is in the span of a file exactly where it has bytes of it.
use Rattle.tor_view.proofs.Names.{◌≡◌, ◌↔◌, ℕ, ◌+◌, ◌*◌, ◌/◌, ◌<◌, ◌≤◌, Bool, true, false, ◌&&◌, leb, ltb, nat_lt}
use Rattle.tor_view.proofs.Names.{arith, refl, sym, ◌∙◌, inl, inr, and_from, and_left, and_parts, and_right}
use Rattle.tor_view.proofs.Names.{cases_lt, cond-false, cond-true, le-leb, le-ltb, leb-true, lt-leb, lt-ltb}
use Rattle.tor_view.proofs.Names.{ltb-true, false≢true, div_below, div_ceil_times, le-div, mul-le-mul_right}
use Rattle.tor_view.proofs.Names.{div_ceil, shared, joined_span, no_span, FileSpan, below_from_ceil}

-- ---- tests

-- two tests that hold together are the same
pub same_tests : (a b : Bool) → (a ≡ true → b ≡ true) → (b ≡ true → a ≡ true) → a ≡ b
same_tests true b to from = sym (to refl)
same_tests false true to from = absurd (false≢true (from refl))
same_tests false false to from = refl

abbrev pub in_span : FileSpan → ℕ → Bool
in_span span k = leb span.first k && ltb k span.after

pub in_span_is : (span : FileSpan) (k : ℕ) → (in_span span k ≡ true) ↔ ((span.first ≤ k) × (k < span.after))
in_span_is span k = (
  λ is. let both = and_parts (leb span.first k) (ltb k span.after) is in
      (leb-true span.first k both.0, ltb-true k span.after both.1),
  λ both. and_from (leb span.first k) (ltb k span.after) (le-leb span.first k both.0) (lt-ltb k span.after both.1),
)

pub not_in : (span : FileSpan) (k : ℕ) → (span.first ≤ k → k < span.after → ⊥) → in_span span k ≡ false
not_in span k never = elim (cases_lt k span.first) [
  | inl before ↦ and_left (leb span.first k) (ltb k span.after) (lt-leb span.first k before)
  | inr begun ↦ elim (cases_lt k span.after) [
    | inl within ↦ absurd (never begun within)
    | inr after ↦ and_right (leb span.first k) (ltb k span.after) (le-ltb k span.after after)
  ]
]

pub none_in : (k : ℕ) → in_span no_span k ≡ false
none_in k = not_in no_span k (λ low high. omega (arith, high))

-- ---- pieces of joined entries

module _ (p k : ℕ) (some : 0 < p) where
  -- where a run begins and ends
  turned : (k + 1) * p ≡ k * p + p
  turned = omega arith

  begun : (n : ℕ) → k < div_ceil n p → k * p < n
  begun n lt = below_from_ceil n p k some lt

  counted : (n : ℕ) → k * p < n → k < div_ceil n p
  counted n lt = by (div_ceil n p) (div_ceil_times n p some) where
    by : (q : ℕ) → (n ≤ q * p) × (q * p < n + p) → k < q
    by q bounds = elim (cases_lt k q) [
      | inl less ↦ less
      | inr le ↦
          let over : q * p ≤ k * p = mul-le-mul_right p le in
          absurd (omega (arith, over, bounds.0, lt))
    ]

  not_before : (at : ℕ) → at / p ≤ k → at < k * p + p
  not_before at le = elim (cases_lt at (k * p + p)) [
    | inl less ↦ less
    | inr past ↦
        let over : k + 1 ≤ at / p = le-div (k + 1) at p some (omega (arith, past, turned)) in
        absurd (omega (arith, over, le))
  ]

  -- a run shares bytes with those of a file where it is in the file's span
  pub shares : (at m : ℕ) → nat_lt 0 (shared (k * p) ((k + 1) * p) at m) ≡ in_span (joined_span p at m) k
  shares at m = elim (cases_lt 0 m) [
    | inl filled ↦
        let after = cond-true (nat_lt 0 m) (div_ceil (at + m) p) (at / p) (lt-ltb 0 m filled) in
        let n = shared (k * p) ((k + 1) * p) at m in
        same_tests (nat_lt 0 n) (in_span (joined_span p at m) k)
        (λ is.
        let bytes = ltb-true 0 n is in
        let low = div_below at p (k + 1) some (omega (arith, bytes, turned)) in
        (in_span_is (joined_span p at m) k).1 (
          omega (arith, low),
          omega (arith, after, counted (at + m) (omega (arith, bytes, turned))),
        ))
        (λ is.
        let both = (in_span_is (joined_span p at m) k).0 is in
        let low = not_before at both.0 in
        let high = begun (at + m) (omega (arith, after, both.1)) in
        lt-ltb 0 n (omega (arith, low, high, filled, some, turned)))
    | inr none ↦
        let after = cond-false (nat_lt 0 m) (div_ceil (at + m) p) (at / p) (le-ltb 0 m none) in
        le-ltb 0 (shared (k * p) ((k + 1) * p) at m) (omega (arith, none))
        ∙ sym (not_in (joined_span p at m) k (λ low high. omega (arith, low, high, after)))
  ]

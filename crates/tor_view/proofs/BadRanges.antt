-- Ranges of bytes that grow by a range at a time.
use Rattle.tor_view.proofs.Names.{◌≡◌, ℕ, ◌<◌, ◌≤◌, Bool, true, false, ◌&&◌, ◌||◌, List, [], ◌∷◌, ◌++◌, leb, ltb}
use Rattle.tor_view.proofs.Names.{arith, refl, sym, ap, ◌∙◌, subst, inl, inr, append-nil, cases_lt, cond-false}
use Rattle.tor_view.proofs.Names.{cond-true, le-leb, le-ltb, lt-leb, lt-ltb, All, AllPairs, All-nil}
use Rattle.tor_view.proofs.Names.{All-push, list_any-append, all_pairs_push, AreRangesOf, is_in_ranges}
use Rattle.tor_view.proofs.Names.{with_range, ByteRange}

-- the ranges of the bytes before `begun`, from which on, up to `from`, each is one that is looked for
pub record AreUpTo (test : ℕ → Bool) (begun from : ℕ) (ranges : List ByteRange) : Type 0 where
  pub bytes : (b : ℕ) → is_in_ranges ranges b ≡ (ltb b begun && test b)
  pub open_ones : (b : ℕ) → begun ≤ b → b < from → test b ≡ true
  pub filled : All (λ range. range.from < range.to) ranges
  pub apart : AllPairs (λ range later. range.to < later.from) ranges
  pub ended : All (λ range. range.to < begun) ranges
  pub order : begun ≤ from

pub none_yet : (test : ℕ → Bool) → AreUpTo test 0 0 []
none_yet test = record {
  bytes = λ b. sym (ap (λ t. t && test b) (le-ltb b 0 (omega arith)));
  open_ones = λ b low high. absurd (omega (arith, high));
  filled = All-nil (λ range. range.from < range.to);
  apart = λ i j d lt high. absurd (omega (arith, high));
  ended = All-nil (λ range. range.to < 0);
  order = omega arith;
}

-- more bytes that are looked for
pub open_more : (test : ℕ → Bool) (begun from to : ℕ) (ranges : List ByteRange) → AreUpTo test begun from ranges
    → from < to → ((b : ℕ) → from ≤ b → b < to → test b ≡ true) → AreUpTo test begun to ranges
open_more test begun from to ranges before lt more = record {
  bytes = before.bytes;
  open_ones = λ b low high. elim (cases_lt b from) [
    | inl less ↦ before.open_ones b low less
    | inr le ↦ more b le high
  ];
  filled = before.filled;
  apart = before.apart;
  ended = before.ended;
  order = omega (arith, before.order, lt);
}

module _ (test : ℕ → Bool) (begun from : ℕ) (ranges : List ByteRange) (before : AreUpTo test begun from ranges) where
  range : ByteRange
  range = record { from = begun; to = from }

  all : List ByteRange
  all = with_range ranges begun from

  pushed : begun < from → with_range ranges begun from ≡ ranges ++ record { from = begun; to = from } ∷ []
  pushed lt = ap (λ more. ranges ++ more) (cond-true (ltb begun from) _ _ (lt-ltb begun from lt))

  same : from ≤ begun → with_range ranges begun from ≡ ranges
  same le = ap (λ more. ranges ++ more) (cond-false (ltb begun from) _ _ (le-ltb begun from le)) ∙ append-nil ranges

  in_pushed : (b : ℕ) → (is_in_ranges ranges b || ((leb begun b && ltb b from) || false)) ≡ (ltb b from && test b)
  in_pushed b = ap (λ t. t || ((leb begun b && ltb b from) || false)) (before.bytes b) ∙ elim (cases_lt b begun) [
    | inl early ↦
        let less : b < from = omega (arith, early, before.order) in
        rw (lt-ltb b begun early, lt-leb begun b early, lt-ltb b from less) (by_test (test b))
    | inr le ↦ elim (cases_lt b from) [
      | inl less ↦
          rw (le-ltb b begun le, le-leb begun b le, lt-ltb b from less, before.open_ones b le less) refl
      | inr past ↦ rw (le-ltb b begun le, le-leb begun b le, le-ltb b from past) refl
    ]
  ] where
    by_test : (t : Bool) → (t || false) ≡ t
    by_test true = refl
    by_test false = refl

  pub bytes_of_all : (b : ℕ) → is_in_ranges (with_range ranges begun from) b ≡ (ltb b from && test b)
  bytes_of_all b = elim (cases_lt begun from) [
    | inl lt ↦
        ap (λ (rs : List ByteRange). is_in_ranges rs b) (pushed lt)
        ∙ list_any-append (λ (r : ByteRange). leb r.from b && ltb b r.to) ranges (record { from = begun; to = from } ∷ [])
        ∙ in_pushed b
    | inr le ↦
        let is : begun ≡ from = omega (arith, le, before.order) in
        ap (λ (rs : List ByteRange). is_in_ranges rs b) (same le) ∙ before.bytes b ∙ ap (λ n. ltb b n && test b) is
  ]

  by_cases : (P : List ByteRange → Type 0) → P ranges → (begun < from → P (ranges ++ record { from = begun; to = from } ∷ []))
      → P (with_range ranges begun from)
  by_cases P kept more = elim (cases_lt begun from) [
    | inl lt ↦ subst P (sym (pushed lt)) (more lt)
    | inr le ↦ subst P (sym (same le)) kept
  ]

  pub all_filled : All (λ range. range.from < range.to) (with_range ranges begun from)
  all_filled = by_cases (All (λ range. range.from < range.to)) before.filled
      (λ lt. All-push (λ (r : ByteRange). r.from < r.to) ranges (record { from = begun; to = from }) before.filled lt)

  pub all_apart : AllPairs (λ range later. range.to < later.from) (with_range ranges begun from)
  all_apart = by_cases (AllPairs (λ range later. range.to < later.from)) before.apart
      (λ lt. all_pairs_push (λ (r : ByteRange) (later : ByteRange). r.to < later.from) ranges
      (record { from = begun; to = from }) before.apart before.ended)

  weaker : (m n : ℕ) → m ≤ n → (rs : List ByteRange) → All (λ r. r.to < m) rs → All (λ r. r.to < n) rs
  weaker m n le rs ended = λ k d lt. let less = ended k d lt in omega (arith, less, le)

  pub all_ended : (to : ℕ) → from < to → All (λ range. range.to < to) (with_range ranges begun from)
  all_ended to lt = by_cases (All (λ range. range.to < to))
      (weaker begun to (omega (arith, before.order, lt)) ranges before.ended)
      (λ _. All-push (λ (r : ByteRange). r.to < to) ranges (record { from = begun; to = from })
      (weaker begun to (omega (arith, before.order, lt)) ranges before.ended) lt)

  -- bytes that are not looked for end what was begun
  pub closed_more : (to : ℕ) → from < to → ((b : ℕ) → from ≤ b → b < to → test b ≡ false)
      → AreUpTo test to to (with_range ranges begun from)
  closed_more to lt others = record {
    bytes = λ b. bytes_of_all b ∙ elim (cases_lt b from) [
      | inl less ↦ ap (λ t. t && test b) (lt-ltb b from less ∙ sym (lt-ltb b to (omega (arith, less, lt))))
      | inr le ↦ elim (cases_lt b to) [
        | inl less ↦ rw (le-ltb b from le, lt-ltb b to less, others b le less) refl
        | inr past ↦ rw (le-ltb b from le, le-ltb b to past) refl
      ]
    ];
    open_ones = λ b low high. absurd (omega (arith, low, high));
    filled = all_filled;
    apart = all_apart;
    ended = all_ended to lt;
    order = omega arith;
  }

  -- at the end
  pub whole : ((b : ℕ) → from ≤ b → test b ≡ false) → AreRangesOf test (with_range ranges begun from)
  whole others = record {
    bytes = λ b. bytes_of_all b ∙ elim (cases_lt b from) [
      | inl less ↦ ap (λ t. t && test b) (lt-ltb b from less)
      | inr le ↦ ap (λ t. t && test b) (le-ltb b from le) ∙ sym (others b le)
    ];
    filled = all_filled;
    apart = all_apart;
  }

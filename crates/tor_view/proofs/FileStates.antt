-- What the state of a file says of its length and of its pieces.
use Rattle.tor_view.proofs.Names.{◌≡◌, ◌↔◌, ℕ, zero, suc, ◌+◌, ◌-◌, ◌<◌, ◌≤◌, Bool, true, false, cond, List, [], ◌∷◌}
use Rattle.tor_view.proofs.Names.{length, get_or, Option, None, Some, refl, ap, sym, ◌∙◌, arith, cond-false}
use Rattle.tor_view.proofs.Names.{cond-true, false≢true, le-ltb, lt-ltb, ltb-false, ltb-true, nat_lt}
use Rattle.tor_view.proofs.Names.{count_by-le-length, sum_by-cons, get_or-map-range_with_len}
use Rattle.tor_view.proofs.Names.{length-map-range_with_len, set_count, file_found, pieces_of_file, state_of}
use Rattle.tor_view.proofs.Names.{AllHold, AreFewer, AreThere, OneFails, FileSpan, Bad, Short, Whole}
use Rattle.tor_view.specs.declared.files.FileState.TheVariants as state

-- ---- bits that are set

one_more : (bit : Bool) (bits : List Bool) → set_count (bit ∷ bits) ≡ cond bit 1 0 + set_count bits
one_more bit bits = sum_by-cons (λ (one : Bool). cond one 1 0) bit bits

at_most : (bits : List Bool) → set_count bits ≤ length bits
at_most bits = count_by-le-length (λ (bit : Bool). bit) bits

all_are_set : (bits : List Bool) → length bits ≤ set_count bits → (k : ℕ) → k < length bits
    → get_or bits k false ≡ true
all_are_set [] full k lt = absurd (omega (arith, lt))
all_are_set (true ∷ bits) full zero lt = refl
all_are_set (true ∷ bits) full (suc k) lt =
    all_are_set bits (omega (arith, full, one_more true bits)) k (omega (arith, lt))
all_are_set (false ∷ bits) full k lt = absurd (omega (arith, full, one_more false bits, at_most bits))

all_count : (bits : List Bool) → ((k : ℕ) → k < length bits → get_or bits k false ≡ true)
    → length bits ≤ set_count bits
all_count [] all = omega arith
all_count (true ∷ bits) all =
    let rest = all_count bits (λ k lt. all (suc k) (omega (arith, lt))) in
    omega (arith, rest, one_more true bits)
all_count (false ∷ bits) all = absurd (false≢true (all 0 (omega arith)))

-- one that is not set
record Unset (bits : List Bool) : Type 0 where
  at : ℕ
  within : at < length bits
  unset : get_or bits at false ≡ false

one_is_unset : (bits : List Bool) → set_count bits < length bits → Unset bits
one_is_unset [] less = absurd (omega (arith, less))
one_is_unset (false ∷ bits) less = record { at = 0; within = omega arith; unset = refl }
one_is_unset (true ∷ bits) less =
    let rest = one_is_unset bits (omega (arith, less, one_more true bits)) in
    record { at = suc rest.at; within = omega (arith, rest.within); unset = rest.unset }

unset_counts : (bits : List Bool) (k : ℕ) → k < length bits → get_or bits k false ≡ false
    → set_count bits < length bits
unset_counts [] k lt unset = absurd (omega (arith, lt))
unset_counts (true ∷ bits) zero lt unset = cc
unset_counts (false ∷ bits) zero lt unset = omega (arith, one_more false bits, at_most bits)
unset_counts (true ∷ bits) (suc k) lt unset =
    let rest = unset_counts bits k (omega (arith, lt)) unset in
    omega (arith, rest, one_more true bits)
unset_counts (false ∷ bits) (suc k) lt unset =
    let rest = unset_counts bits k (omega (arith, lt)) unset in
    omega (arith, rest, one_more false bits)

-- ---- the pieces of a file

module _ (held : List Bool) (span : FileSpan) where
  abbrev bits : List Bool
  bits = pieces_of_file held span

  count_is : length bits ≡ span.after - span.first
  count_is = length-map-range_with_len (λ k. get_or held k false) span.first (span.after - span.first)

  bit_is : (k : ℕ) → span.first ≤ k → k < span.after → get_or bits (k - span.first) false ≡ get_or held k false
  bit_is k le lt =
      get_or-map-range_with_len (λ n. get_or held n false) span.first (span.after - span.first) (k - span.first) k
      false (omega (arith, le, lt)) (omega (arith, le))

  pub hold_where_full : span.after - span.first ≤ set_count bits → AllHold held span
  hold_where_full full k le lt =
      sym (bit_is k le lt)
      ∙ all_are_set bits (omega (arith, full, count_is)) (k - span.first) (omega (arith, count_is, le, lt))

  pub full_where_hold : AllHold held span → span.after - span.first ≤ set_count bits
  full_where_hold all =
      let full = all_count bits (λ k lt.
      let below : k < span.after - span.first = omega (arith, lt, count_is) in
      get_or-map-range_with_len (λ n. get_or held n false) span.first (span.after - span.first) k (span.first + k)
      false below (omega arith)
      ∙ all (span.first + k) (omega arith) (omega (arith, below))) in
      omega (arith, full, count_is)

  pub fails_where_less : set_count bits < span.after - span.first → OneFails held span
  fails_where_less less =
      let one = one_is_unset bits (omega (arith, less, count_is)) in
      let below : one.at < span.after - span.first = omega (arith, one.within, count_is) in (
        span.first + one.at,
        omega arith,
        omega (arith, below),
        sym (get_or-map-range_with_len (λ n. get_or held n false) span.first (span.after - span.first) one.at
            (span.first + one.at) false below (omega arith)) ∙ one.unset,
      )

  pub less_where_fails : OneFails held span → set_count bits < span.after - span.first
  less_where_fails one =
      let less = unset_counts bits (one.0 - span.first) (omega (arith, count_is, one.1, one.2))
      (bit_is one.0 one.1 one.2 ∙ one.3) in
      omega (arith, less, count_is)

-- ---- the state

whole_tests : (short bad : Bool) → cond short Short (cond bad Bad Whole) ≡ Whole → (short ≡ false) × (bad ≡ false)
whole_tests true bad is = cc
whole_tests false true is = cc
whole_tests false false is = (refl, refl)

bad_tests : (short bad : Bool) → cond short Short (cond bad Bad Whole) ≡ Bad → (short ≡ false) × (bad ≡ true)
bad_tests true bad is = cc
bad_tests false true is = (refl, refl)
bad_tests false false is = cc

short_tests : (short bad : Bool) → cond short Short (cond bad Bad Whole) ≡ Short → short ≡ true
short_tests true bad is = refl
short_tests false true is = cc
short_tests false false is = cc

module _ (told good pieces : ℕ) where
  when_whole : (there : Option ℕ) → state_of there told good pieces ≡ Whole → AreThere there told × (pieces ≤ good)
  when_whole None is = cc
  when_whole (Some n) is =
      let tests = whole_tests (nat_lt n told) (nat_lt good pieces) is in
      ((n, refl, ltb-false n told tests.0), ltb-false good pieces tests.1)

  when_bad : (there : Option ℕ) → state_of there told good pieces ≡ Bad → AreThere there told × (good < pieces)
  when_bad None is = cc
  when_bad (Some n) is =
      let tests = bad_tests (nat_lt n told) (nat_lt good pieces) is in
      ((n, refl, ltb-false n told tests.0), ltb-true good pieces tests.1)

  pub when_short : (there : Option ℕ) → state_of there told good pieces ≡ Short → AreFewer there told
  when_short None is = cc
  when_short (Some n) is = (n, refl, ltb-true n told (short_tests (nat_lt n told) (nat_lt good pieces) is))

  pub when_missing : (there : Option ℕ) → state_of there told good pieces ≡ state.Missing → there ≡ None
  when_missing None is = refl
  when_missing (Some n) is = missing (nat_lt n told) (nat_lt good pieces) is where
    missing : (short bad : Bool) → cond short Short (cond bad Bad Whole) ≡ state.Missing → Some n ≡ None
    missing true bad is = cc
    missing false true is = cc
    missing false false is = cc

  enough : (there : Option ℕ) → AreThere there told
      → state_of there told good pieces ≡ cond (nat_lt good pieces) Bad Whole
  enough there are =
      ap (λ one. state_of one told good pieces) are.1
      ∙ cond-false (nat_lt are.0 told) Short (cond (nat_lt good pieces) Bad Whole) (le-ltb are.0 told are.2)

  pub is_whole_so : (there : Option ℕ) → AreThere there told → pieces ≤ good
      → state_of there told good pieces ≡ Whole
  is_whole_so there are full =
      enough there are ∙ cond-false (nat_lt good pieces) Bad Whole (le-ltb good pieces full)

  pub is_bad_so : (there : Option ℕ) → AreThere there told → good < pieces → state_of there told good pieces ≡ Bad
  is_bad_so there are less =
      enough there are ∙ cond-true (nat_lt good pieces) Bad Whole (lt-ltb good pieces less)

  pub is_short_so : (there : Option ℕ) → AreFewer there told → state_of there told good pieces ≡ Short
  is_short_so there fewer =
      ap (λ one. state_of one told good pieces) fewer.1
      ∙ cond-true (nat_lt fewer.0 told) Short (cond (nat_lt good pieces) Bad Whole) (lt-ltb fewer.0 told fewer.2)

-- ---- the laws

module _ (held : List Bool) (span : FileSpan) (there : Option ℕ) where
  abbrev good : ℕ
  good = set_count (pieces_of_file held span)

  abbrev pieces : ℕ
  pieces = span.after - span.first

  pub missing_is : ((file_found held span there).state ≡ state.Missing) ↔ (there ≡ None)
  missing_is = (
    when_missing span.length good pieces there,
    λ none. ap (λ one. state_of one span.length good pieces) none,
  )

  pub short_is : ((file_found held span there).state ≡ Short) ↔ AreFewer there span.length
  short_is = (when_short span.length good pieces there, is_short_so span.length good pieces there)

  pub bad_is : ((file_found held span there).state ≡ Bad) ↔ (AreThere there span.length × OneFails held span)
  bad_is = (
    λ is. let parts = when_bad span.length good pieces there is in (parts.0, fails_where_less held span parts.1),
    λ both. is_bad_so span.length good pieces there both.0 (less_where_fails held span both.1),
  )

  pub whole_is : ((file_found held span there).state ≡ Whole) ↔ (AreThere there span.length × AllHold held span)
  whole_is = (
    λ is. let parts = when_whole span.length good pieces there is in (parts.0, hold_where_full held span parts.1),
    λ both. is_whole_so span.length good pieces there both.0 (full_where_hold held span both.1),
  )

-- An integer that is read is the one that is spelled, and what is refused has a fault.
use Rattle.tor_bencode.proofs.Names.{◌≡◌, ◌≢◌, ℕ, zero, suc, ◌^◌, ◌≤◌, ◌<◌, ℤ, pos, negsuc, List, [], ◌∷◌, ◌++◌, take}
use Rattle.tor_bencode.proofs.Names.{Bool, true, false, not, ◌==◌, ◌&&◌, ◌||◌, Option, Some, None, Ok, Err, refl, sym}
use Rattle.tor_bencode.proofs.Names.{ap, ap₂, ◌∙◌, arith, rules, inl, inr, ◌⊎◌, nat_le, nat_lt, FitsSigned}
use Rattle.tor_bencode.proofs.Names.{is_ascii_digit, w64, list_all, prefix_len, and_parts, false≢true, cases_Bool}
use Rattle.tor_bencode.proofs.Names.{le-leb, leb-true, false_from_ne_true, nat_tests, ints, take_at, drop_at, drop_all}
use Rattle.tor_bencode.proofs.Names.{Truncated, BadInteger, IntegerRange, Runs, is_integer_byte, number, is_shortest}
use Rattle.tor_bencode.proofs.Names.{is_positive, is_integer, integer_of, negative_of, positive_of, in_range}
use Rattle.tor_bencode.proofs.Names.{integer_after, integer_at, base_ten, signed_base_ten}
use Rattle.tor_bencode.proofs.Numerals.{digit_range, base_ten-number, number-base_ten, all_digits-base_ten}
use Rattle.tor_bencode.proofs.Numerals.{is_shortest-base_ten}
use Rattle.tor_bencode.proofs.Runs.{prefix_len-run, prefix_len-all}

or_true : (b : Bool) → (b || true) ≡ true
or_true true = refl
or_true false = refl

digits_are_bytes : (cs : List ℕ) → list_all is_ascii_digit cs ≡ true → list_all is_integer_byte cs ≡ true
digits_are_bytes [] digits = refl
digits_are_bytes (c ∷ cs) digits =
    let both = and_parts (is_ascii_digit c) (list_all is_ascii_digit cs) digits in
    rw (both.0, or_true (c == 45)) (digits_are_bytes cs both.1)

bytes-signed : (z : ℤ) → list_all is_integer_byte (signed_base_ten z) ≡ true
bytes-signed (pos n) = digits_are_bytes (base_ten n) (all_digits-base_ten n)
bytes-signed (negsuc n) = digits_are_bytes (base_ten (suc n)) (all_digits-base_ten (suc n))

no_minus : (c : ℕ) → is_ascii_digit c ≡ true → (c == 45) ≡ false
no_minus c digit = let range = digit_range c digit in grind (arith, nat_tests)

is_integer-digits : (run : List ℕ) → list_all is_ascii_digit run ≡ true → is_shortest run ≡ true → is_integer run ≡ true
unfolding is_integer
is_integer-digits [] digits shortest = absurd (false≢true shortest)
is_integer-digits (c ∷ cs) digits shortest =
    let both = and_parts (is_ascii_digit c) (list_all is_ascii_digit cs) digits in
    rw (no_minus c both.0, digits, shortest) refl

number-zero : (c : ℕ) → c ≡ 48 → number (c ∷ []) ≡ 0
unfolding number
number-zero c e = omega arith

is_positive-digits : (run : List ℕ) → list_all is_ascii_digit run ≡ true → is_shortest run ≡ true → 0 < number run
    → is_positive run ≡ true
is_positive-digits [] digits shortest more = absurd (false≢true shortest)
is_positive-digits (c ∷ []) digits shortest more =
    let first : not (c == 48) ≡ true =
    elim (cases_Bool (c == 48))
    [ inl e ↦ absurd (let z = number-zero c (grind (arith, nat_tests)) in omega arith) | inr e ↦ rw e refl ] in
    rw (first, digits) refl
is_positive-digits (c ∷ d ∷ cs) digits shortest more = rw (shortest, digits) refl

pub is_integer-signed : (z : ℤ) → is_integer (signed_base_ten z) ≡ true
unfolding is_integer
is_integer-signed (pos n) = is_integer-digits (base_ten n) (all_digits-base_ten n) (is_shortest-base_ten n)
is_integer-signed (negsuc n) =
    is_positive-digits (base_ten (suc n)) (all_digits-base_ten (suc n)) (is_shortest-base_ten (suc n))
    (omega (arith, number-base_ten (suc n)))

integer_of-digits : (run : List ℕ) → list_all is_ascii_digit run ≡ true → is_shortest run ≡ true
    → integer_of run ≡ positive_of (number run)
unfolding integer_of
integer_of-digits [] digits shortest = absurd (false≢true shortest)
integer_of-digits (c ∷ cs) digits shortest =
    let both = and_parts (is_ascii_digit c) (list_all is_ascii_digit cs) digits in
    rw (no_minus c both.0) refl

abbrev pub held : ℤ → Option ℤ
held (pos n) = positive_of n
held (negsuc n) = negative_of (suc n)

pub integer_of-signed : (z : ℤ) → integer_of (signed_base_ten z) ≡ held z
unfolding integer_of
integer_of-signed (pos n) =
    integer_of-digits (base_ten n) (all_digits-base_ten n) (is_shortest-base_ten n) ∙ ap positive_of (number-base_ten n)
integer_of-signed (negsuc n) = ap negative_of (number-base_ten (suc n))

pub held-fits : (z : ℤ) → FitsSigned w64 z → held z ≡ Some z
held-fits (pos n) fits = let small : nat_lt n (2 ^ 63) ≡ true = le-leb _ _ (omega (arith, ints, fits)) in rw small refl
held-fits (negsuc n) fits =
    let small : nat_le (suc n) (2 ^ 63) ≡ true = le-leb _ _ (omega (arith, ints, fits)) in rw small refl

pub fits_pos : (n : ℕ) → nat_lt n (2 ^ 63) ≡ true → FitsSigned w64 (pos n)
fits_pos n e = let small : n < 2 ^ 63 = leb-true _ _ e in search (rules, ints)

pub fits_negsuc : (n : ℕ) → nat_le (suc n) (2 ^ 63) ≡ true → FitsSigned w64 (negsuc n)
fits_negsuc n e = let small : suc n ≤ 2 ^ 63 = leb-true _ _ e in search (rules, ints)

held-too_large : (z : ℤ) → ¬ FitsSigned w64 z → held z ≡ None
held-too_large (pos n) large =
    let no : nat_lt n (2 ^ 63) ≡ false = false_from_ne_true _ (λ e. large (fits_pos n e)) in rw no refl
held-too_large (negsuc n) large =
    let no : nat_le (suc n) (2 ^ 63) ≡ false = false_from_ne_true _ (λ e. large (fits_negsuc n e)) in rw no refl

is_positive-parts : (cs : List ℕ) → is_positive cs ≡ true
    → (list_all is_ascii_digit cs ≡ true) × (is_shortest cs ≡ true)
is_positive-parts [] h = absurd (false≢true h)
is_positive-parts (c ∷ []) h = ((and_parts (not (c == 48)) (list_all is_ascii_digit (c ∷ [])) h).1, refl)
is_positive-parts (c ∷ d ∷ cs) h =
    let both = and_parts (not (c == 48)) (list_all is_ascii_digit (c ∷ d ∷ cs)) h in (both.1, both.0)

zero_is_not : false ≡ is_positive (base_ten 0)
unfolding base_ten
zero_is_not = refl

is_positive-number : (cs : List ℕ) → is_positive cs ≡ true → number cs ≡ 0 → ⊥
is_positive-number cs h e =
    let parts = is_positive-parts cs h in
    let zero_run : base_ten 0 ≡ cs = ap base_ten (sym e) ∙ base_ten-number cs parts.0 parts.1 in
    false≢true (zero_is_not ∙ ap is_positive zero_run ∙ h)

signed-negative : (cs : List ℕ) (n : ℕ) → number cs ≡ n → is_positive cs ≡ true
    → (z : ℤ) × (45 ∷ cs ≡ signed_base_ten z)
signed-negative cs zero e h = absurd (is_positive-number cs h e)
signed-negative cs (suc n) e h =
    let parts = is_positive-parts cs h in
    (negsuc n, ap (λ run. 45 ∷ run) (sym (base_ten-number cs parts.0 parts.1) ∙ ap base_ten e))

-- a run that is an integer is the spelling of one
pub signed-run : (run : List ℕ) → is_integer run ≡ true → (z : ℤ) × (run ≡ signed_base_ten z)
unfolding is_integer
signed-run [] h = absurd (false≢true h)
signed-run (c ∷ cs) h =
    elim (cases_Bool (c == 45)) [
      | inl minus ↦
          let is : c ≡ 45 = grind (arith, nat_tests) in
          let positive : is_positive cs ≡ true = rw minus at h in
          let z = signed-negative cs (number cs) refl positive in
          (z.0, ap (λ x. x ∷ cs) is ∙ z.1)
      | inr digit ↦
          let both = and_parts (list_all is_ascii_digit (c ∷ cs)) (is_shortest (c ∷ cs)) (rw digit at h) in
          (pos (number (c ∷ cs)), sym (base_ten-number (c ∷ cs) both.0 both.1))
    ]

integer_at-run : (bytes run : List ℕ) (c : ℕ) (more : List ℕ) → list_all is_integer_byte run ≡ true
    → is_integer_byte c ≡ false
    → integer_at bytes (run ++ c ∷ more) ≡ integer_after bytes run (c ∷ more)
unfolding integer_at
integer_at-run bytes run c more all stop =
    let size = prefix_len-run is_integer_byte run c more all stop in
    ap₂ (integer_after bytes) (take_at run (c ∷ more) _ (sym size)) (drop_at run (c ∷ more) _ (sym size))

integer_at-signed : (bytes : List ℕ) (z : ℤ) (more : List ℕ)
    → integer_at bytes (signed_base_ten z ++ 101 ∷ more) ≡ in_range bytes more (held z)
integer_at-signed bytes z more =
    integer_at-run bytes (signed_base_ten z) 101 more (bytes-signed z) refl
    ∙ rw (is_integer-signed z, integer_of-signed z) refl

pub integer_at-spelling : (bytes : List ℕ) (z : ℤ) (more : List ℕ) → FitsSigned w64 z
    → integer_at bytes (signed_base_ten z ++ 101 ∷ more) ≡ Ok (z, more)
integer_at-spelling bytes z more fits = integer_at-signed bytes z more ∙ ap (in_range bytes more) (held-fits z fits)

pub integer_at-too_large : (bytes : List ℕ) (z : ℤ) (more : List ℕ) → ¬ FitsSigned w64 z
    → integer_at bytes (signed_base_ten z ++ 101 ∷ more) ≡ Err (IntegerRange, bytes)
integer_at-too_large bytes z more large =
    integer_at-signed bytes z more ∙ ap (in_range bytes more) (held-too_large z large)

pub integer_at-cut : (bytes rest : List ℕ) → list_all is_integer_byte rest ≡ true
    → integer_at bytes rest ≡ Err (Truncated, [])
unfolding integer_at
integer_at-cut bytes rest all =
    let size = prefix_len-all is_integer_byte rest all in
    ap (integer_after bytes (take (prefix_len is_integer_byte rest) rest)) (drop_all _ rest (omega arith))

module _ (bytes rest run : List ℕ) (next : ℕ) (more : List ℕ) (r : Runs is_integer_byte rest run next more) where
  refused : ((next ≢ 101) ⊎ ((n : ℤ) → run ≢ signed_base_ten n)) → ((next == 101) && is_integer run) ≡ true → ⊥
  refused (inl other) e = other (let h = (and_parts (next == 101) (is_integer run) e).0 in grind (arith, nat_tests))
  refused (inr none) e = let z = signed-run run (and_parts (next == 101) (is_integer run) e).1 in none z.0 z.1

  pub integer_at-bad : ((next ≢ 101) ⊎ ((n : ℤ) → run ≢ signed_base_ten n))
      → integer_at bytes rest ≡ Err (BadInteger, bytes)
  integer_at-bad why =
      let stop = false_from_ne_true (is_integer_byte next) r.stops in
      let test : ((next == 101) && is_integer run) ≡ false = false_from_ne_true _ (refused why) in
      ap (integer_at bytes) r.whole ∙ integer_at-run bytes run next more r.all stop ∙ rw test refl

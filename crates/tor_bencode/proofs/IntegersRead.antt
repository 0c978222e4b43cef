-- What is read as an integer is one that is spelled, or has a fault.
use Rattle.tor_bencode.proofs.Names.{◌≡◌, ℕ, suc, ◌^◌, ℤ, pos, negsuc, List, [], ◌∷◌, ◌++◌, take, drop, Bool, true}
use Rattle.tor_bencode.proofs.Names.{false, cond, ◌==◌, ◌&&◌, Some, None, Ok, Err, refl, sym, ap, ap₂, ◌∙◌, subst}
use Rattle.tor_bencode.proofs.Names.{append_assoc, arith, inl, inr, nat_le, nat_lt, FitsSigned, w64, list_all}
use Rattle.tor_bencode.proofs.Names.{prefix_len, and_parts, true≢false, cases_Bool, nat_tests, append-nil, integer}
use Rattle.tor_bencode.proofs.Names.{Fault, Truncated, BadInteger, IntegerRange, Runs, is_integer_byte, IsCutInteger}
use Rattle.tor_bencode.proofs.Names.{IsBadInteger, IsTooLarge, Reading, is_integer, integer_of, in_range, integer_after}
use Rattle.tor_bencode.proofs.Names.{integer_at, signed_base_ten, spelling}
use Rattle.tor_bencode.proofs.Runs.{by_test, run_passes, run_stops, run_whole}
use Rattle.tor_bencode.proofs.Integers.{is_integer-signed, held, integer_of-signed, held-fits, fits_pos, fits_negsuc}
use Rattle.tor_bencode.proofs.Integers.{signed-run}

-- what is wrong with an integer
abbrev pub IsBadInt : List ℕ → Fault → List ℕ → Type 0
IsBadInt bytes Truncated from = IsCutInteger bytes × (from ≡ [])
IsBadInt bytes BadInteger from = IsBadInteger bytes × (from ≡ bytes)
IsBadInt bytes IntegerRange from = IsTooLarge bytes × (from ≡ bytes)
IsBadInt bytes fault from = ⊥

abbrev pub IntegerIs : List ℕ → Reading ℤ → Type 0
IntegerIs bytes (Ok x) = FitsSigned w64 x.0 × (bytes ≡ spelling (integer x.0) ++ x.1)
IntegerIs bytes (Err f) = IsBadInt bytes f.0 f.1

pub integer_spelled : (z : ℤ) (more : List ℕ) → spelling (integer z) ++ more ≡ 105 ∷ (signed_base_ten z ++ 101 ∷ more)
integer_spelled z more = ap (λ bs. 105 ∷ bs) (append_assoc (signed_base_ten z) (101 ∷ []) more)

not_held : {b : Bool} {z : ℤ} → cond b (Some z) None ≡ Some z → b ≡ false → ⊥
not_held h e = let none : None ≡ Some _ = rw e at h in absurd cc

held-is : (bytes more : List ℕ) (z : ℤ) → bytes ≡ spelling (integer z) ++ more
    → IntegerIs bytes (in_range bytes more (held z))
held-is bytes more (pos n) is =
    by_test (nat_lt n (2 ^ 63)) (λ o. IntegerIs bytes (in_range bytes more o)) (Some (pos n)) None
    (λ e. (fits_pos n e, is)) (λ e. ((pos n, more, is, λ fits. not_held (held-fits (pos n) fits) e), refl))
held-is bytes more (negsuc n) is =
    by_test (nat_le (suc n) (2 ^ 63)) (λ o. IntegerIs bytes (in_range bytes more o)) (Some (negsuc n)) None
    (λ e. (fits_negsuc n e, is)) (λ e. ((negsuc n, more, is, λ fits. not_held (held-fits (negsuc n) fits) e), refl))

module _ (rest : List ℕ) where
  bytes : List ℕ
  bytes = 105 ∷ rest

  bad : (run : List ℕ) (c : ℕ) (more : List ℕ) → Runs is_integer_byte rest run c more
      → ((c == 101) && is_integer run) ≡ false → IsBadInteger (105 ∷ rest)
  bad run c more r test = (
    rest,
    run,
    c,
    more,
    refl,
    r,
    elim (cases_Bool (c == 101)) [
      | inl end ↦ inr (λ z e. true≢false
          (sym (is_integer-signed z) ∙ ap is_integer (sym e) ∙ sym (ap (λ b. b && is_integer run) end) ∙ test))
      | inr other ↦ inl (λ e. grind (arith, nat_tests))
    ],
  )

  after_is : (after : List ℕ) → drop (prefix_len is_integer_byte rest) rest ≡ after
      → IntegerIs (105 ∷ rest) (integer_after (105 ∷ rest) (take (prefix_len is_integer_byte rest) rest) after)
  after_is [] e =
      let all : rest ≡ take (prefix_len is_integer_byte rest) rest =
      run_whole is_integer_byte rest [] e ∙ append-nil _ in
      ((rest, refl, subst (λ bs. list_all is_integer_byte bs ≡ true) (sym all) (run_passes is_integer_byte rest)), refl)
  after_is (c ∷ more) e =
      let run = take (prefix_len is_integer_byte rest) rest in
      let whole : rest ≡ take (prefix_len is_integer_byte rest) rest ++ c ∷ more =
      run_whole is_integer_byte rest (c ∷ more) e in
      by_test ((c == 101) && is_integer run) (IntegerIs (105 ∷ rest)) _ _
      (λ good.
      let parts = and_parts (c == 101) (is_integer run) good in
      let end : c ≡ 101 = grind (arith, nat_tests) in
      let z = signed-run run parts.1 in
      let is : 105 ∷ rest ≡ spelling (integer z.0) ++ more =
      ap (λ bs. 105 ∷ bs) (whole ∙ ap₂ (λ (r : List ℕ) (x : ℕ). r ++ x ∷ more) z.1 end)
      ∙ sym (integer_spelled z.0 more) in
      subst (λ o. IntegerIs (105 ∷ rest) (in_range (105 ∷ rest) more o))
      (sym (ap integer_of z.1 ∙ integer_of-signed z.0)) (held-is (105 ∷ rest) more z.0 is))
      (λ test. (
        bad run c more (record {
          all = run_passes is_integer_byte rest;
          stops = λ t. true≢false (sym t ∙ run_stops is_integer_byte rest c more e);
          whole = whole;
        }) test,
        refl,
      ))

pub integer_sound : (rest : List ℕ) → IntegerIs (105 ∷ rest) (integer_at (105 ∷ rest) rest)
unfolding integer_at
integer_sound rest = after_is rest (drop (prefix_len is_integer_byte rest) rest) refl

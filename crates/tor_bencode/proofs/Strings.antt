-- A byte string that is read is the one that is spelled, and what is refused has a fault.
use Rattle.tor_bencode.proofs.Names.{◌≡◌, ◌≢◌, ℕ, ◌<◌, List, [], ◌∷◌, ◌++◌, length, take, drop, true, false, cond, ◌==◌}
use Rattle.tor_bencode.proofs.Names.{◌&&◌, Ok, Err, refl, sym, ap, ap₂, ◌∙◌, subst, append_assoc, arith, inl, inr, ◌⊎◌}
use Rattle.tor_bencode.proofs.Names.{nat_le, is_ascii_digit, list_all, prefix_len, and_parts, true≢false, cases_Bool}
use Rattle.tor_bencode.proofs.Names.{le-leb, false_from_ne_true, nat_tests, take_at, drop_at, drop_all}
use Rattle.tor_bencode.proofs.Names.{take-append-drop, append-nil, length-append, length-take, Fault, Truncated}
use Rattle.tor_bencode.proofs.Names.{BadLength, Runs, BeginsWithDigit, IsCutString, HasBadLength, Reading, number}
use Rattle.tor_bencode.proofs.Names.{is_shortest, string_after, string_at, base_ten, string_spelling}
use Rattle.tor_bencode.proofs.Numerals.{base_ten-number, number-base_ten, all_digits-base_ten, is_shortest-base_ten}
use Rattle.tor_bencode.proofs.Runs.{by_test, prefix_len-run, prefix_len-all, run_passes, run_stops, run_whole}

string_at-run : (run : List ℕ) (c : ℕ) (more : List ℕ) → list_all is_ascii_digit run ≡ true → is_ascii_digit c ≡ false
    → string_at (run ++ c ∷ more) ≡ string_after (run ++ c ∷ more) run (c ∷ more)
unfolding string_at
string_at-run run c more digits stop =
    let size = prefix_len-run is_ascii_digit run c more digits stop in
    ap₂ (string_after (run ++ c ∷ more)) (take_at run (c ∷ more) _ (sym size)) (drop_at run (c ∷ more) _ (sym size))

colon_is_no_digit : is_ascii_digit 58 ≡ false
colon_is_no_digit = refl

string_spelled : (s rest : List ℕ) → string_spelling s ++ rest ≡ base_ten (length s) ++ 58 ∷ (s ++ rest)
string_spelled s rest = simp append_assoc

-- a length and a colon, and then the bytes
string_at-length : (n : ℕ) (more : List ℕ)
    → string_at (base_ten n ++ 58 ∷ more)
    ≡ cond (nat_le n (length more)) (Ok (take n more, drop n more)) (Err (Truncated, []))
string_at-length n more =
    string_at-run (base_ten n) 58 more (all_digits-base_ten n) colon_is_no_digit
    ∙ rw (is_shortest-base_ten n, number-base_ten n) refl

pub string_at-spelling : (s rest : List ℕ) → string_at (string_spelling s ++ rest) ≡ Ok (s, rest)
string_at-spelling s rest =
    let fits : nat_le (length s) (length (s ++ rest)) ≡ true = le-leb _ _ (omega (arith, length-append s rest)) in
    ap string_at (string_spelled s rest) ∙ string_at-length (length s) (s ++ rest)
    ∙ rw (fits, take_at s rest (length s) refl, drop_at s rest (length s) refl) refl

pub string_at-cut : (n : ℕ) (more : List ℕ) → length more < n
    → string_at (base_ten n ++ 58 ∷ more) ≡ Err (Truncated, [])
string_at-cut n more short =
    let no : nat_le n (length more) ≡ false = grind (arith, nat_tests) in
    string_at-length n more ∙ rw no refl

pub string_at-digits : (run : List ℕ) → list_all is_ascii_digit run ≡ true → string_at run ≡ Err (Truncated, [])
unfolding string_at
string_at-digits run digits =
    let size = prefix_len-all is_ascii_digit run digits in
    ap (string_after run (take (prefix_len is_ascii_digit run) run)) (drop_all _ run (omega arith))

-- whatever follows, a byte string is read only where it is spelled so
pub string_at-bad : (bytes run : List ℕ) (next : ℕ) (more : List ℕ) → Runs is_ascii_digit bytes run next more
    → ((next ≢ 58) ⊎ ((n : ℕ) → run ≢ base_ten n)) → string_at bytes ≡ Err (BadLength, bytes)
string_at-bad bytes run next more r why =
    let stop = false_from_ne_true (is_ascii_digit next) r.stops in
    let test : ((next == 58) && is_shortest run) ≡ false = false_from_ne_true _ (refused why) in
    ap string_at r.whole ∙ string_at-run run next more r.all stop
    ∙ rw test (ap (λ bs. Err (BadLength, bs)) (sym r.whole))
  where
    refused : ((next ≢ 58) ⊎ ((n : ℕ) → run ≢ base_ten n)) → ((next == 58) && is_shortest run) ≡ true → ⊥
    refused (inl other) e = other (let h = (and_parts (next == 58) (is_shortest run) e).0 in grind (arith, nat_tests))
    refused (inr none) e =
        none (number run) (sym (base_ten-number run r.all (and_parts (next == 58) (is_shortest run) e).1))

-- what is wrong with a byte string
abbrev pub IsBadString : List ℕ → Fault → List ℕ → Type 0
IsBadString bytes Truncated from = IsCutString bytes × (from ≡ [])
IsBadString bytes BadLength from = HasBadLength bytes × (from ≡ bytes)
IsBadString bytes fault from = ⊥

abbrev pub StringIs : List ℕ → Reading (List ℕ) → Type 0
StringIs bytes (Ok x) = bytes ≡ string_spelling x.0 ++ x.1
StringIs bytes (Err f) = IsBadString bytes f.0 f.1

module _ (bytes : List ℕ) (begins : BeginsWithDigit bytes) where
  run : List ℕ
  run = take (prefix_len is_ascii_digit bytes) bytes

  cut_run : (drop (prefix_len is_ascii_digit bytes) bytes) ≡ [] → IsCutString bytes
  cut_run e =
      let all : bytes ≡ take (prefix_len is_ascii_digit bytes) bytes =
      run_whole is_ascii_digit bytes [] e ∙ append-nil _ in
      inl (begins, subst (λ bs. list_all is_ascii_digit bs ≡ true) (sym all) (run_passes is_ascii_digit bytes))

  bad_length : (run : List ℕ) (c : ℕ) (more : List ℕ) → Runs is_ascii_digit bytes run c more
      → ((c == 58) && is_shortest run) ≡ false → HasBadLength bytes
  bad_length run c more r test = (
    begins,
    run,
    c,
    more,
    r,
    elim (cases_Bool (c == 58)) [
      | inl colon ↦ inr (λ n e. true≢false
          (sym (is_shortest-base_ten n) ∙ ap is_shortest (sym e) ∙ sym (ap (λ b. b && is_shortest run) colon) ∙ test))
      | inr other ↦ inl (λ e. grind (arith, nat_tests))
    ],
  )

  after_is : (after : List ℕ) → drop (prefix_len is_ascii_digit bytes) bytes ≡ after
      → StringIs bytes (string_after bytes (take (prefix_len is_ascii_digit bytes) bytes) after)
  after_is [] e = (cut_run e, refl)
  after_is (c ∷ more) e =
      let run = take (prefix_len is_ascii_digit bytes) bytes in
      let digits = run_passes is_ascii_digit bytes in
      let whole : bytes ≡ take (prefix_len is_ascii_digit bytes) bytes ++ c ∷ more =
      run_whole is_ascii_digit bytes (c ∷ more) e in
      let stop = run_stops is_ascii_digit bytes c more e in
      by_test ((c == 58) && is_shortest run) (StringIs bytes) _ _
      (λ good.
      let parts = and_parts (c == 58) (is_shortest run) good in
      let colon : c ≡ 58 = grind (arith, nat_tests) in
      let shortest = base_ten-number run digits parts.1 in
      by_test (nat_le (number run) (length more)) (StringIs bytes) _ _
      (λ fits.
      let size : length (take (number run) more) ≡ number run = simp length-take (grind (arith, nat_tests)) in
      whole ∙ ap₂ (λ (r : List ℕ) (x : ℕ). r ++ x ∷ more) (sym shortest) colon
      ∙ sym (string_spelled (take (number run) more) (drop (number run) more)
      ∙ ap₂ (λ (n : ℕ) (bs : List ℕ). base_ten n ++ 58 ∷ bs) size (take-append-drop (number run) more)))
      (λ short. (
        inr (
          number run,
          more,
          whole ∙ ap₂ (λ (r : List ℕ) (x : ℕ). r ++ x ∷ more) (sym shortest) colon
              ∙ sym (append_assoc (base_ten (number run)) (58 ∷ []) more),
          grind (arith, nat_tests),
        ),
        refl,
      )))
      (λ bad. (
        bad_length run c more (record { all = digits; stops = λ t. true≢false (sym t ∙ stop); whole = whole }) bad,
        refl,
      ))

pub string_sound : (bytes : List ℕ) → BeginsWithDigit bytes → StringIs bytes (string_at bytes)
unfolding string_at
string_sound bytes begins = after_is bytes begins (drop (prefix_len is_ascii_digit bytes) bytes) refl

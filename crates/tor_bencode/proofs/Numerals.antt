-- Numbers in base ten: what digits stand for, and the shortest digits of a number.
use Rattle.tor_bencode.proofs.Names.{◌≡◌, ℕ, zero, suc, ◌+◌, ◌-◌, ◌*◌, ◌/◌, ◌%◌, ◌^◌, ◌<◌, ◌≤◌, ℤ, pos, negsuc, List}
use Rattle.tor_bencode.proofs.Names.{[], ◌∷◌, ◌++◌, map, length, get_or, drop, true, not, ◌==◌, refl, sym, ap, ap₂, ◌∙◌}
use Rattle.tor_bencode.proofs.Names.{subst, append_assoc, arith, inl, inr, decimal, FitsSigned, is_ascii_digit}
use Rattle.tor_bencode.proofs.Names.{signed_decimal, w64, digits_of, number_from_digits_after, AllBelowBase, list_all}
use Rattle.tor_bencode.proofs.Names.{and_parts, false≢true, cases_lt, nat_tests, decimal_by_steps, ints, digits_of_step}
use Rattle.tor_bencode.proofs.Names.{number_digits_of, all_below_base_digits_of, first_digits_of, map-append}
use Rattle.tor_bencode.proofs.Names.{append-nil, drop_more, base_ten, signed_base_ten, number, number_after}
use Rattle.tor_bencode.proofs.Names.{is_shortest}

abbrev glyphs : List ℕ → List ℕ
glyphs = map (λ digit. 48 + digit)

abbrev values : List ℕ → List ℕ
values = map (λ c. c - 48)

pub digit_range : (c : ℕ) → is_ascii_digit c ≡ true → (48 ≤ c) × (c ≤ 57)
digit_range c h = grind (arith, nat_tests)

pub digit_from_range : (c : ℕ) → 48 ≤ c → c ≤ 57 → is_ascii_digit c ≡ true
digit_from_range c low high = grind (arith, nat_tests)

pub not_zero : (c : ℕ) → not (c == 48) ≡ true → c ≡ 48 → ⊥
not_zero c h e = grind (arith, nat_tests)

base_ten-positive : (n : ℕ) → 0 < n → base_ten n ≡ glyphs (digits_of 10 n)
unfolding base_ten
base_ten-positive zero h = absurd (omega arith)
base_ten-positive (suc n) h = refl

quotient : (n d : ℕ) → d < 10 → (n * 10 + d) / 10 ≡ n
quotient n d h = omega arith

remainder : (n d : ℕ) → d < 10 → (n * 10 + d) % 10 ≡ d
remainder n d h = omega arith

-- one digit more
digits_of_more : (n d : ℕ) → d < 10 → 0 < n * 10 + d → digits_of 10 (n * 10 + d) ≡ digits_of 10 n ++ d ∷ []
digits_of_more n d small more =
    digits_of_step 10 (n * 10 + d) (omega arith) more
    ∙ ap₂ (λ q r. digits_of 10 q ++ r ∷ []) (quotient n d small) (remainder n d small)

digits_of_one : (d : ℕ) → 0 < d → d < 10 → digits_of 10 d ≡ d ∷ []
digits_of_one d more small =
    let here : 0 * 10 + d ≡ d = omega arith in
    subst (λ n. digits_of 10 n ≡ d ∷ []) here (digits_of_more 0 d small (omega arith))

pub number_after-ge : (n : ℕ) (cs : List ℕ) → n ≤ number_after n cs
number_after-ge n [] = omega arith
number_after-ge n (c ∷ cs) = omega (arith, number_after-ge (n * 10 + (c - 48)) cs)

-- a number that is already too large stays so
pub too_large : (n m : ℕ) (digits : List ℕ) (i d bound : ℕ) → i < length digits → number_after n (drop i digits) ≡ m
    → (n * 10 + (get_or digits i d - 48) < bound → ⊥) → m < bound → ⊥
too_large n m digits i d bound within so_far large small =
    let rest = drop (i + 1) digits in
    let next = n * 10 + (get_or digits i d - 48) in
    let whole : m ≡ number_after next rest = sym so_far ∙ ap (number_after n) (drop_more digits i d within) in
    large (omega (arith, number_after-ge next rest))

digits_of_after : (n : ℕ) (cs : List ℕ) → 0 < n → list_all is_ascii_digit cs ≡ true
    → digits_of 10 (number_after n cs) ≡ digits_of 10 n ++ values cs
digits_of_after n [] more digits = sym (append-nil _)
digits_of_after n (c ∷ cs) more digits =
    let both = and_parts (is_ascii_digit c) (list_all is_ascii_digit cs) digits in
    let range = digit_range c both.0 in
    digits_of_after (n * 10 + (c - 48)) cs (omega arith) both.1
    ∙ ap (λ ds. ds ++ values cs) (digits_of_more n (c - 48) (omega arith) (omega arith))
    ∙ append_assoc (digits_of 10 n) ((c - 48) ∷ []) (values cs)

glyphs-values : (cs : List ℕ) → list_all is_ascii_digit cs ≡ true → glyphs (values cs) ≡ cs
glyphs-values [] digits = refl
glyphs-values (c ∷ cs) digits =
    let both = and_parts (is_ascii_digit c) (list_all is_ascii_digit cs) digits in
    let range = digit_range c both.0 in
    let here : 48 + (c - 48) ≡ c = omega arith in
    ap₂ (λ (x : ℕ) (xs : List ℕ). x ∷ xs) here (glyphs-values cs both.1)

base_ten-first : (c : ℕ) (cs : List ℕ) → 48 < c → list_all is_ascii_digit (c ∷ cs) ≡ true
    → base_ten (number (c ∷ cs)) ≡ c ∷ cs
unfolding number
base_ten-first c cs more digits =
    let both = and_parts (is_ascii_digit c) (list_all is_ascii_digit cs) digits in
    let range = digit_range c both.0 in
    let here : 0 * 10 + (c - 48) ≡ c - 48 = omega arith in
    let after : digits_of 10 (number_after (c - 48) cs) ≡ digits_of 10 (c - 48) ++ values cs =
    digits_of_after (c - 48) cs (omega arith) both.1 in
    ap (λ n. base_ten (number_after n cs)) here
    ∙ base_ten-positive (number_after (c - 48) cs) (omega (arith, number_after-ge (c - 48) cs))
    ∙ ap glyphs (after ∙ ap (λ ds. ds ++ values cs) (digits_of_one (c - 48) (omega arith) (omega arith)))
    ∙ glyphs-values (c ∷ cs) digits

base_ten-glyph : (c : ℕ) → c ≡ 48 → base_ten (number (c ∷ [])) ≡ c ∷ []
unfolding base_ten number
base_ten-glyph c e = subst (λ x. base_ten (number (x ∷ [])) ≡ x ∷ []) (sym e) refl

-- shortest digits are those of the number that they stand for
pub base_ten-number : (run : List ℕ) → list_all is_ascii_digit run ≡ true → is_shortest run ≡ true
    → base_ten (number run) ≡ run
base_ten-number [] digits shortest = absurd (false≢true shortest)
base_ten-number (c ∷ []) digits shortest =
    let range = digit_range c (and_parts (is_ascii_digit c) true digits).0 in
    elim (cases_lt 48 c) [
      | inl above ↦ base_ten-first c [] above digits
      | inr below ↦ base_ten-glyph c (omega arith)
    ]
base_ten-number (c ∷ d ∷ cs) digits shortest =
    let range = digit_range c (and_parts (is_ascii_digit c) (list_all is_ascii_digit (d ∷ cs)) digits).0 in
    elim (cases_lt 48 c) [
      | inl above ↦ base_ten-first c (d ∷ cs) above digits
      | inr below ↦ absurd (not_zero c shortest (omega arith))
    ]

number_after-glyphs : (n : ℕ) (ds : List ℕ) → number_after n (glyphs ds) ≡ number_from_digits_after 10 n ds
number_after-glyphs n [] = refl
number_after-glyphs n (d ∷ ds) =
    let here : n * 10 + (48 + d - 48) ≡ n * 10 + d = omega arith in
    ap (λ m. number_after m (glyphs ds)) here ∙ number_after-glyphs (n * 10 + d) ds

-- the digits of a number stand for it
pub number-base_ten : (n : ℕ) → number (base_ten n) ≡ n
unfolding base_ten number
number-base_ten zero = refl
number-base_ten (suc n) = number_after-glyphs 0 (digits_of 10 (suc n)) ∙ number_digits_of 10 (suc n) (omega arith)

all_digits-glyphs : (ds : List ℕ) → AllBelowBase 10 ds → list_all is_ascii_digit (glyphs ds) ≡ true
all_digits-glyphs [] h = refl
all_digits-glyphs (d ∷ ds) h =
    let small = h.0 in rw (digit_from_range (48 + d) (omega arith) (omega arith)) (all_digits-glyphs ds h.1)

pub all_digits-base_ten : (n : ℕ) → list_all is_ascii_digit (base_ten n) ≡ true
unfolding base_ten
all_digits-base_ten zero = refl
all_digits-base_ten (suc n) = all_digits-glyphs _ (all_below_base_digits_of 10 (suc n) (omega arith))

is_shortest-glyphs : (ds : List ℕ) → 0 < get_or ds 0 0 → is_shortest (glyphs ds) ≡ true
is_shortest-glyphs [] h = absurd (omega arith)
is_shortest-glyphs (d ∷ []) h = refl
is_shortest-glyphs (d ∷ e ∷ ds) h = grind (arith, nat_tests)

pub is_shortest-base_ten : (n : ℕ) → is_shortest (base_ten n) ≡ true
unfolding base_ten
is_shortest-base_ten zero = refl
is_shortest-base_ten (suc n) =
    is_shortest-glyphs (digits_of 10 (suc n)) (first_digits_of 10 (suc n) (omega arith) (omega arith))

base_ten-digit : (n : ℕ) → n < 10 → base_ten n ≡ (48 + n) ∷ []
unfolding base_ten
base_ten-digit zero small = refl
base_ten-digit (suc n) small = ap glyphs (digits_of_one (suc n) (omega arith) small)

base_ten-step : (n : ℕ) (ds : List ℕ) → 10 ≤ n → base_ten (n / 10) ≡ ds → base_ten n ≡ ds ++ (48 + n % 10) ∷ []
base_ten-step n ds large front =
    base_ten-positive n (omega arith)
    ∙ ap glyphs (digits_of_step 10 n (omega arith) (omega arith))
    ∙ map-append (λ digit. 48 + digit) (digits_of 10 (n / 10)) (n % 10 ∷ [])
    ∙ ap (λ xs. xs ++ (48 + n % 10) ∷ []) (sym (base_ten-positive (n / 10) (omega arith)) ∙ front)

-- what is printed for a number of 64 bits
pub base_ten-decimal : (n : ℕ) → n < 2 ^ 64 → base_ten n ≡ decimal n
base_ten-decimal = decimal_by_steps (λ n ds. base_ten n ≡ ds) base_ten-digit base_ten-step

pub signed_base_ten-decimal : (z : ℤ) → FitsSigned w64 z → signed_base_ten z ≡ signed_decimal z
signed_base_ten-decimal (pos n) fits = base_ten-decimal n (omega (arith, ints, fits))
signed_base_ten-decimal (negsuc n) fits = ap (λ xs. 45 ∷ xs) (base_ten-decimal (suc n) (omega (arith, ints, fits)))

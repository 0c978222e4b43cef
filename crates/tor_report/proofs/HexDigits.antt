-- Hexadecimal digits.
use Rattle.std.proofs.Common.{◌≡◌, ◌∙◌, refl, sym, ap, ℕ, zero, suc, ◌+◌, ◌/◌, ◌%◌, ◌^◌, ◌<◌, Bool, true, false}
use Rattle.std.proofs.Common.{List, [], ◌∷◌, ◌++◌}
use Rattle.std.proofs.Common.{arith, inl, inr, length, take, drop, get_or, append_assoc, Fits, w8}
use Rattle.std.proofs.Math.Seq.{take-suc}
use Rattle.std.proofs.lemmas.List.{take-append-drop}
use Rattle.std.proofs.lemmas.Bool.{cases_lt, eqb-true}
use Rattle.std.specs.Char.{digit_char}
use Rattle.std.specs.Prelude.{◌==◌, ◌&&◌, nat_lt, not, slice_index}
use Rattle.hex.specs.Hex.{IsBytes, encode_lower, encode_with, lower_digits}
use Rattle.json.specs.Print.{escape, escape_byte, escape_letter}
use Rattle.tor_report.proofs.Spellings.{spelled_append}
use Rattle.tor_report.specs.Escape.{code_of}
use Rattle.tor_report.specs.Spelled.{spelled}
use Rattle.tor_report.specs.declared.spelling.Spelling.TheVariants.{InJson}

-- the digit of a value, in the table and as `digit_char` has it, of all values below this
same_below : ℕ → Bool
same_below zero = true
same_below (suc n) = (slice_index lower_digits n == digit_char n) && same_below n

is_false : (b : Bool) → not b ≡ true → b ≡ false
is_false true same = absurd cc
is_false false same = refl

both : (a b : Bool) → (a && b) ≡ true → (a ≡ true) × (b ≡ true)
both true b same = (refl, same)
both false b same = absurd cc

same_at : (n k : ℕ) → same_below n ≡ true → k < n → slice_index lower_digits k ≡ digit_char k
unfolding same_below
same_at zero k same below = absurd (omega arith)
same_at (suc n) k same below =
    let parts = both (slice_index lower_digits n == digit_char n) (same_below n) same in
    elim (cases_lt k n) [
      | inl lower ↦ same_at n k parts.1 lower
      | inr top ↦
          let is : k ≡ n = omega arith in
          rw is (eqb-true (slice_index lower_digits n) (digit_char n) parts.0)
    ]

pub digit_of : (value : ℕ) → value < 16 → slice_index lower_digits value ≡ digit_char value
unfolding same_below
digit_of value below = same_at 16 value refl below

pub no_digits : encode_lower [] ≡ []
unfolding encode_with
no_digits = refl

pub encode_append : (t xs ys : List ℕ) → encode_with t (xs ++ ys) ≡ encode_with t xs ++ encode_with t ys
unfolding encode_with
encode_append t [] ys = refl
encode_append t (x ∷ xs) ys =
    ap (λ (rest : List ℕ). slice_index t (x / 16) ∷ slice_index t (x % 16) ∷ rest) (encode_append t xs ys)

encode_one : (t : List ℕ) (byte : ℕ)
    → encode_with t (byte ∷ []) ≡ slice_index t (byte / 16) ∷ slice_index t (byte % 16) ∷ []
unfolding encode_with
encode_one t byte = refl

next : (index : ℕ) → suc index ≡ index + 1
next index = omega arith

-- the digits of one more byte
pub digits_more : (bytes : List ℕ) (index high low : ℕ) → index < length bytes
    → high ≡ slice_index lower_digits (get_or bytes index 0 / 16)
    → low ≡ slice_index lower_digits (get_or bytes index 0 % 16)
    → encode_lower (take index bytes) ++ (high ∷ low ∷ []) ≡ encode_lower (take (index + 1) bytes)
digits_more bytes index high low within a b =
    let byte = get_or bytes index 0 in
    ap (λ (xs : List ℕ). encode_lower (take index bytes) ++ xs)
    (rw (a, b) (sym (encode_one lower_digits byte)))
    ∙ sym (encode_append lower_digits (take index bytes) (byte ∷ []))
    ∙ ap encode_lower (sym (take-suc bytes index 0 within) ∙ ap (λ count. take count bytes) (next index))

-- and those of the bytes after it
pub digits_rest : (bytes : List ℕ) (index high low : ℕ) → index < length bytes
    → high ≡ slice_index lower_digits (get_or bytes index 0 / 16)
    → low ≡ slice_index lower_digits (get_or bytes index 0 % 16)
    → encode_lower (take index bytes) ++ ((high ∷ low ∷ []) ++ encode_lower (drop (index + 1) bytes))
    ≡ encode_lower bytes
digits_rest bytes index high low within a b =
    sym (append_assoc (encode_lower (take index bytes)) (high ∷ low ∷ []) (encode_lower (drop (index + 1) bytes)))
    ∙ ap (λ (xs : List ℕ). xs ++ encode_lower (drop (index + 1) bytes)) (digits_more bytes index high low within a b)
    ∙ sym (encode_append lower_digits (take (index + 1) bytes) (drop (index + 1) bytes))
    ∙ ap encode_lower (take-append-drop (index + 1) bytes)

-- ---- in a string of JSON

-- a digit stands for itself there, as do all below it
plain_below : ℕ → Bool
plain_below zero = true
plain_below (suc n) =
    (not (nat_lt 0 (escape_letter (slice_index lower_digits n))) && not (nat_lt (slice_index lower_digits n) 32))
    && plain_below n

plain_at : (n k : ℕ) → plain_below n ≡ true → k < n
    → (nat_lt 0 (escape_letter (slice_index lower_digits k)) ≡ false)
    × (nat_lt (slice_index lower_digits k) 32 ≡ false)
unfolding plain_below
plain_at zero k same below = absurd (omega arith)
plain_at (suc n) k same below =
    let parts =
    both
    (not (nat_lt 0 (escape_letter (slice_index lower_digits n))) && not (nat_lt (slice_index lower_digits n) 32))
    (plain_below n) same in
    let tests =
    both (not (nat_lt 0 (escape_letter (slice_index lower_digits n)))) (not (nat_lt (slice_index lower_digits n) 32))
    parts.0 in
    elim (cases_lt k n) [
      | inl lower ↦ plain_at n k parts.1 lower
      | inr top ↦
          let is : k ≡ n = omega arith in
          rw is (
            is_false (nat_lt 0 (escape_letter (slice_index lower_digits n))) tests.0,
            is_false (nat_lt
                (slice_index lower_digits n) 32) tests.1,
          )
    ]

plain_digit : (value : ℕ) → value < 16
    → escape_byte (slice_index lower_digits value) ≡ slice_index lower_digits value ∷ []
unfolding escape_byte plain_below
plain_digit value below =
    let tests = plain_at 16 value refl below in rw (tests.0, tests.1) refl

pub digits_in_json : (bytes : List ℕ) → IsBytes bytes → escape (encode_lower bytes) ≡ encode_lower bytes
unfolding encode_with
digits_in_json [] low = refl
digits_in_json (byte ∷ bytes) low =
    let high = plain_digit (byte / 16) (let here = low 0 in omega (arith, here)) in
    let last = plain_digit (byte % 16) (omega arith) in
    ap (λ (xs : List ℕ). xs ++ escape (slice_index lower_digits (byte % 16) ∷ encode_lower bytes)) high
    ∙ ap (λ (xs : List ℕ). slice_index lower_digits (byte / 16) ∷ (xs ++ escape (encode_lower bytes))) last
    ∙ ap
    (λ (xs : List ℕ). slice_index lower_digits (byte / 16) ∷ slice_index lower_digits (byte % 16) ∷ xs)
    (digits_in_json bytes (λ k. low (suc k)))

pub code_in_json : (before bytes : List ℕ) → IsBytes bytes
    → spelled InJson before ++ encode_lower bytes ≡ escape (before ++ encode_lower bytes)
code_in_json before bytes low =
    ap (λ (xs : List ℕ). spelled InJson before ++ xs) (sym (digits_in_json bytes low))
    ∙ sym (spelled_append InJson before (encode_lower bytes))

-- what a type says of bytes
pub are_bytes : (bytes : List ℕ) → ((index : ℕ) → Fits w8 (get_or bytes index 0)) → IsBytes bytes
are_bytes bytes fit index = let low = fit index in omega (arith, low)

-- a byte by its two digits is there with one more backslash
pub written_in_json : (byte : ℕ) → byte < 2 ^ 8
    → escape (code_of byte) ≡ 92 ∷ 92 ∷ 120 ∷ digit_char (byte / 16) ∷ digit_char (byte % 16) ∷ []
unfolding escape_byte
written_in_json byte low =
    let high : byte / 16 < 16 = omega (arith, low) in
    let last : byte % 16 < 16 = omega arith in
    let first = ap (λ d. escape_byte d) (sym (digit_of (byte / 16) high)) ∙ plain_digit (byte / 16) high
    ∙ ap (λ d. d ∷ []) (digit_of (byte / 16) high) in
    let second = ap (λ d. escape_byte d) (sym (digit_of (byte % 16) last)) ∙ plain_digit (byte % 16) last
    ∙ ap (λ d. d ∷ []) (digit_of (byte % 16) last) in
    ap (λ (xs : List ℕ). 92 ∷ 92 ∷ 120 ∷ (xs ++ (escape_byte (digit_char (byte % 16)) ++ []))) first
    ∙ ap (λ (xs : List ℕ). 92 ∷ 92 ∷ 120 ∷ digit_char (byte / 16) ∷ (xs ++ [])) second

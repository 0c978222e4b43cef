-- Numbers in base ten.
use Rattle.std.proofs.Common.{◌≡◌, ℕ, zero, suc, ◌+◌, ◌/◌, ◌%◌, ◌^◌, ◌<◌, ◌≤◌, Bool, true, false, List, [], ◌∷◌, ◌++◌}
use Rattle.std.proofs.Common.{length, Result, Ok, refl, sym, ap, ◌∙◌, subst, arith}
use Rattle.std.specs.Char.{is_ascii_digit}
use Rattle.std.specs.List.{list_all, prefix_len}
use Rattle.std.specs.Prelude.{decimal}
use Rattle.std.specs.Str.{IsUtf8}
use Rattle.std.specs.Str.Parse.{ParsesUnsigned}
use Rattle.std.proofs.lemmas.Fmt.{decimal_digit, decimal-digits_of, parse-decimal, IsAscii-decimal, decimal_by_steps}
use Rattle.std.proofs.lemmas.Bool.{and_parts}
use Rattle.std.proofs.lemmas.Bool.Decides.{nat_tests}
use Rattle.std.proofs.lemmas.List.Folds.{list_all-append}
use Rattle.std.proofs.lemmas.Str.{IsUtf8-from_ascii}
use Rattle.tor_bencode.specs.Spelling.{base_ten}

-- what is printed for a number of 64 bits
pub base_ten_decimal : (n : ℕ) → n < 2 ^ 64 → base_ten n ≡ decimal n
unfolding base_ten
base_ten_decimal zero small = sym (decimal_digit 0 (omega arith))
base_ten_decimal (suc n) small = sym (decimal-digits_of (suc n) (omega arith) small)

-- is a text
pub base_ten-text : (n : ℕ) (bs : List ℕ) → n < 2 ^ 64 → base_ten n ≡ bs → IsUtf8 bs
base_ten-text n bs small same =
    subst (λ (xs : List ℕ). IsUtf8 xs) (sym (base_ten_decimal n small) ∙ same)
    (IsUtf8-from_ascii _ (IsAscii-decimal n small))

-- and is parsed as the number
pub base_ten-parsed : {E : Type 0} (n : ℕ) (bs : List ℕ) (r : Result ℕ E) → n < 2 ^ 64 → base_ten n ≡ bs
    → ParsesUnsigned 64 10 bs r → r ≡ Ok n
base_ten-parsed n bs r small same parses =
    parse-decimal 64 n bs r small small (sym same ∙ base_ten_decimal n small) parses

digit_passes : (d : ℕ) → d < 10 → is_ascii_digit (48 + d) ≡ true
digit_passes d small = grind (arith, nat_tests)

abbrev AreDigits : ℕ → List ℕ → Type 0
AreDigits _ ds = list_all is_ascii_digit ds ≡ true

one_digit : (d : ℕ) → d < 10 → AreDigits d ((48 + d) ∷ [])
one_digit d small = rw (digit_passes d small) refl

more_digits : (n : ℕ) (ds : List ℕ) → 10 ≤ n → AreDigits (n / 10) ds → AreDigits n (ds ++ (48 + n % 10) ∷ [])
more_digits n ds large front =
    list_all-append is_ascii_digit ds ((48 + n % 10) ∷ [])
    ∙ rw front (one_digit (n % 10) (omega arith))

digits-base_ten : (n : ℕ) → n < 2 ^ 64 → list_all is_ascii_digit (base_ten n) ≡ true
digits-base_ten n small =
    rw (base_ten_decimal n small) (decimal_by_steps AreDigits one_digit more_digits n small)

prefix_len-ends : (p : ℕ → Bool) (xs rest : List ℕ) (c : ℕ) → list_all p xs ≡ true → p c ≡ false
    → prefix_len p (xs ++ c ∷ rest) ≡ length xs
prefix_len-ends p [] rest c all ends = rw ends refl
prefix_len-ends p (x ∷ xs) rest c all ends =
    let both = and_parts (p x) (list_all p xs) all in
    rw both.0 (omega (arith, prefix_len-ends p xs rest c both.1 ends))

-- how many digits stand before what is none
pub count_digits-before : (ending n : ℕ) (line rest : List ℕ) → is_ascii_digit ending ≡ false → n < 2 ^ 64
    → line ≡ base_ten n ++ ending ∷ rest → prefix_len is_ascii_digit line ≡ length (base_ten n)
count_digits-before ending n line rest none small same =
    ap (prefix_len is_ascii_digit) same
    ∙ prefix_len-ends is_ascii_digit (base_ten n) rest ending (digits-base_ten n small) none

-- and before a line feed
pub count_digits-base_ten : (n : ℕ) (line rest : List ℕ) → n < 2 ^ 64 → line ≡ base_ten n ++ 10 ∷ rest
    → prefix_len is_ascii_digit line ≡ length (base_ten n)
count_digits-base_ten n line rest small same = count_digits-before 10 n line rest refl small same

-- What stands in a line for a text has no control byte.
use Rattle.std.proofs.Common.{◌≡◌, ◌≢◌, ℕ, ◌≤◌, ◌<◌, ◌/◌, ◌%◌, Bool, true, false, cond, List, [], ◌∷◌, refl, arith}
use Rattle.std.proofs.lemmas.Bool.Decides.{nat_tests}
use Rattle.std.proofs.lemmas.List.Elements.{All-append, All-from_recursion, All-nil}
use Rattle.std.specs.Char.{digit_char}
use Rattle.std.specs.List.{All}
use Rattle.tor_report.specs.Escape.{backslash, delete, escape, escaped, is_escaped, letter_x}

abbrev IsPlain : ℕ → Type 0
IsPlain byte = (32 ≤ byte) × (byte ≢ delete)

least_digit : (d : ℕ) → d < 16 → 32 ≤ digit_char d
least_digit d h = grind (arith, nat_tests)

no_delete_digit : (d : ℕ) → d < 16 → digit_char d ≢ delete
no_delete_digit d h = grind (arith, nat_tests)

digit : (d : ℕ) → d < 16 → IsPlain (digit_char d)
digit d h = (least_digit d h, no_delete_digit d h)

least_kept : (b : ℕ) → is_escaped b ≡ false → 32 ≤ b
least_kept b h = grind (arith, nat_tests)

no_delete_kept : (b : ℕ) → is_escaped b ≡ false → b ≢ delete
no_delete_kept b h = grind (arith, nat_tests)

small : (b : ℕ) → is_escaped b ≡ true → b < 128
small b h = grind (arith, nat_tests)

letter_plain : (b : ℕ) → 32 ≤ b → b < delete → IsPlain b
letter_plain b h k = (h, λ same. omega (arith, k, same))

of_byte : (b : ℕ) (t : Bool) → is_escaped b ≡ t →
    All IsPlain (cond t (backslash ∷ letter_x ∷ digit_char (b / 16) ∷ digit_char (b % 16) ∷ []) (b ∷ []))
of_byte b true h = All-from_recursion IsPlain (backslash ∷ letter_x ∷ digit_char (b / 16) ∷ digit_char (b % 16) ∷ []) (
  letter_plain backslash (omega arith) (omega arith),
  (
    letter_plain letter_x (omega arith) (omega arith),
    (digit (b / 16) (omega (arith, small b h)), (digit (b % 16) (omega arith), tt)),
  ),
)
of_byte b false h = All-from_recursion IsPlain (b ∷ []) ((least_kept b h, no_delete_kept b h), tt)

pub plain : (text : List ℕ) → All (λ byte. (32 ≤ byte) × (byte ≢ delete)) (escaped text)
plain [] = All-nil IsPlain
plain (b ∷ bs) = All-append IsPlain (escape b) (escaped bs) (of_byte b (is_escaped b) refl) (plain bs)

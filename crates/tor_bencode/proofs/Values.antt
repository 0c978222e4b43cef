-- A value is read by the byte that it begins with.
use Rattle.tor_bencode.proofs.Names.{◌≡◌, ℕ, ◌-◌, ◌<◌, List, [], ◌∷◌, length, get_or, None, Ok, Err, true, false, ◌==◌}
use Rattle.tor_bencode.proofs.Names.{refl, sym, ap, ap₂, take, drop, ◌∙◌, arith, inl, inr, ◌⊎◌, nat_tests, Truncated}
use Rattle.tor_bencode.proofs.Names.{TooDeep, BadByte, integer, string, list, dictionary, ◌>>=◌, value_at, value_with}
use Rattle.tor_bencode.proofs.Names.{nested_at, items_at, pairs_at, string_at, integer_at, is_ascii_digit}
use Rattle.tor_bencode.proofs.Loops.{nested_at-positive}
use Rattle.tor_bencode.proofs.Runs.{take_rest}

-- the first byte, and the others
split : (bytes : List ℕ) (c : ℕ) → 0 < length bytes → get_or bytes 0 0 ≡ c
    → bytes ≡ c ∷ take (length bytes - 1) (drop 1 bytes)
split [] c some is = absurd (omega arith)
split (d ∷ rest) c some is = ap₂ (λ x xs. x ∷ xs) is (sym (take_rest d rest))

value_opens : (room : ℕ) (bytes : List ℕ) → value_at room bytes ≡ value_with (nested_at room) bytes
unfolding value_at
value_opens room bytes = refl

nested_at-none : (room : ℕ) → room ≡ 0 → nested_at room ≡ None
unfolding nested_at
nested_at-none room e = ap nested_at e

-- a value, by the byte that it begins with
module _ (room : ℕ) (bytes : List ℕ) (some : 0 < length bytes) where
  abbrev rest : List ℕ
  rest = take (length bytes - 1) (drop 1 bytes)

  begins : (c : ℕ) → get_or bytes 0 0 ≡ c → value_at room bytes ≡ value_with (nested_at room) (c ∷ rest)
  begins c is = value_opens room bytes ∙ ap (value_with (nested_at room)) (split bytes c some is)

  pub value_integer : get_or bytes 0 0 ≡ 105
      → value_at room bytes ≡ (integer_at bytes rest >>= λ n. Ok (integer n.0, n.1))
  value_integer is =
      begins 105 is ∙ ap (λ bs. integer_at bs rest >>= λ n. Ok (integer n.0, n.1)) (sym (split bytes 105 some is))

  pub value_list : 0 < room → get_or bytes 0 0 ≡ 108 → value_at room bytes
      ≡ (items_at (value_at (room - 1)) (length rest) rest >>= λ items. Ok (list items.0, items.1))
  value_list more is = begins 108 is ∙ rw (nested_at-positive room more) refl

  pub value_dictionary : 0 < room → get_or bytes 0 0 ≡ 100 → value_at room bytes
      ≡ (pairs_at (value_at (room - 1)) (length rest) None rest >>= λ pairs. Ok (dictionary pairs.0, pairs.1))
  value_dictionary more is = begins 100 is ∙ rw (nested_at-positive room more) refl

  pub value_too_deep : room ≡ 0 → (get_or bytes 0 0 ≡ 108) ⊎ (get_or bytes 0 0 ≡ 100)
      → value_at room bytes ≡ Err (TooDeep, bytes)
  value_too_deep none (inl is) =
      begins 108 is ∙ rw (nested_at-none room none) (ap (λ bs. Err (TooDeep, bs)) (sym (split bytes 108 some is)))
  value_too_deep none (inr is) =
      begins 100 is ∙ rw (nested_at-none room none) (ap (λ bs. Err (TooDeep, bs)) (sym (split bytes 100 some is)))

pub value_string : (room : ℕ) (bytes : List ℕ) → 0 < length bytes → is_ascii_digit (get_or bytes 0 0) ≡ true
    → value_at room bytes ≡ (string_at bytes >>= λ text. Ok (string text.0, text.1))
value_string room [] some digit = absurd (omega arith)
value_string room (c ∷ rest) some digit =
    let no_integer : (c == 105) ≡ false =
    grind (arith, nat_tests) in value_opens room (c ∷ rest) ∙ rw (no_integer, digit) refl

pub value_empty : (room : ℕ) → value_at room [] ≡ Err (Truncated, [])
value_empty room = value_opens room []

pub value_bad : (room : ℕ) (c : ℕ) (rest : List ℕ) → is_ascii_digit c ≡ false → (c == 105) ≡ false
    → (c == 108) ≡ false → (c == 100) ≡ false
    → value_at room (c ∷ rest) ≡ Err (BadByte, c ∷ rest)
value_bad room c rest digit i l d = value_opens room (c ∷ rest) ∙ rw (i, digit, l, d) refl

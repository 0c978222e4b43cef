-- Digits are a name without fault.
use Rattle.std.proofs.Common.{◌≡◌, ℕ, ◌+◌, ◌%◌, ◌^◌, ◌<◌, ◌≤◌, true, false, eqb, ◌||◌, ◌&&◌, List, [], ◌∷◌, ◌++◌}
use Rattle.std.proofs.Common.{length, None, codes, decimal, arith, refl, ap, ap₂, length-append}
use Rattle.std.proofs.lemmas.Bool.{ne_eqb}
use Rattle.std.proofs.lemmas.Bool.Decides.{nat_tests}
use Rattle.std.proofs.lemmas.Fmt.{decimal_by_steps, IsAscii-decimal}
use Rattle.std.proofs.lemmas.Str.{IsUtf8-from_ascii, is_utf8-from_IsUtf8}
use Rattle.std.proofs.lemmas.Str.Ascii.{IsAscii-cons, IsAscii-nil}
use Rattle.std.specs.Str.{IsAscii, bytes_eq, is_utf8}
use Rattle.tor_tree.specs.Name.{name_fault, has_byte}

faultless : (name : List ℕ) → eqb (length name) 0 ≡ false → bytes_eq name (codes ".") ≡ false
    → bytes_eq name (codes "..") ≡ false
    → has_byte 47 name ≡ false → has_byte 0 name ≡ false → is_utf8 name ≡ true → name_fault name ≡ None
faultless name some one two slash zero text = rw (some, one, two, slash, zero, text)

AreDigits : List ℕ → Type 0
AreDigits [] = Unit {0}
AreDigits (d ∷ ds) = (48 ≤ d) × (d < 58) × AreDigits ds

AreDigits-append : (ds es : List ℕ) → AreDigits ds → AreDigits es → AreDigits (ds ++ es)
unfolding AreDigits
AreDigits-append [] es first second = second
AreDigits-append (d ∷ ds) es first second = (first.0, first.1, AreDigits-append ds es first.2 second)

no_byte : (b : ℕ) (ds : List ℕ) → b < 48 → AreDigits ds → has_byte b ds ≡ false
unfolding AreDigits
no_byte b [] low digits = refl
no_byte b (d ∷ ds) low digits =
    let other : eqb d b ≡ false = grind (arith, nat_tests) in
    ap₂ (λ x y. x || y) other (no_byte b ds low digits.2)

record IsNumber (n : ℕ) (ds : List ℕ) : Type 0 where
  pub some : 0 < length ds
  pub digits : AreDigits ds

decimal-digits : (n : ℕ) → n < 2 ^ 64 → IsNumber n (decimal n)
unfolding AreDigits
decimal-digits = decimal_by_steps IsNumber
    (λ n lt. record { some = omega arith; digits = (omega arith, omega arith, tt) })
    (λ n ds le is. record {
      some = omega (arith, length-append ds ((48 + n % 10) ∷ []));
      digits = AreDigits-append ds _ is.digits (omega arith, omega arith, tt);
    })

number_faultless : (n : ℕ) (ds : List ℕ) → IsNumber n ds → is_utf8 ds ≡ true → name_fault ds ≡ None
unfolding AreDigits
number_faultless n [] is text = absurd (omega (arith, is.some))
number_faultless n (d ∷ ds) is text =
    let dot : eqb d 46 ≡ false = ne_eqb d 46 (λ e. omega (arith, is.digits.0)) in
    faultless (d ∷ ds) (ne_eqb (length (d ∷ ds)) 0 (λ e. omega (arith, is.some)))
    (ap (λ b. b && bytes_eq ds []) dot) (ap (λ b. b && bytes_eq ds (codes ".")) dot)
    (no_byte 47 (d ∷ ds) (omega arith) is.digits) (no_byte 0 (d ∷ ds) (omega arith) is.digits) text

pub decimal_faultless : (n : ℕ) → n < 2 ^ 64 → name_fault (decimal n) ≡ None
decimal_faultless n lt =
    number_faultless n (decimal n) (decimal-digits n lt)
    (is_utf8-from_IsUtf8 (decimal n) (IsUtf8-from_ascii (decimal n) (IsAscii-decimal n lt)))

pad_ascii : IsAscii (codes ".pad")
pad_ascii =
    IsAscii-cons 46 (112 ∷ 97 ∷ 100 ∷ []) (omega arith) (IsAscii-cons 112 (97 ∷ 100 ∷ []) (omega arith)
    (IsAscii-cons 97 (100 ∷ []) (omega arith) (IsAscii-cons 100 [] (omega arith) IsAscii-nil)))

pub pad_faultless : name_fault (codes ".pad") ≡ None
pad_faultless = faultless (codes ".pad") refl refl refl refl refl
    (is_utf8-from_IsUtf8 (codes ".pad") (IsUtf8-from_ascii (codes ".pad") pad_ascii))

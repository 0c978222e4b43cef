-- A character that is not written out keeps its bytes.
use Rattle.std.proofs.Common.{◌≡◌, ℕ, ◌≤◌, ◌+◌, ◌/◌, ◌%◌, Bool, true, false, cond, List, [], ◌∷◌, ◌++◌, refl, ap}
use Rattle.std.proofs.Common.{◌∙◌, arith}
use Rattle.std.proofs.lemmas.Bool.Decides.{nat_tests}
use Rattle.std.proofs.Math.Utf8.{encode}
use Rattle.std.proofs.lemmas.Str.{IsUtf8-from_is_utf8, is_utf8-from_IsUtf8}
use Rattle.std.specs.Str.{IsUtf8, is_utf8}
use Rattle.std.specs.Prelude.{nat_lt}
use Rattle.tor_report.specs.Escape.{escape, escaped, is_escaped}

high_plain : (b : ℕ) → 128 ≤ b → is_escaped b ≡ false
high_plain b h = grind (arith, nat_tests)

plain_stays : (b : ℕ) → is_escaped b ≡ false → escape b ≡ b ∷ []
plain_stays b h = rw h

plain_cons : (b : ℕ) (bs : List ℕ) → is_escaped b ≡ false → escaped bs ≡ bs → escaped (b ∷ bs) ≡ b ∷ bs
plain_cons b bs h k = ap (λ (t : List ℕ). t ++ escaped bs) (plain_stays b h) ∙ ap (λ (t : List ℕ). b ∷ t) k

high_cons : (b : ℕ) (bs : List ℕ) → 128 ≤ b → escaped bs ≡ bs → escaped (b ∷ bs) ≡ b ∷ bs
high_cons b bs h k = plain_cons b bs (high_plain b h) k

either : (b : Bool) (x y : List ℕ) → escaped x ≡ x → escaped y ≡ y → escaped (cond b x y) ≡ cond b x y
either true x y h k = h
either false x y h k = k

-- a byte that goes on a character
next : ℕ → ℕ
next bits = 128 + bits % 64

last : (bits : ℕ) → escaped (next bits ∷ []) ≡ next bits ∷ []
unfolding next
last bits = high_cons (128 + bits % 64) [] (omega arith) refl

goes_on : (bits : ℕ) (bs : List ℕ) → escaped bs ≡ bs → escaped (next bits ∷ bs) ≡ next bits ∷ bs
unfolding next
goes_on bits bs h = high_cons (128 + bits % 64) bs (omega arith) h

pub plain_char : (c : ℕ) → is_escaped c ≡ false → escaped (encode c) ≡ encode c
unfolding encode next
plain_char c h =
    either (nat_lt c 128) _ _ (plain_cons c [] h refl)
    (either (nat_lt c 2048) _ _ (high_cons (192 + c / 64) _ (omega arith) (last c))
    (either (nat_lt c 65536) _ _ (high_cons (224 + c / 4096) _ (omega arith) (goes_on (c / 64) _ (last c)))
    (high_cons (240 + c / 262144) _ (omega arith) (goes_on (c / 4096) _ (goes_on (c / 64) _ (last c))))))

-- whether bytes are text, as a test
pub is_text : (bytes : List ℕ) → IsUtf8 bytes → is_utf8 bytes ≡ true
is_text bytes is = is_utf8-from_IsUtf8 bytes is

pub is_no_text : (bytes : List ℕ) → (IsUtf8 bytes → ⊥) → is_utf8 bytes ≡ false
is_no_text bytes other = by_test (is_utf8 bytes) refl
  where
    by_test : (t : Bool) → is_utf8 bytes ≡ t → t ≡ false
    by_test true e = absurd (other (IsUtf8-from_is_utf8 bytes e))
    by_test false e = refl

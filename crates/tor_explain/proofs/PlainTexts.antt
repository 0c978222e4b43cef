-- A character that is no control byte has none among its bytes.
use Rattle.std.proofs.Common.{◌≡◌, ℕ, ◌+◌, ◌/◌, ◌%◌, ◌≤◌, Bool, true, false, cond, List, ◌++◌, length}
use Rattle.std.proofs.Common.{arith}
use Rattle.std.proofs.Common.{◌<◌, ap, Result, Ok, Err}
use Rattle.std.specs.Result.{IsOk, OnOk}
use Rattle.std.proofs.Math.Utf8.{encode}
use Rattle.std.proofs.lemmas.Bool.Decides.{nat_tests}
use Rattle.std.proofs.lemmas.List.{length-append}
use Rattle.std.proofs.lemmas.List.Elements.{All-append, All-from_recursion}
use Rattle.std.specs.List.{AllByRecursion}
use Rattle.std.specs.Prelude.{nat_lt}
use Rattle.tor_explain.specs.Plain.{IsPlain, IsPlainText, is_control}

abbrev ArePlain : List ℕ → Type 0
ArePlain = AllByRecursion IsPlain

plain_byte : (c : ℕ) → is_control c ≡ false → IsPlain c
plain_byte c h = (grind (arith, nat_tests), grind (arith, nat_tests))

high_byte : (b : ℕ) → 128 ≤ b → IsPlain b
high_byte b h = (omega arith, λ same. omega arith)

either : (b : Bool) (x y : List ℕ) → ArePlain x → ArePlain y → ArePlain (cond b x y)
either true x y h k = h
either false x y h k = k

-- a byte that goes on a character
next : ℕ → ℕ
next bits = 128 + bits % 64

next_plain : (bits : ℕ) → IsPlain (next bits)
unfolding next
next_plain bits = high_byte (128 + bits % 64) (omega arith)

plain_bytes : (c : ℕ) → is_control c ≡ false → ArePlain (encode c)
unfolding encode next
plain_bytes c h =
    either (nat_lt c 128) _ _ (plain_byte c h, tt)
    (either (nat_lt c 2048) _ _ (high_byte (192 + c / 64) (omega arith), (next_plain c, tt))
    (either (nat_lt c 65536) _ _
    (high_byte (224 + c / 4096) (omega arith), (next_plain (c / 64), (next_plain c, tt))) (
      high_byte (240 + c / 262144) (omega arith),
      (next_plain (c / 4096), (next_plain (c / 64), (next_plain c, tt))),
    )))

-- a text with one more character, if there is room for it
pub one_more : (text : List ℕ) (c : ℕ) → IsPlainText text → is_control c ≡ false → length text ≤ 1020
    → length (encode c) ≤ 4 → IsPlainText (text ++ encode c)
one_more text c plain h room few = record {
  plain = All-append IsPlain text (encode c) plain.plain (All-from_recursion IsPlain (encode c) (plain_bytes c h));
  short = omega (arith, length-append text (encode c));
}

either_some : (b : Bool) (x y : List ℕ) → 0 < length x → 0 < length y → 0 < length (cond b x y)
either_some true x y h k = h
either_some false x y h k = k

-- a character has a byte
some_bytes : (c : ℕ) → 0 < length (encode c)
unfolding encode
some_bytes c =
    either_some (nat_lt c 128) _ _ (omega arith) (either_some (nat_lt c 2048) _ _ (omega arith)
    (either_some (nat_lt c 65536) _ _ (omega arith) (omega arith)))

-- a text to which a character was added is not empty
pub said_one : (text new : List ℕ) (c : ℕ) → new ≡ text ++ encode c → 0 < length new
said_one text new c is =
    let more = some_bytes c in omega (arith, more, ap (length {A = ℕ}) is, length-append text (encode c))

-- what holds of a call that went well
pub of_ok : {E : Type 0} (r : Result (Unit {0}) E) (P : Type 0) → IsOk r → OnOk r P → P
of_ok (Ok u) P is h = h
of_ok (Err e) P is h = grind (arith, is)

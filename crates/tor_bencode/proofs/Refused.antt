-- Bytes with a fault are refused with that fault.
use Rattle.tor_bencode.proofs.Names.{◌≡◌, ◌≢◌, ℕ, zero, suc, ◌-◌, ◌≤◌, ◌<◌, List, [], ◌∷◌, ◌++◌, length, get_or, take}
use Rattle.tor_bencode.proofs.Names.{drop, false, ◌==◌, Option, Some, None, Err, refl, sym, ap, ◌∙◌, subst}
use Rattle.tor_bencode.proofs.Names.{append_assoc, arith, inl, inr, is_ascii_digit, nat_tests, false_from_ne_true, Data}
use Rattle.tor_bencode.proofs.Names.{Items, Begins, BeginsWithDigit, IsCutString, HasBadLength, IsBadValue, IsBadKey}
use Rattle.tor_bencode.proofs.Names.{IsOutOfOrder, ◌>>=◌, Reading, follows, string_at, integer_at, items_at, pairs_at}
use Rattle.tor_bencode.proofs.Names.{value_at, base_ten, signed_base_ten, string_spelling, Fault, Truncated, BadByte}
use Rattle.tor_bencode.proofs.Names.{BadInteger, IntegerRange, BadLength, KeyNotBytes, KeyOrder, TooDeep}
use Rattle.tor_bencode.proofs.Integers.{integer_at-cut, integer_at-bad, integer_at-too_large}
use Rattle.tor_bencode.proofs.IntegersRead.{integer_spelled}
use Rattle.tor_bencode.proofs.Loops.{after_key, key_here}
use Rattle.tor_bencode.proofs.Values.{value_integer, value_string, value_empty, value_bad, value_too_deep}
use Rattle.tor_bencode.proofs.Runs.{take_rest}
use Rattle.tor_bencode.proofs.SoundPairs.{is_lt_is}
use Rattle.tor_bencode.proofs.Spelled.{base_ten-starts, StartsWithDigit, string-starts}
use Rattle.tor_bencode.proofs.Strings.{string_at-spelling, string_at-cut, string_at-digits, string_at-bad}

abbrev pub failed : {A : Type 0} → Fault → List ℕ → Reading A
failed fault from = Err (fault, from)

-- what stops the first step stops them all
pub stops : {A B : Type 0} (r : Reading A) (f : A × List ℕ → Reading B) (fault : Fault) (from : List ℕ)
    → r ≡ failed fault from → (r >>= f) ≡ failed fault from
stops r f fault from e = ap (λ x. x >>= f) e

digit_starts : (bytes : List ℕ) → BeginsWithDigit bytes → StartsWithDigit bytes
digit_starts bytes h = subst StartsWithDigit (sym h.2) (record { some = omega arith; digit = h.3 })

cut_starts : (bytes : List ℕ) → IsCutString bytes → StartsWithDigit bytes
cut_starts bytes (inl h) = digit_starts bytes h.0
cut_starts bytes (inr h) =
    subst StartsWithDigit (sym (h.2 ∙ append_assoc (base_ten h.0) (58 ∷ []) h.1)) (base_ten-starts h.0 (58 ∷ h.1))

string_cut : (bytes : List ℕ) → IsCutString bytes → string_at bytes ≡ failed Truncated []
string_cut bytes (inl h) = string_at-digits bytes h.1
string_cut bytes (inr h) = ap string_at (h.2 ∙ append_assoc (base_ten h.0) (58 ∷ []) h.1) ∙ string_at-cut h.0 h.1 h.3

string_bad : (bytes : List ℕ) → HasBadLength bytes → string_at bytes ≡ failed BadLength bytes
string_bad bytes h = string_at-bad bytes h.1 h.2 h.3 h.4 h.5

-- an `i`, and what stops the integer
integer_stops : (room : ℕ) (bytes rest : List ℕ) (fault : Fault) (from : List ℕ) → bytes ≡ 105 ∷ rest
    → integer_at bytes rest ≡ failed fault from → value_at room bytes ≡ failed fault from
integer_stops room bytes rest fault from is h =
    let some : 0 < length bytes = omega (arith, ap length is) in
    let head : get_or bytes 0 0 ≡ 105 = ap (λ bs. get_or bs 0 0) is in
    let tail : take (length bytes - 1) (drop 1 bytes) ≡ rest =
    ap (λ bs. take (length bs - 1) (drop 1 bs)) is ∙ take_rest 105 rest in
    value_integer room bytes some head ∙ stops _ _ fault from (ap (integer_at bytes) tail ∙ h)

string_stops : (room : ℕ) (bytes : List ℕ) (fault : Fault) (from : List ℕ) → StartsWithDigit bytes
    → string_at bytes ≡ failed fault from → value_at room bytes ≡ failed fault from
string_stops room bytes fault from starts h = value_string room bytes starts.some starts.digit ∙ stops _ _ fault from h

unequal : (c n : ℕ) → c ≢ n → (c == n) ≡ false
unequal c n h = false_from_ne_true (c == n) (λ e. h (grind (arith, nat_tests)))

ends_at : {A : Type 0} (fault : Fault) (x y : List ℕ) → y ≡ x → failed {A = A} fault x ≡ failed fault y
ends_at fault x y e = ap (failed fault) (sym e)

pub bad_value_read : (room : ℕ) (bytes : List ℕ) (fault : Fault) (from : List ℕ) → IsBadValue room bytes fault from
    → value_at room bytes ≡ failed fault from
bad_value_read room bytes Truncated from (inl e, at) =
    ap (value_at room) e ∙ value_empty room ∙ ends_at Truncated [] from at
bad_value_read room bytes Truncated from (inr (inl h), at) =
    integer_stops room bytes h.0 Truncated [] h.1 (integer_at-cut bytes h.0 h.2) ∙ ends_at Truncated [] from at
bad_value_read room bytes Truncated from (inr (inr h), at) =
    string_stops room bytes Truncated [] (cut_starts bytes h) (string_cut bytes h) ∙ ends_at Truncated [] from at
bad_value_read room bytes BadByte from (h, at) =
    ap (value_at room) h.2
    ∙ value_bad room h.0 h.1 (false_from_ne_true _ h.3) (unequal h.0 105 h.4) (unequal h.0 108 h.5)
    (unequal h.0 100 h.6)
    ∙ ends_at BadByte (h.0 ∷ h.1) from (at ∙ h.2)
bad_value_read room bytes BadInteger from (h, at) =
    integer_stops room bytes h.0 BadInteger bytes h.4 (integer_at-bad bytes h.0 h.1 h.2 h.3 h.5 h.6)
    ∙ ends_at BadInteger bytes from at
bad_value_read room bytes IntegerRange from (h, at) =
    integer_stops room bytes (signed_base_ten h.0 ++ 101 ∷ h.1) IntegerRange bytes (h.2 ∙ integer_spelled h.0 h.1)
    (integer_at-too_large bytes h.0 h.1 h.3) ∙ ends_at IntegerRange bytes from at
bad_value_read room bytes BadLength from (h, at) =
    string_stops room bytes BadLength bytes (digit_starts bytes h.0) (string_bad bytes h)
    ∙ ends_at BadLength bytes from at
bad_value_read room bytes TooDeep from (none, inl b, at) =
    value_too_deep room bytes (omega (arith, ap length b.1)) none (inl (ap (λ bs. get_or bs 0 0) b.1))
    ∙ ends_at TooDeep bytes from at
bad_value_read room bytes TooDeep from (none, inr b, at) =
    value_too_deep room bytes (omega (arith, ap length b.1)) none (inr (ap (λ bs. get_or bs 0 0) b.1))
    ∙ ends_at TooDeep bytes from at
bad_value_read room bytes fault from h = absurd h

failure_is : (x y : Fault × List ℕ) (r : Reading Data) → r ≡ Err x → r ≡ Err y → x ≡ y
failure_is x y r e f = cc

one_failure : (r : Reading Data) (fault : Fault) (from : List ℕ) → r ≡ failed Truncated [] → r ≡ failed fault from
    → failed {A = Items} Truncated [] ≡ failed fault from
one_failure r fault from e f = ap (λ x. Err x) (failure_is (Truncated, []) (fault, from) r e f)

-- what stops an item stops the list
pub items_stopped : (read : List ℕ → Reading Data) (fuel : ℕ) (bytes : List ℕ) (fault : Fault) (from : List ℕ)
    → read [] ≡ failed Truncated [] → ¬ Begins 101 bytes → length bytes ≤ fuel
    → read bytes ≡ failed fault from → items_at read fuel bytes ≡ failed fault from
items_stopped read zero [] fault from empty no_end enough h = one_failure (read []) fault from empty h
items_stopped read zero (c ∷ rest) fault from empty no_end enough h = absurd (omega arith)
items_stopped read (suc fuel) [] fault from empty no_end enough h = one_failure (read []) fault from empty h
items_stopped read (suc fuel) (c ∷ rest) fault from empty no_end enough h =
    let other : (c == 101) ≡ false = unequal c 101 (λ e. no_end (rest, ap (λ x. x ∷ rest) e)) in
    rw (other, h) refl

pairs_empty : (read : List ℕ → Reading Data) (fuel : ℕ) (last : Option (List ℕ))
    → pairs_at read fuel last [] ≡ failed Truncated []
pairs_empty read zero last = refl
pairs_empty read (suc fuel) last = refl

not_bytes : (read : List ℕ → Reading Data) (fuel : ℕ) (last : Option (List ℕ)) (c : ℕ) (rest : List ℕ)
    → length (c ∷ rest) ≤ fuel → (c == 101) ≡ false → is_ascii_digit c ≡ false
    → pairs_at read fuel last (c ∷ rest) ≡ failed KeyNotBytes (c ∷ rest)
not_bytes read zero last c rest enough other none = absurd (omega arith)
not_bytes read (suc fuel) last c rest enough other none = rw (other, none) refl

key_stopped : (read : List ℕ → Reading Data) (fuel : ℕ) (last : Option (List ℕ)) (bytes : List ℕ) (fault : Fault)
    (from : List ℕ) → StartsWithDigit bytes → length bytes ≤ fuel
    → string_at bytes ≡ failed fault from → pairs_at read fuel last bytes ≡ failed fault from
key_stopped read fuel last bytes fault from starts enough h =
    let k = key_here read fuel last bytes starts enough in
    k.2 ∙ stops (string_at bytes) (after_key read k.0 last bytes) fault from h

not_following : (last : Option (List ℕ)) (key : List ℕ) → IsOutOfOrder last key → follows last key ≡ false
not_following None key h = absurd h
not_following (Some last) key h = false_from_ne_true _ (λ e. h (is_lt_is _ e))

-- a key that is spelled is read
pub key_named : (read : List ℕ → Reading Data) (fuel : ℕ) (last : Option (List ℕ)) (bytes key rest : List ℕ)
    → bytes ≡ string_spelling key ++ rest → length bytes ≤ fuel
    → (less : ℕ) × (pairs_at read fuel last bytes ≡ after_key read less last bytes (key, rest))
key_named read fuel last bytes key rest is enough =
    let k = key_here read fuel last bytes (subst StartsWithDigit (sym is) (string-starts key rest)) enough in
    let named = ap string_at is ∙ string_at-spelling key rest in
    (k.0, k.2 ∙ ap (λ (r : Reading (List ℕ)). r >>= after_key read k.0 last bytes) named)

order_stopped : (read : List ℕ → Reading Data) (fuel : ℕ) (last : Option (List ℕ)) (bytes key rest : List ℕ)
    → bytes ≡ string_spelling key ++ rest → length bytes ≤ fuel → IsOutOfOrder last key
    → pairs_at read fuel last bytes ≡ failed KeyOrder bytes
order_stopped read fuel last bytes key rest is enough out =
    (key_named read fuel last bytes key rest is enough).1 ∙ rw (not_following last key out) refl

pub bad_key_read : (read : List ℕ → Reading Data) (fuel : ℕ) (last : Option (List ℕ)) (bytes : List ℕ) (fault : Fault)
    (from : List ℕ) → length bytes ≤ fuel → IsBadKey last bytes fault from
    → pairs_at read fuel last bytes ≡ failed fault from
bad_key_read read fuel last bytes Truncated from enough (inl e, at) =
    ap (pairs_at read fuel last) e ∙ pairs_empty read fuel last ∙ ends_at Truncated [] from at
bad_key_read read fuel last bytes Truncated from enough (inr h, at) =
    key_stopped read fuel last bytes Truncated [] (cut_starts bytes h) enough (string_cut bytes h)
    ∙ ends_at Truncated [] from at
bad_key_read read fuel last bytes BadLength from enough (h, at) =
    key_stopped read fuel last bytes BadLength bytes (digit_starts bytes h.0) enough (string_bad bytes h)
    ∙ ends_at BadLength bytes from at
bad_key_read read fuel last bytes KeyNotBytes from enough h =
    ap (pairs_at read fuel last) h.2
    ∙ not_bytes read fuel last h.0 h.1 (omega (arith, ap length h.2)) (unequal h.0 101 h.4) (false_from_ne_true _ h.3)
    ∙ ends_at KeyNotBytes (h.0 ∷ h.1) from (h.5 ∙ h.2)
bad_key_read read fuel last bytes KeyOrder from enough h =
    order_stopped read fuel last bytes h.0 h.1 h.2 enough h.3 ∙ ends_at KeyOrder bytes from h.4
bad_key_read read fuel last bytes fault from enough h = absurd h

-- All of the bytes: what is read of them is the tree that they spell, or else they have a fault.
use Rattle.tor_bencode.proofs.Names.{◌≡◌, ◌≢◌, ℕ, zero, suc, ◌≤◌, List, [], ◌∷◌, ◌++◌, length, true, false, ◌==◌}
use Rattle.tor_bencode.proofs.Names.{Option, Some, None, Result, Ok, Err, refl, sym, ap, ◌∙◌, subst, arith, inl, inr}
use Rattle.tor_bencode.proofs.Names.{◌⊎◌, codes, is_ascii_digit, true≢false, nat_tests, append-nil, length-append, Data}
use Rattle.tor_bencode.proofs.Names.{integer, list, dictionary, IsBadValue, IsBadKey, IsFaultIn, at_value, in_list}
use Rattle.tor_bencode.proofs.Names.{at_key, in_pair, IsTrailing, last_key, IsLawfulWithin, ◌>>=◌, Reading, string_at}
use Rattle.tor_bencode.proofs.Names.{integer_at, items_at, pairs_at, opened, value_with, nested_at, value_at, whole}
use Rattle.tor_bencode.proofs.Names.{last_of, spelling, string_spelling, items_spelling, pairs_spelling, Fault}
use Rattle.tor_bencode.proofs.Names.{Truncated, BadLength, KeyNotBytes, KeyOrder, TooDeep, Trailing}
use Rattle.tor_bencode.proofs.IntegersRead.{integer_sound}
use Rattle.tor_bencode.proofs.Runs.{by_test}
use Rattle.tor_bencode.proofs.Sound.{ValueIs, items_sound}
use Rattle.tor_bencode.proofs.SoundPairs.{pairs_sound}
use Rattle.tor_bencode.proofs.SoundValues.{integer_is, string_is, list_is, dictionary_is}
use Rattle.tor_bencode.proofs.Strings.{string_sound}

-- what is read inside is sound too
abbrev NestedIs : ℕ → Option (List ℕ → Reading Data) → Type 0
NestedIs zero None = Unit {0}
NestedIs (suc room) (Some read) = (bytes : List ℕ) → ValueIs room bytes (read bytes)
NestedIs room nested = ⊥

list_opened : (room : ℕ) (nested : Option (List ℕ → Reading Data)) → NestedIs room nested → (rest : List ℕ)
    → ValueIs room (108 ∷ rest)
    (opened nested (108 ∷ rest) (λ read. items_at read (length rest) rest) >>= λ items. Ok (list items.0, items.1))
list_opened zero None sound rest = at_value (refl, inl (rest, refl), refl)
list_opened (suc room) (Some read) sound rest =
    list_is room rest (items_at read (length rest) rest) (items_sound room read sound (length rest) rest (omega arith))
list_opened room nested sound rest = absurd sound

dictionary_opened : (room : ℕ) (nested : Option (List ℕ → Reading Data)) → NestedIs room nested → (rest : List ℕ)
    → ValueIs room (100 ∷ rest) (opened nested (100 ∷ rest) (λ read. pairs_at read (length rest) None rest)
    >>= λ pairs. Ok (dictionary pairs.0, pairs.1))
dictionary_opened zero None sound rest = at_value (refl, inr (rest, refl), refl)
dictionary_opened (suc room) (Some read) sound rest =
    dictionary_is room rest (pairs_at read (length rest) None rest)
    (pairs_sound room read sound (length rest) None rest (omega arith))
dictionary_opened room nested sound rest = absurd sound

apart : (c n : ℕ) → (c == n) ≡ false → c ≢ n
apart c n h e = true≢false (let t : (c == n) ≡ true = grind (arith, nat_tests) in sym t ∙ h)

same : (c n : ℕ) → (c == n) ≡ true → c ≡ n
same c n h = grind (arith, nat_tests)

value_with_sound : (room : ℕ) (nested : Option (List ℕ → Reading Data)) → NestedIs room nested → (bytes : List ℕ)
    → ValueIs room bytes (value_with nested bytes)
value_with_sound room nested sound [] = at_value (inl refl, refl)
value_with_sound room nested sound (c ∷ rest) =
    by_test (c == 105) (ValueIs room (c ∷ rest)) _ _
    (λ e. subst (λ x. ValueIs room (x ∷ rest) (integer_at (x ∷ rest) rest >>= λ n. Ok (integer n.0, n.1)))
    (sym (same c 105 e)) (integer_is room (105 ∷ rest) (integer_at (105 ∷ rest) rest) (integer_sound rest)))
    (λ i. by_test (is_ascii_digit c) (ValueIs room (c ∷ rest)) _ _
    (λ digit. string_is room (c ∷ rest) (string_at (c ∷ rest)) (string_sound (c ∷ rest) (c, rest, refl, digit)))
    (λ none. by_test (c == 108) (ValueIs room (c ∷ rest)) _ _
    (λ e. subst (λ x. ValueIs room (x ∷ rest) (opened nested (x ∷ rest) (λ read. items_at read (length rest) rest)
    >>= λ items. Ok (list items.0, items.1))) (sym (same c 108 e)) (list_opened room nested sound rest))
    (λ l. by_test (c == 100) (ValueIs room (c ∷ rest)) _ _
    (λ e. subst (λ x. ValueIs room (x ∷ rest) (opened nested (x ∷ rest) (λ read. pairs_at read (length rest) None rest)
    >>= λ pairs. Ok (dictionary pairs.0, pairs.1))) (sym (same c 100 e)) (dictionary_opened room nested sound rest))
    (λ d. at_value (
      (c, rest, refl, λ t. true≢false (sym t ∙ none), apart c 105 i, apart c 108 l, apart c 100 d),
      refl,
    )))))

nested_sound : (room : ℕ) → NestedIs room (nested_at room)
unfolding nested_at
nested_sound zero = tt
nested_sound (suc room) = value_with_sound room (nested_at room) (nested_sound room)

pub value_sound : (room : ℕ) (bytes : List ℕ) → ValueIs room bytes (value_at room bytes)
unfolding value_at
value_sound room bytes = value_with_sound room (nested_at room) (nested_sound room) bytes

abbrev pub WholeIs : List ℕ → Result Data (Fault × List ℕ) → Type 0
WholeIs bytes (Ok d) = IsLawfulWithin 100 d × (bytes ≡ spelling d)
WholeIs bytes (Err f) = IsFaultIn 100 bytes f.0 f.1 ⊎ IsTrailing bytes f.0 f.1

last_is : (bytes : List ℕ) (d : Data) (rest : List ℕ) → IsLawfulWithin 100 d → bytes ≡ spelling d ++ rest
    → WholeIs bytes (last_of (d, rest))
last_is bytes d [] lawful is = (lawful, is ∙ append-nil (spelling d))
last_is bytes d (c ∷ rest) lawful is =
    inr (record { code = refl; tree = d; lawful = lawful; whole = is; more = omega arith })

whole_is : (bytes : List ℕ) (r : Reading Data) → ValueIs 100 bytes r → WholeIs bytes (r >>= last_of)
whole_is bytes (Ok x) h = last_is bytes x.0 x.1 h.0 h.1
whole_is bytes (Err f) h = inl h

pub whole_sound : (bytes : List ℕ) → WholeIs bytes (whole bytes)
unfolding whole
whole_sound bytes = whole_is bytes (value_at 100 bytes) (value_sound 100 bytes)

-- ---- where a fault lies

bad_value_within : (room : ℕ) (bytes : List ℕ) (fault : Fault) (from : List ℕ) → IsBadValue room bytes fault from
    → length from ≤ length bytes
bad_value_within room bytes TooDeep from h = omega (arith, ap length h.2)
bad_value_within room bytes KeyNotBytes from h = absurd h
bad_value_within room bytes KeyOrder from h = absurd h
bad_value_within room bytes Trailing from h = absurd h
bad_value_within room bytes fault from h = omega (arith, ap length h.1)

bad_key_within : (last : Option (List ℕ)) (bytes : List ℕ) (fault : Fault) (from : List ℕ)
    → IsBadKey last bytes fault from → length from ≤ length bytes
bad_key_within last bytes Truncated from h = omega (arith, ap length h.1)
bad_key_within last bytes BadLength from h = omega (arith, ap length h.1)
bad_key_within last bytes KeyNotBytes from h = omega (arith, ap length h.5)
bad_key_within last bytes KeyOrder from h = omega (arith, ap length h.4)
bad_key_within last bytes fault from h = absurd h

rest_within : (front rest bytes : List ℕ) → bytes ≡ front ++ rest → length rest ≤ length bytes
rest_within front rest bytes is = omega (arith, ap length is, length-append front rest)

fault_within : (room : ℕ) (bytes : List ℕ) (fault : Fault) (from : List ℕ) → IsFaultIn room bytes fault from
    → length from ≤ length bytes
fault_within room bytes fault from (at_value h) = bad_value_within room bytes fault from h
fault_within (suc room) bytes fault from (in_list items rest is lawful no_end inner) =
    let e = rest_within (codes "l" ++ items_spelling items) rest bytes is in
    omega (arith, e, fault_within room rest fault from inner)
fault_within (suc room) bytes fault from (at_key pairs rest is rising lawful bad) =
    let e = rest_within (codes "d" ++ pairs_spelling pairs) rest bytes is in
    omega (arith, e, bad_key_within (last_key pairs) rest fault from bad)
fault_within (suc room) bytes fault from (in_pair pairs key rest is rising lawful inner) =
    let e = rest_within (codes "d" ++ pairs_spelling pairs ++ string_spelling key) rest bytes is in
    omega (arith, e, fault_within room rest fault from inner)

pub refused_within : (bytes : List ℕ) (fault : Fault) (from : List ℕ)
    → (IsFaultIn 100 bytes fault from ⊎ IsTrailing bytes fault from) → length from ≤ length bytes
refused_within bytes fault from (inl h) = fault_within 100 bytes fault from h
refused_within bytes fault from (inr h) = rest_within (spelling h.tree) from bytes h.whole

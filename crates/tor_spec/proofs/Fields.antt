-- Dictionaries whose values are there or not are lawful where the keys rise and the values are.
use Rattle.tor_spec.proofs.Names.{◌≡◌, ℕ, suc, ◌≤◌, List, [], ◌∷◌, map, Bool, true, false, Option, None, Some, Ordering}
use Rattle.tor_spec.proofs.Names.{Less, Equal, Greater, refl, ap, ◌∙◌, arith, AllByRecursion, match_ordering}
use Rattle.tor_spec.proofs.Names.{ordering_reverse, nat_list_cmp_total, Data, dictionary, Pairs, no_pairs, pair}
use Rattle.tor_spec.proofs.Names.{keys_of, AreRising, IsLawfulWithin, PairsAreLawfulWithin, present, put, when}
use Rattle.tor_spec.proofs.Names.{name_cmp}

pub wider : (m n : ℕ) (d : Data) → m ≤ n → IsLawfulWithin m d → IsLawfulWithin n d
wider m n d le h = record { keys = h.keys; integers = h.integers; nesting = omega (arith, h.nesting) }

pub dictionary_lawful : (n : ℕ) (pairs : Pairs) → AreRising (keys_of pairs) → PairsAreLawfulWithin n pairs
    → IsLawfulWithin (suc n) (dictionary pairs)
dictionary_lawful n pairs rising h =
    record { keys = (rising, h.keys); integers = h.integers; nesting = omega (arith, h.nesting) }

pub pair_lawful : (n : ℕ) (key : List ℕ) (value : Data) (pairs : Pairs) → IsLawfulWithin n value
    → PairsAreLawfulWithin n pairs → PairsAreLawfulWithin n (pair key value pairs)
pair_lawful n key value pairs h k = record {
  keys = (h.keys, k.keys);
  integers = (h.integers, k.integers);
  nesting = omega (arith, h.nesting, k.nesting);
}

-- a key below the first is below the others
pub rising_after : (below key : List ℕ) (keys : List (List ℕ)) → name_cmp below key ≡ Less → AreRising (key ∷ keys)
    → AreRising (below ∷ keys)
rising_after below key [] less rising = tt
rising_after below key (next ∷ keys) less rising = (nat_list_cmp_total.trans below key next less rising.0, rising.1)

-- a value that is there or not is lawful
abbrev pub IfThere : ℕ → Option Data → Type 0
IfThere n None = Unit {0}
IfThere n (Some value) = IsLawfulWithin n value

abbrev pub AreFields : ℕ → List (List ℕ × Option Data) → Type 0
AreFields n fields = AllByRecursion (λ field. IfThere n field.1) fields

pub when_there : (n : ℕ) (there : Bool) (value : Data) → (there ≡ true → IsLawfulWithin n value)
    → IfThere n (when there value)
when_there n true value h = h refl
when_there n false value h = tt

pub keys_above : (below : List ℕ) (fields : List (List ℕ × Option Data))
    → AreRising (below ∷ map (λ field. field.0) fields) → AreRising (below ∷ keys_of (present fields))
keys_above below [] rising = tt
keys_above below ((key, None) ∷ fields) rising =
    keys_above below fields (rising_after below key (map (λ field. field.0) fields) rising.0 rising.1)
keys_above below ((key, Some value) ∷ fields) rising = (rising.0, keys_above key fields rising.1)

pub rising_rest : (key : List ℕ) (keys : List (List ℕ)) → AreRising (key ∷ keys) → AreRising keys
rising_rest key [] h = tt
rising_rest key (next ∷ keys) h = h.1

keys_rise : (fields : List (List ℕ × Option Data)) → AreRising (map (λ field. field.0) fields)
    → AreRising (keys_of (present fields))
keys_rise [] rising = tt
keys_rise ((key, None) ∷ fields) rising = keys_rise fields (rising_rest key (map (λ field. field.0) fields) rising)
keys_rise ((key, Some value) ∷ fields) rising = keys_above key fields rising

values_lawful : (n : ℕ) (fields : List (List ℕ × Option Data)) → AreFields n fields
    → PairsAreLawfulWithin n (present fields)
values_lawful n [] h = record { keys = tt; integers = tt; nesting = omega arith }
values_lawful n ((key, None) ∷ fields) h = values_lawful n fields h.1
values_lawful n ((key, Some value) ∷ fields) h =
    pair_lawful n key value (present fields) h.0 (values_lawful n fields h.1)

pub present_lawful : (n : ℕ) (fields : List (List ℕ × Option Data)) → AreRising (map (λ field. field.0) fields)
    → AreFields n fields → IsLawfulWithin (suc n) (dictionary (present fields))
present_lawful n fields rising h =
    dictionary_lawful n (present fields) (keys_rise fields rising) (values_lawful n fields h)

equal_keys : (a b : List ℕ) (keys : List (List ℕ)) → name_cmp a b ≡ Equal → AreRising (b ∷ keys) → AreRising (a ∷ keys)
equal_keys a b [] e rises = tt
equal_keys a b (next ∷ keys) e rises = (nat_list_cmp_total.congr a b next e ∙ rises.0, rises.1)

later : (a b : List ℕ) → name_cmp a b ≡ Greater → name_cmp b a ≡ Less
later a b h = nat_list_cmp_total.antisymm b a ∙ ap ordering_reverse h

-- one more pair where its key belongs
put_above : (below key : List ℕ) (value : Data) (pairs : Pairs) → AreRising (below ∷ keys_of pairs)
    → name_cmp below key ≡ Less → AreRising (below ∷ keys_of (put key value pairs))
put_above below key value no_pairs rising less = (less, tt)
put_above below key value (pair k v pairs) rising less =
    by_order (name_cmp key k) refl (λ above. put_above k key value pairs rising.1 above)
  where
    by_order : (r : Ordering) → name_cmp key k ≡ r
        → (name_cmp k key ≡ Less → AreRising (k ∷ keys_of (put key value pairs))) → AreRising (below ∷ keys_of
        (match_ordering r (pair key value (pair k v pairs)) (pair key value pairs) (pair k v (put key value pairs))))
    by_order Less e after = (less, (e, rising.1))
    by_order Equal e after = (less, equal_keys key k (keys_of pairs) e rising.1)
    by_order Greater e after = (rising.0, after (later key k e))

pub put_rising : (key : List ℕ) (value : Data) (pairs : Pairs) → AreRising (keys_of pairs)
    → AreRising (keys_of (put key value pairs))
put_rising key value no_pairs rising = tt
put_rising key value (pair k v pairs) rising = by_order (name_cmp key k) refl
  where
    by_order : (r : Ordering) → name_cmp key k ≡ r → AreRising (keys_of
        (match_ordering r (pair key value (pair k v pairs)) (pair key value pairs) (pair k v (put key value pairs))))
    by_order Less e = (e, rising)
    by_order Equal e = equal_keys key k (keys_of pairs) e rising
    by_order Greater e = put_above k key value pairs rising (later key k e)

pub put_lawful : (n : ℕ) (key : List ℕ) (value : Data) (pairs : Pairs) → IsLawfulWithin n value
    → PairsAreLawfulWithin n pairs → PairsAreLawfulWithin n (put key value pairs)
put_lawful n key value no_pairs h k = pair_lawful n key value no_pairs h k
put_lawful n key value (pair other v pairs) h k =
    let first : IsLawfulWithin n v =
    record { keys = k.keys.0; integers = k.integers.0; nesting = omega (arith, k.nesting) } in
    let rest : PairsAreLawfulWithin n pairs =
    record { keys = k.keys.1; integers = k.integers.1; nesting = omega (arith, k.nesting) } in
    by_order first rest (put_lawful n key value pairs h rest) (name_cmp key other)
  where
    by_order : IsLawfulWithin n v → PairsAreLawfulWithin n pairs → PairsAreLawfulWithin n (put key value pairs)
        → (r : Ordering) → PairsAreLawfulWithin n (match_ordering r (pair key value (pair other v pairs))
        (pair key value pairs) (pair other v (put key value pairs)))
    by_order first rest later Less = pair_lawful n key value (pair other v pairs) h k
    by_order first rest later Equal = pair_lawful n key value pairs h rest
    by_order first rest later Greater = pair_lawful n other v (put key value pairs) first later

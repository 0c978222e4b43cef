-- A root with another tracker is as lawful as it was.
use Rattle.tor_edit.proofs.Names.{◌≡◌, ◌∙◌, ◌∷◌, ℕ, Bool, true, false, cond, List, [], Option, None, Some, Ordering}
use Rattle.tor_edit.proofs.Names.{Less, Equal, Greater, refl, sym, ap, subst, arith, codes, match_ordering}
use Rattle.tor_edit.proofs.Names.{ordering_reverse, bytes_eq, nat_list_cmp_total, Data, Pairs, no_pairs, pair, string}
use Rattle.tor_edit.proofs.Names.{integer, list, dictionary, keys_of, AreRising, IsLawfulWithin, PairsAreLawfulWithin}
use Rattle.tor_edit.proofs.Names.{pairs_depth, pairs_are_lawful, string_is_lawful, put, announced, without}
use Rattle.tor_edit.proofs.Names.{tracker_edited}
use Rattle.tor_edit.proofs.Pairs.{order, equal_keys, rising_rest}

-- without the second of rising keys the others rise
rising_skip : (key next : List ℕ) (keys : List (List ℕ)) → AreRising (key ∷ next ∷ keys) → AreRising (key ∷ keys)
rising_skip key next [] h = tt
rising_skip key next (third ∷ keys) h = (nat_list_cmp_total.trans key next third h.0 h.1.0, h.1.1)

rising_without : (gone first : List ℕ) (pairs : Pairs) → AreRising (first ∷ keys_of pairs)
    → AreRising (first ∷ keys_of (without gone pairs))
rising_without gone first no_pairs h = tt
rising_without gone first (pair k v pairs) h =
    by_test (bytes_eq k gone) (rising_without gone first pairs (rising_skip first k (keys_of pairs) h))
    (rising_without gone k pairs h.1)
  where
    by_test : (b : Bool) → AreRising (first ∷ keys_of (without gone pairs))
        → AreRising (k ∷ keys_of (without gone pairs))
        → AreRising (first ∷ keys_of (cond b (without gone pairs) (pair k v (without gone pairs))))
    by_test true skipped kept = skipped
    by_test false skipped kept = (h.0, kept)

keys_without : (gone : List ℕ) (pairs : Pairs) → AreRising (keys_of pairs) → AreRising (keys_of (without gone pairs))
keys_without gone no_pairs h = tt
keys_without gone (pair k v pairs) h =
    let later = keys_without gone pairs (rising_rest k (keys_of pairs) h) in
    by_test (bytes_eq k gone) later (rising_without gone k pairs h)
  where
    by_test : (b : Bool) → AreRising (keys_of (without gone pairs)) → AreRising (k ∷ keys_of (without gone pairs))
        → AreRising (keys_of (cond b (without gone pairs) (pair k v (without gone pairs))))
    by_test true skipped kept = skipped
    by_test false skipped kept = kept

less_from_greater : (key k : List ℕ) → order key k ≡ Greater → order k key ≡ Less
less_from_greater key k e = nat_list_cmp_total.antisymm k key ∙ ap ordering_reverse e

rising_put : (key : List ℕ) (value : Data) (first : List ℕ) (pairs : Pairs) → order first key ≡ Less
    → AreRising (first ∷ keys_of pairs) → AreRising (first ∷ keys_of (put key value pairs))
rising_put key value first no_pairs less h = (less, tt)
rising_put key value first (pair k v pairs) less h =
    by_order (order key k) refl (λ below. rising_put key value k pairs below h.1)
  where
    by_order : (o : Ordering) → order key k ≡ o
        → (order k key ≡ Less → AreRising (k ∷ keys_of (put key value pairs)))
        → AreRising (first ∷ keys_of (match_ordering o (pair key value (pair k v pairs)) (pair key value pairs)
        (pair k v (put key value pairs))))
    by_order Less e later = (less, (e, h.1))
    by_order Equal e later =
        (less, subst (λ (name : List ℕ). AreRising (name ∷ keys_of pairs)) (sym (equal_keys key k e)) h.1)
    by_order Greater e later = (h.0, later (less_from_greater key k e))

keys_put : (key : List ℕ) (value : Data) (pairs : Pairs) → AreRising (keys_of pairs)
    → AreRising (keys_of (put key value pairs))
keys_put key value no_pairs h = tt
keys_put key value (pair k v pairs) h = by_order (order key k) refl (λ below. rising_put key value k pairs below h)
  where
    by_order : (o : Ordering) → order key k ≡ o
        → (order k key ≡ Less → AreRising (k ∷ keys_of (put key value pairs)))
        → AreRising (keys_of (match_ordering o (pair key value (pair k v pairs)) (pair key value pairs)
        (pair k v (put key value pairs))))
    by_order Less e later = (e, h)
    by_order Equal e later =
        subst (λ (name : List ℕ). AreRising (name ∷ keys_of pairs)) (sym (equal_keys key k e)) h
    by_order Greater e later = later (less_from_greater key k e)

lawful_without : (room : ℕ) (gone : List ℕ) (pairs : Pairs) → PairsAreLawfulWithin room pairs
    → PairsAreLawfulWithin room (without gone pairs)
lawful_without room gone no_pairs h = h
lawful_without room gone (pair k v pairs) h =
    let both = (pairs_are_lawful room k v pairs).0 h in
    by_test (bytes_eq k gone) both.0 (lawful_without room gone pairs both.1)
  where
    by_test : (b : Bool) → IsLawfulWithin room v → PairsAreLawfulWithin room (without gone pairs)
        → PairsAreLawfulWithin room (cond b (without gone pairs) (pair k v (without gone pairs)))
    by_test true value later = later
    by_test false value later = (pairs_are_lawful room k v (without gone pairs)).1 (value, later)

lawful_put : (room : ℕ) (key : List ℕ) (value : Data) (pairs : Pairs) → IsLawfulWithin room value
    → PairsAreLawfulWithin room pairs → PairsAreLawfulWithin room (put key value pairs)
lawful_put room key value no_pairs lawful h = (pairs_are_lawful room key value no_pairs).1 (lawful, h)
lawful_put room key value (pair k v pairs) lawful h =
    let both = (pairs_are_lawful room k v pairs).0 h in
    by_order (order key k) both.0 both.1 (lawful_put room key value pairs lawful both.1)
  where
    by_order : (o : Ordering) → IsLawfulWithin room v → PairsAreLawfulWithin room pairs
        → PairsAreLawfulWithin room (put key value pairs)
        → PairsAreLawfulWithin room (match_ordering o (pair key value (pair k v pairs)) (pair key value pairs)
        (pair k v (put key value pairs)))
    by_order Less first rest later =
        (pairs_are_lawful room key value (pair k v pairs)).1
        (lawful, (pairs_are_lawful room k v pairs).1 (first, rest))
    by_order Equal first rest later = (pairs_are_lawful room key value pairs).1 (lawful, rest)
    by_order Greater first rest later = (pairs_are_lawful room k v (put key value pairs)).1 (first, later)

keys_announced : (tracker : Option (List ℕ)) (pairs : Pairs) → AreRising (keys_of pairs)
    → AreRising (keys_of (announced tracker pairs))
keys_announced None pairs h = keys_without (codes "announce") pairs h
keys_announced (Some url) pairs h = keys_put (codes "announce") (string url) pairs h

lawful_announced : (room : ℕ) (tracker : Option (List ℕ)) (pairs : Pairs) → PairsAreLawfulWithin room pairs
    → PairsAreLawfulWithin room (announced tracker pairs)
lawful_announced room None pairs h = lawful_without room (codes "announce") pairs h
lawful_announced room (Some url) pairs h =
    lawful_put room (codes "announce") (string url) pairs (string_is_lawful room url) h

-- keys rise, integers are small, and no more lists and dictionaries are open
pub edited_is_lawful : (room : ℕ) (root : Data) (tracker : Option (List ℕ)) → IsLawfulWithin room root
    → IsLawfulWithin room (tracker_edited root tracker)
edited_is_lawful room (integer n) tracker h = h
edited_is_lawful room (string bytes) tracker h = h
edited_is_lawful room (list items) tracker h = h
edited_is_lawful room (dictionary pairs) tracker h =
    let values : PairsAreLawfulWithin (pairs_depth pairs) pairs =
    record { keys = h.keys.1; integers = h.integers; nesting = omega arith } in
    let edited : PairsAreLawfulWithin (pairs_depth pairs) (without (codes "announce-list") (announced tracker pairs)) =
    lawful_without (pairs_depth pairs) (codes "announce-list") (announced tracker pairs)
    (lawful_announced (pairs_depth pairs) tracker pairs values) in
    let deep = h.nesting in
    let nested = edited.nesting in
    record {
      keys = (
        keys_without (codes "announce-list") (announced tracker pairs) (keys_announced tracker pairs h.keys.0),
        edited.keys,
      );
      integers = edited.integers;
      nesting = omega arith;
    }

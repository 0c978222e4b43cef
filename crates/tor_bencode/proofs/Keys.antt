-- The order of keys, and what rising keys say of values.
use Rattle.tor_bencode.proofs.Names.{◌≡◌, List, [], ◌∷◌, ℕ, true, false, Option, Some, None, Ordering, Less, Equal}
use Rattle.tor_bencode.proofs.Names.{Greater, inl, inr, refl, sym, ap, subst, ◌∙◌, cases_Bool, bytes_eq-Decides}
use Rattle.tor_bencode.proofs.Names.{slice_cmp, nat_list_cmp_total, slice_cmp-IsAntisymmetric, nat_cmp-IsAntisymmetric}
use Rattle.tor_bencode.proofs.Names.{nat_cmp, ordering_reverse, bytes_eq, Data, Pairs, no_pairs, pair, keys_of}
use Rattle.tor_bencode.proofs.Names.{value_in, AreRising}

-- no key comes before itself
irreflexive : (key : List ℕ) → slice_cmp nat_cmp key key ≡ Less → ⊥
irreflexive key less =
    let back : ordering_reverse (slice_cmp nat_cmp key key) ≡ Greater = ap ordering_reverse less in
    let same : slice_cmp nat_cmp key key ≡ Greater = nat_list_cmp_total.antisymm key key ∙ back in
    cc

-- a key is found to be itself
eq_self : (key : List ℕ) → bytes_eq key key ≡ true
eq_self key = (bytes_eq-Decides key key).1 refl

-- and no key that comes later is
eq_later : (key other : List ℕ) → slice_cmp nat_cmp key other ≡ Less → bytes_eq other key ≡ false
eq_later key other less = elim (cases_Bool (bytes_eq other key)) [
  | inl e ↦ absurd (irreflexive key (ap (slice_cmp nat_cmp key) (sym ((bytes_eq-Decides other key).0 e)) ∙ less))
  | inr e ↦ e
]

-- without the second of rising keys the others rise
pub rising_skip : (key next : List ℕ) (keys : List (List ℕ)) → AreRising (key ∷ next ∷ keys) → AreRising (key ∷ keys)
rising_skip key next [] h = tt
rising_skip key next (third ∷ keys) h = (nat_list_cmp_total.trans key next third h.0 h.1.0, h.1.1)

pub rising_rest : (key : List ℕ) (keys : List (List ℕ)) → AreRising (key ∷ keys) → AreRising keys
rising_rest key [] h = tt
rising_rest key (next ∷ keys) h = h.1

-- a key that comes before all keys has no value
pub none_before : (key : List ℕ) (pairs : Pairs) → AreRising (key ∷ keys_of pairs) → value_in key pairs ≡ None
none_before key no_pairs h = refl
none_before key (pair next value pairs) h =
    let other = eq_later key next h.0 in rw other (none_before key pairs (rising_skip key next (keys_of pairs) h))

pub first_value : (key : List ℕ) (value : Data) (pairs : Pairs) → value_in key (pair key value pairs) ≡ Some value
first_value key value pairs = let same = eq_self key in rw same refl

-- a later key has its value among the other pairs
pub later_value : (key first : List ℕ) (value : Data) (pairs : Pairs) → bytes_eq first key ≡ false
    → value_in key (pair first value pairs) ≡ value_in key pairs
later_value key first value pairs other = rw other refl

some_is_not_none : {A : Type 0} (x : A) (found : Option A) → found ≡ Some x → found ≡ None → ⊥
some_is_not_none x found e f = cc

pub some_is_one : {A : Type 0} (x y : A) (found : Option A) → found ≡ Some x → found ≡ Some y → x ≡ y
some_is_one x y found e f = cc

-- Rising pairs with the same first key and the same values have the same values after it.
same_rest : (first : List ℕ) (v w : Data) (p q : Pairs) → AreRising (first ∷ keys_of p) → AreRising (first ∷ keys_of q)
    → ((key : List ℕ) → value_in key (pair first v p) ≡ value_in key (pair first w q))
    → (key : List ℕ) → value_in key p ≡ value_in key q
same_rest first v w p q rising_p rising_q same key = elim (cases_Bool (bytes_eq first key)) [
  | inl e ↦
      let is : first ≡ key = (bytes_eq-Decides first key).0 e in
      ap (λ k. value_in k p) (sym is) ∙ none_before first p rising_p ∙ sym (none_before first q rising_q)
      ∙ ap (λ k. value_in k q) is
  | inr e ↦ sym (later_value key first v p e) ∙ same key ∙ later_value key first w q e
]

abbrev SameValues : Pairs → Pairs → Type 0
SameValues p q = (key : List ℕ) → value_in key p ≡ value_in key q

-- rising pairs with the same values, where this holds of those after the first ones
same_first : (k l : List ℕ) (v w : Data) (p q : Pairs) → AreRising (k ∷ keys_of p) → AreRising (l ∷ keys_of q)
    → SameValues (pair k v p) (pair l w q)
    → (AreRising (keys_of p) → AreRising (keys_of q) → SameValues p q → p ≡ q)
    → pair k v p ≡ pair l w q
same_first k l v w p q rising_p rising_q same others = by_order (slice_cmp nat_cmp k l) refl where
  equal : k ≡ l → pair k v p ≡ pair l w q
  equal is =
      let rising_l : AreRising (l ∷ keys_of p) = subst (λ key. AreRising (key ∷ keys_of p)) is rising_p in
      let same_l : SameValues (pair l v p) (pair l w q) =
      subst (λ (first : List ℕ). SameValues (pair first v p) (pair l w q)) is same in
      let value : v ≡ w =
      some_is_one v w (value_in l (pair l v p)) (first_value l v p) (same_l l ∙ first_value l w q) in
      let rest : p ≡ q =
      others (rising_rest l (keys_of p) rising_l) (rising_rest l (keys_of q) rising_q)
      (same_rest l v w p q rising_l rising_q same_l) in
      cc

  by_order : (o : Ordering) → slice_cmp nat_cmp k l ≡ o → pair k v p ≡ pair l w q
  by_order Less e =
      absurd (some_is_not_none v (value_in k (pair l w q)) (sym (same k) ∙ first_value k v p)
      (none_before k (pair l w q) (e, rising_q)))
  by_order Equal e = equal (slice_cmp-IsAntisymmetric nat_cmp-IsAntisymmetric k l e)
  by_order Greater e =
      let less : slice_cmp nat_cmp l k ≡ Less = nat_list_cmp_total.antisymm l k ∙ ap ordering_reverse e in
      absurd (some_is_not_none w (value_in l (pair k v p)) (same l ∙ first_value l w q)
      (none_before l (pair k v p) (less, rising_p)))

-- rising pairs with the same value for each key are the same pairs
pub same_pairs : (p q : Pairs) → AreRising (keys_of p) → AreRising (keys_of q)
    → ((key : List ℕ) → value_in key p ≡ value_in key q) → p ≡ q
same_pairs no_pairs no_pairs rising_p rising_q same = refl
same_pairs no_pairs (pair k v q) rising_p rising_q same =
    absurd (some_is_not_none v (value_in k (pair k v q)) (first_value k v q) (sym (same k)))
same_pairs (pair k v p) no_pairs rising_p rising_q same =
    absurd (some_is_not_none v (value_in k (pair k v p)) (first_value k v p) (same k))
same_pairs (pair k v p) (pair l w q) rising_p rising_q same =
    same_first k l v w p q rising_p rising_q same (λ rp rq s. same_pairs p q rp rq s)

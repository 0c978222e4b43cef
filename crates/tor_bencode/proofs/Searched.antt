-- Where a key stands among rising ones, as a search by halving finds it.
use Rattle.tor_bencode.proofs.Names.{◌≡◌, ◌<◌, ℕ, zero, suc, List, [], ◌∷◌, length, get_or, Less, sym, ap, subst}
use Rattle.tor_bencode.proofs.Names.{◌∙◌, arith, nat_cmp, slice_cmp, keys_of, AreRising, false, Some, None, Ordering}
use Rattle.tor_bencode.proofs.Names.{Equal, Greater, Result, Ok, Err, IfOk, IfErr, refl, inl, inr}
use Rattle.tor_bencode.proofs.Names.{searchable_from_sorted, is_eq-slice_cmp, cases_lt, nat_list_cmp_total}
use Rattle.tor_bencode.proofs.Names.{slice_cmp-IsAntisymmetric, nat_cmp-IsAntisymmetric, IsBinarySearchResult}
use Rattle.tor_bencode.proofs.Names.{IsSearchInRange, IsSortedBy, is_eq, is_lt, ordering_reverse, bytes_eq, slice_get}
use Rattle.tor_bencode.proofs.Names.{value_in, Bor, ItemRef, ref_pairs_view, ref_view}
use Rattle.tor_bencode.proofs.Keys.{first_value, later_value, rising_rest, rising_skip}

abbrev pub RefPair : Type 0
RefPair = Bor (List ℕ) × ItemRef

abbrev pub RefsRise : List RefPair → Type 0
RefsRise pairs = AreRising (keys_of (ref_pairs_view pairs))

-- keys that a comparison tells apart are not the same
differ : (o : Ordering) → is_eq o ≡ false → (one other : List ℕ) → slice_cmp nat_cmp one other ≡ o
    → bytes_eq one other ≡ false
differ o apart one other is = sym (is_eq-slice_cmp one other) ∙ ap is_eq is ∙ apart

-- the first of rising keys comes before each later one
first_below : (pairs : List RefPair) (first : List ℕ) (k : ℕ) (d : RefPair)
    → AreRising (first ∷ keys_of (ref_pairs_view pairs)) → k < length pairs → slice_cmp nat_cmp first (get_or pairs k d).0.now ≡ Less
first_below [] first k d h lt = absurd (omega (arith, lt))
first_below (p ∷ pairs) first zero d h lt = h.0
first_below (p ∷ pairs) first (suc k) d h lt =
    first_below pairs first k d (rising_skip first p.0.now (keys_of (ref_pairs_view pairs)) h) (omega arith)

-- what stands under a key is its value
pub value_at : (pairs : List RefPair) (key : List ℕ) (k : ℕ) (d : RefPair) → RefsRise pairs → k < length pairs
    → (get_or pairs k d).0.now ≡ key → value_in key (ref_pairs_view pairs) ≡ Some (ref_view (get_or pairs k d).1)
value_at [] key k d h lt is = absurd (omega (arith, lt))
value_at (p ∷ pairs) key zero d h lt is =
    ap (λ q. value_in q (ref_pairs_view (p ∷ pairs))) (sym is)
    ∙ first_value p.0.now (ref_view p.1) (ref_pairs_view pairs)
value_at (p ∷ pairs) key (suc k) d h lt is =
    let below = first_below pairs p.0.now k d h (omega arith) in
    let less = subst (λ q. slice_cmp nat_cmp p.0.now q ≡ Less) is below in
    later_value key p.0.now (ref_view p.1) (ref_pairs_view pairs) (differ Less refl p.0.now key less)
    ∙ value_at pairs key k d (rising_rest p.0.now (keys_of (ref_pairs_view pairs)) h) (omega arith) is

-- a key that is none of them has no value
none_there : (pairs : List RefPair) (key : List ℕ)
    → ((k : ℕ) (d : RefPair) → k < length pairs → bytes_eq (get_or pairs k d).0.now key ≡ false)
    → value_in key (ref_pairs_view pairs) ≡ None
none_there [] key others = refl
none_there (p ∷ pairs) key others =
    later_value key p.0.now (ref_view p.1) (ref_pairs_view pairs) (others 0 p (omega arith))
    ∙ none_there pairs key (λ k d lt. others (suc k) d (omega arith))

-- no key comes before the one before it
neighbours : (pairs : List RefPair) (k : ℕ) (d : RefPair) → RefsRise pairs → suc k < length pairs
    → is_lt (slice_cmp nat_cmp (get_or pairs (suc k) d).0.now (get_or pairs k d).0.now) ≡ false
neighbours [] k d h high = absurd (omega (arith, high))
neighbours (p ∷ []) k d h high = absurd (omega (arith, high))
neighbours (p ∷ q ∷ pairs) zero d h high =
    ap is_lt (nat_list_cmp_total.antisymm q.0.now p.0.now ∙ ap ordering_reverse h.0)
neighbours (p ∷ q ∷ pairs) (suc k) d h high = neighbours (q ∷ pairs) k d h.1 (omega arith)

-- so they are sorted
sorted : (pairs : List RefPair) → RefsRise pairs → IsSortedBy (λ p q. is_lt (slice_cmp nat_cmp p.0.now q.0.now)) pairs
sorted pairs h k d low high =
    subst (λ n. is_lt (slice_cmp nat_cmp (get_or pairs n d).0.now (get_or pairs k d).0.now) ≡ false)
    {x = suc k} (omega arith) (neighbours pairs k d h (omega arith))

module _ (pairs : List RefPair) (rising : RefsRise pairs) (key : List ℕ) where
  -- the index that the search ends at has the key's value
  found : (k : ℕ) (d : RefPair) → k < length pairs → slice_cmp nat_cmp (get_or pairs k d).0.now key ≡ Equal
      → value_in key (ref_pairs_view pairs) ≡ Some (ref_view (get_or pairs k d).1)
  found k d lt equal = value_at pairs key k d rising lt (slice_cmp-IsAntisymmetric nat_cmp-IsAntisymmetric _ key equal)

  -- where it finds none, all keys before that index are less, and all others greater
  absent : (k : ℕ) → IsBinarySearchResult (λ p. slice_cmp nat_cmp p.0.now key) pairs (Err k)
      → value_in key (ref_pairs_view pairs) ≡ None
  absent k parted =
      let parts = parted (searchable_from_sorted nat_list_cmp_total (λ p. p.0.now) pairs key (sorted pairs rising)) in
      none_there pairs key (λ i d lt. elim (cases_lt i k) [
        | inl below ↦ differ Less refl _ key (parts.0 i d (omega arith) below)
        | inr above ↦ differ Greater refl _ key (parts.1 i d above lt)
      ])

  pub searched : (r : Result ℕ ℕ) → IsSearchInRange r (length pairs)
      → IsBinarySearchResult (λ p. slice_cmp nat_cmp p.0.now key) pairs r
      → IfOk r (λ k. (d : RefPair) → value_in key (ref_pairs_view pairs) ≡ Some (ref_view (get_or pairs k d).1))
      × IfErr r (λ k. value_in key (ref_pairs_view pairs) ≡ None)
  searched (Ok k) in_range equal = (λ d. found k d in_range (equal d), tt)
  searched (Err k) in_range parted = (tt, absent k parted)

-- there are as many keys as pairs
pub length-keys : (pairs : List RefPair) → length (keys_of (ref_pairs_view pairs)) ≡ length pairs
length-keys [] = refl
length-keys (p ∷ pairs) = ap (λ (n : ℕ). suc n) (length-keys pairs)

-- the key of a pair
named_at : (pairs : List RefPair) (k : ℕ) (d : RefPair) → k < length pairs
    → slice_get (keys_of (ref_pairs_view pairs)) k ≡ Some (get_or pairs k d).0.now
named_at [] k d lt = absurd (omega (arith, lt))
named_at (p ∷ pairs) zero d lt = refl
named_at (p ∷ pairs) (suc k) d lt = named_at pairs k d (omega arith)

-- what a search finds has the key that was looked for
pub searched_name : (pairs : List RefPair) (key : List ℕ) (r : Result ℕ ℕ) → IsSearchInRange r (length pairs)
    → IsBinarySearchResult (λ p. slice_cmp nat_cmp p.0.now key) pairs r
    → IfOk r (λ k. slice_get (keys_of (ref_pairs_view pairs)) k ≡ Some key)
searched_name [] key (Ok k) in_range equal = absurd (omega (arith, in_range))
searched_name (p ∷ pairs) key (Ok k) in_range equal =
    named_at (p ∷ pairs) k p in_range
    ∙ ap Some (slice_cmp-IsAntisymmetric nat_cmp-IsAntisymmetric _ key (equal p))
searched_name pairs key (Err k) in_range parted = tt

-- A root with another tracker, cut at the keys that change.
use Rattle.tor_edit.proofs.Names.{◌≡◌, ◌∷◌, ◌∙◌, ℕ, true, false, cond, List, Option, None, Some, Ordering, Less}
use Rattle.tor_edit.proofs.Names.{Equal, Greater, refl, sym, ap, subst, codes, bytes_eq, match_ordering, Data, string}
use Rattle.tor_edit.proofs.Names.{Pairs, no_pairs, pair, keys_of, AreRising, no_value_before_the_first_key, put}
use Rattle.tor_edit.proofs.Names.{announced, without, after, before, joined, tracker_pair, ap₂, cases_Bool, inl, inr}
use Rattle.tor_edit.proofs.Names.{bytes_eq-Decides}
use Rattle.tor_edit.proofs.Pairs.{order, equal_keys, other_greater, same_key, rising_rest, without-joined}
use Rattle.tor_edit.proofs.Pairs.{without_none}

-- a pair that is put stands between those before and those after its key
put_cut : (key : List ℕ) (value : Data) (pairs : Pairs)
    → put key value pairs ≡ joined (before key pairs) (pair key value (after key pairs))
put_cut key value no_pairs = refl
put_cut key value (pair k v pairs) = by_order (order key k) (put_cut key value pairs)
  where
    by_order : (o : Ordering) → put key value pairs ≡ joined (before key pairs) (pair key value (after key pairs))
        → match_ordering o (pair key value (pair k v pairs)) (pair key value pairs) (pair k v (put key value pairs))
        ≡ joined (match_ordering o no_pairs no_pairs (pair k v (before key pairs)))
        (pair key value (match_ordering o (pair k v pairs) pairs (after key pairs)))
    by_order Less later = refl
    by_order Equal later = refl
    by_order Greater later = ap (λ rest. pair k v rest) later

-- a key that comes before rising ones is not among them
without_before : (key : List ℕ) (pairs : Pairs) → AreRising (key ∷ keys_of pairs) → without key pairs ≡ pairs
without_before key pairs rising = without_none key pairs (no_value_before_the_first_key key pairs rising)

-- without a key the pairs before and after it are left
without_cut : (key : List ℕ) (pairs : Pairs) → AreRising (keys_of pairs)
    → without key pairs ≡ joined (before key pairs) (after key pairs)
without_cut key no_pairs rising = refl
without_cut key (pair k v pairs) rising =
    by_order (order key k) refl (without_cut key pairs (rising_rest k (keys_of pairs) rising))
  where
    by_order : (o : Ordering) → order key k ≡ o → without key pairs ≡ joined (before key pairs) (after key pairs)
        → without key (pair k v pairs)
        ≡ joined (match_ordering o no_pairs no_pairs (pair k v (before key pairs)))
        (match_ordering o (pair k v pairs) pairs (after key pairs))
    by_order Less e later = without_before key (pair k v pairs) (e, rising)
    by_order Equal e later =
        let same : key ≡ k = equal_keys key k e in
        let gone : without key (pair k v pairs) ≡ without key pairs =
        ap (λ b. cond b (without key pairs) (pair k v (without key pairs)))
        (subst (λ name. bytes_eq name key ≡ true) same (same_key key)) in
        gone ∙ without_before key pairs (subst (λ name. AreRising (name ∷ keys_of pairs)) (sym same) rising)
    by_order Greater e later =
        ap (λ b. cond b (without key pairs) (pair k v (without key pairs))) (other_greater key k e)
        ∙ ap (λ rest. pair k v rest) later

-- what comes before a key has no later one
before_kept : (key later : List ℕ) (pairs : Pairs) → order key later ≡ Less
    → without later (before key pairs) ≡ before key pairs
before_kept key later no_pairs less = refl
before_kept key later (pair k v pairs) less = by_order (order key k) refl (before_kept key later pairs less)
  where
    apart : order key k ≡ Greater → bytes_eq k later ≡ false
    apart e = elim (cases_Bool (bytes_eq k later)) [
      | inl same ↦
          absurd (differ (subst (λ name. order key name ≡ Greater) ((bytes_eq-Decides k later).0 same) e))
      | inr other ↦ other
    ]
      where
        differ : order key later ≡ Greater → ⊥
        differ greater = let both : Less ≡ Greater = sym less ∙ greater in cc

    by_order : (o : Ordering) → order key k ≡ o → without later (before key pairs) ≡ before key pairs
        → without later (match_ordering o no_pairs no_pairs (pair k v (before key pairs)))
        ≡ match_ordering o no_pairs no_pairs (pair k v (before key pairs))
    by_order Less e rest = refl
    by_order Equal e rest = refl
    by_order Greater e rest =
        ap (λ b. cond b (without later (before key pairs)) (pair k v (without later (before key pairs)))) (apart e)
        ∙ ap (λ others. pair k v others) rest

rising_after : (key : List ℕ) (pairs : Pairs) → AreRising (keys_of pairs) → AreRising (keys_of (after key pairs))
rising_after key no_pairs rising = tt
rising_after key (pair k v pairs) rising =
    by_order (order key k) (rising_after key pairs (rising_rest k (keys_of pairs) rising))
  where
    by_order : (o : Ordering) → AreRising (keys_of (after key pairs))
        → AreRising (keys_of (match_ordering o (pair k v pairs) pairs (after key pairs)))
    by_order Less later = rising
    by_order Equal later = rising_rest k (keys_of pairs) rising
    by_order Greater later = later

abbrev announce : List ℕ
announce = codes "announce"

abbrev announce_list : List ℕ
announce_list = codes "announce-list"

-- the pairs between the two keys, and those after both
abbrev between : Pairs → Pairs
between pairs = before announce_list (after announce pairs)

abbrev behind : Pairs → Pairs
behind pairs = after announce_list (after announce pairs)

-- the tracker, and what follows it
tail_cut : (pairs : Pairs) → AreRising (keys_of pairs)
    → without announce_list (after announce pairs) ≡ joined (between pairs) (behind pairs)
tail_cut pairs rising = without_cut announce_list (after announce pairs) (rising_after announce pairs rising)

head_kept : (pairs : Pairs) → without announce_list (before announce pairs) ≡ before announce pairs
head_kept pairs = before_kept announce announce_list pairs refl

-- the pairs before `announce`, the tracker, the pairs up to `announce-list`, the pairs after it
pub edited_cut : (tracker : Option (List ℕ)) (pairs : Pairs) → AreRising (keys_of pairs)
    → without (codes "announce-list") (announced tracker pairs)
    ≡ joined (before (codes "announce") pairs) (joined (tracker_pair tracker)
    (joined (before (codes "announce-list") (after (codes "announce") pairs))
    (after (codes "announce-list") (after (codes "announce") pairs))))
edited_cut None pairs rising =
    ap (without announce_list) (without_cut announce pairs rising)
    ∙ without-joined announce_list (before announce pairs) (after announce pairs)
    ∙ ap₂ joined (head_kept pairs) (tail_cut pairs rising)
edited_cut (Some url) pairs rising =
    ap (without announce_list) (put_cut announce (string url) pairs)
    ∙ without-joined announce_list (before announce pairs) (pair announce (string url) (after announce pairs))
    ∙ ap₂ (λ front back. joined front (pair announce (string url) back)) (head_kept pairs) (tail_cut pairs rising)

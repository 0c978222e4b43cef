-- Keys that rise, and pairs one after another.
use Rattle.tor_edit.proofs.Names.{◌≡◌, ◌++◌, ◌∷◌, ◌∙◌, ℕ, Bool, true, false, cond, List, [], None, Some, Ordering}
use Rattle.tor_edit.proofs.Names.{Less, Equal, Greater, refl, sym, ap, true≢false, append_assoc, false_from_ne_true}
use Rattle.tor_edit.proofs.Names.{none-some, bytes_eq, bytes_eq-Decides, texts_ties, is_eq, nat_cmp, slice_cmp, Data}
use Rattle.tor_edit.proofs.Names.{Pairs, no_pairs, pair, value_in, AreRising, pairs_spelling, spelling}
use Rattle.tor_edit.proofs.Names.{string_spelling, joined, without}

abbrev pub order : List ℕ → List ℕ → Ordering
order = slice_cmp nat_cmp

pub equal_keys : (one other : List ℕ) → order one other ≡ Equal → one ≡ other
equal_keys one other e = (bytes_eq-Decides one other).0 (texts_ties one other ∙ ap is_eq e)

order_of_equal : (one other : List ℕ) → one ≡ other → is_eq (order one other) ≡ true
order_of_equal one other same = sym (texts_ties one other) ∙ (bytes_eq-Decides one other).1 same

-- keys of which one comes before the other are not the same
pub other_less : (one other : List ℕ) → order one other ≡ Less → bytes_eq other one ≡ false
other_less one other e =
    false_from_ne_true (bytes_eq other one) (λ same. true≢false
    (sym (order_of_equal one other (sym ((bytes_eq-Decides other one).0 same))) ∙ ap is_eq e))

pub other_greater : (one other : List ℕ) → order one other ≡ Greater → bytes_eq other one ≡ false
other_greater one other e =
    false_from_ne_true (bytes_eq other one) (λ same. true≢false
    (sym (order_of_equal one other (sym ((bytes_eq-Decides other one).0 same))) ∙ ap is_eq e))

pub same_key : (key : List ℕ) → bytes_eq key key ≡ true
same_key key = (bytes_eq-Decides key key).1 refl

pub rising_rest : (key : List ℕ) (keys : List (List ℕ)) → AreRising (key ∷ keys) → AreRising keys
rising_rest key [] h = tt
rising_rest key (next ∷ keys) h = h.1

pub spelling-joined : (front back : Pairs)
    → pairs_spelling (joined front back) ≡ pairs_spelling front ++ pairs_spelling back
spelling-joined no_pairs back = refl
spelling-joined (pair key value front) back =
    ap (λ text. string_spelling key ++ spelling value ++ text) (spelling-joined front back)
    ∙ sym (append_assoc (string_spelling key ++ spelling value) (pairs_spelling front) (pairs_spelling back))

without_step : (b : Bool) (key : List ℕ) (value : Data) (front back rest all : Pairs) → rest ≡ joined front back
    → cond b rest (pair key value rest) ≡ joined (cond b front (pair key value front)) back
without_step true key value front back rest all e = e
without_step false key value front back rest all e = ap (λ pairs. pair key value pairs) e

-- without a key one after another
pub without-joined : (key : List ℕ) (front back : Pairs)
    → without key (joined front back) ≡ joined (without key front) (without key back)
without-joined key no_pairs back = refl
without-joined key (pair k value front) back =
    without_step (bytes_eq k key) k value (without key front) (without key back) (without key (joined front back))
    no_pairs (without-joined key front back)

-- without a key that is not there nothing changes
pub without_none : (key : List ℕ) (pairs : Pairs) → value_in key pairs ≡ None → without key pairs ≡ pairs
without_none key no_pairs none = refl
without_none key (pair k value pairs) none = by_test (bytes_eq k key) none (without_none key pairs)
  where
    by_test : (b : Bool) → cond b (Some value) (value_in key pairs) ≡ None
        → (value_in key pairs ≡ None → without key pairs ≡ pairs)
        → cond b (without key pairs) (pair k value (without key pairs)) ≡ pair k value pairs
    by_test true none later = absurd (none-some value (sym none))
    by_test false none later = ap (λ rest. pair k value rest) (later none)

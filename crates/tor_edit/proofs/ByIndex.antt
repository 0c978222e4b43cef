-- Pairs by their indices: what comes before and after a key, and where pairs are spelled.
use Rattle.tor_edit.proofs.Names.{◌≡◌, ◌+◌, ◌-◌, ◌<◌, ◌≤◌, ◌++◌, ◌∷◌, ◌∙◌, ℕ, zero, suc, Bool, true, false, cond}
use Rattle.tor_edit.proofs.Names.{List, [], Option, None, Some, Ordering, Less, Equal, Greater, Bor, refl, sym, ap}
use Rattle.tor_edit.proofs.Names.{subst, arith, length, get_or, take, drop, drop_more, take_more, take_all, drop_all}
use Rattle.tor_edit.proofs.Names.{length-append, option_map, cases_Bool, inl, inr, none-some, match_ordering}
use Rattle.tor_edit.proofs.Names.{bytes_eq, bytes_eq-Decides, Data, Pairs, no_pairs, pair, keys_of, value_in}
use Rattle.tor_edit.proofs.Names.{AreRising, no_value_before_the_first_key, ItemRef, view, same_Some, unwrap_or}
use Rattle.tor_edit.proofs.Names.{dictionary, HasRisingKeys, pairs_view, span_in, span_of, pairs_spelling, spelling}
use Rattle.tor_edit.proofs.Names.{string_spelling, after, before, joined}
use Rattle.tor_edit.proofs.Pairs.{order, rising_rest, same_key}

abbrev pub Pair : Type 0
Pair = Bor (List ℕ) × ItemRef

pub joined-no_pairs : (front : Pairs) → joined front no_pairs ≡ front
joined-no_pairs no_pairs = refl
joined-no_pairs (pair k v front) = ap (λ rest. pair k v rest) (joined-no_pairs front)

joined-assoc : (a b c : Pairs) → joined (joined a b) c ≡ joined a (joined b c)
joined-assoc no_pairs b c = refl
joined-assoc (pair k v a) b c = ap (λ rest. pair k v rest) (joined-assoc a b c)

pub view-append : (xs ys : List Pair) → pairs_view (xs ++ ys) ≡ joined (pairs_view xs) (pairs_view ys)
view-append [] ys = refl
view-append (x ∷ xs) ys = ap (λ rest. pair x.0.now (view x.1) rest) (view-append xs ys)

-- one more pair in front
one_more : (xs : List Pair) (i : ℕ) (x : Pair) → i < length xs → x ≡ get_or xs i x
    → pairs_view (take (i + 1) xs) ≡ joined (pairs_view (take i xs)) (pair x.0.now (view x.1) no_pairs)
one_more xs i x within is =
    ap pairs_view (take_more xs i x within)
    ∙ view-append (take i xs) (get_or xs i x ∷ [])
    ∙ ap (λ (y : Pair). joined (pairs_view (take i xs)) (pair y.0.now (view y.1) no_pairs)) (sym is)

-- and one less behind
one_less : (xs : List Pair) (i : ℕ) (x : Pair) → i < length xs → x ≡ get_or xs i x
    → pairs_view (drop i xs) ≡ pair x.0.now (view x.1) (pairs_view (drop (i + 1) xs))
one_less xs i x within is =
    ap pairs_view (drop_more xs i x within)
    ∙ ap (λ (y : Pair). pair y.0.now (view y.1) (pairs_view (drop (i + 1) xs))) (sym is)

module _ (xs : List Pair) (key : List ℕ) (i : ℕ) (x : Pair) (within : i < length xs) (is : x ≡ get_or xs i x) where
  abbrev front : Pairs
  front = pairs_view (take i xs)

  abbrev back : Pairs
  back = pairs_view (drop i xs)

  abbrev rest : Pairs
  rest = pairs_view (drop (i + 1) xs)

  -- what comes before the key from here on, and what after it, by the order of the key and this pair's
  abbrev before_by : Ordering → Pairs
  before_by o = match_ordering o no_pairs no_pairs (pair x.0.now (view x.1) (before key rest))

  abbrev after_by : Ordering → Pairs
  after_by o = match_ordering o (pair x.0.now (view x.1) rest) rest (after key rest)

  before_here : before key back ≡ before_by (order key (get_or xs i x).0.now)
  before_here =
      ap (before key) (one_less xs i x within is) ∙ ap (λ (y : Pair). before_by (order key y.0.now)) is

  after_here : after key back ≡ after_by (order key (get_or xs i x).0.now)
  after_here = ap (after key) (one_less xs i x within is) ∙ ap (λ (y : Pair). after_by (order key y.0.now)) is

  -- the pairs so far are those before the key, but for what comes from here on
  abbrev FrontSoFar : Type 0
  FrontSoFar = joined front (before key back) ≡ before key (pairs_view xs)

  abbrev BackSoFar : Type 0
  BackSoFar = after key back ≡ after key (pairs_view xs)

  -- the key comes before the pair, or the pair has it: what comes before the key is complete
  front_ends : (o : Ordering) → order key (get_or xs i x).0.now ≡ o → before_by o ≡ no_pairs → FrontSoFar
      → front ≡ before key (pairs_view xs)
  front_ends o e none so_far =
      sym (joined-no_pairs front) ∙ ap (joined front) (sym (before_here ∙ ap before_by e ∙ none)) ∙ so_far

  pub front_at_less : order key (get_or xs i x).0.now ≡ Less → FrontSoFar → front ≡ before key (pairs_view xs)
  front_at_less e so_far = front_ends Less e refl so_far

  pub front_at_equal : order key (get_or xs i x).0.now ≡ Equal → FrontSoFar → front ≡ before key (pairs_view xs)
  front_at_equal e so_far = front_ends Equal e refl so_far

  pub back_at_less : order key (get_or xs i x).0.now ≡ Less → BackSoFar → back ≡ after key (pairs_view xs)
  back_at_less e so_far =
      one_less xs i x within is ∙ sym (ap after_by e) ∙ sym after_here ∙ so_far

  pub back_at_equal : order key (get_or xs i x).0.now ≡ Equal → BackSoFar → rest ≡ after key (pairs_view xs)
  back_at_equal e so_far = sym (ap after_by e) ∙ sym after_here ∙ so_far

  -- the pair comes before the key
  pub front_goes_on : order key (get_or xs i x).0.now ≡ Greater → FrontSoFar
      → joined (pairs_view (take (i + 1) xs)) (before key rest) ≡ before key (pairs_view xs)
  front_goes_on e so_far =
      ap (λ (some : Pairs). joined some (before key rest)) (one_more xs i x within is)
      ∙ joined-assoc front (pair x.0.now (view x.1) no_pairs) (before key rest)
      ∙ ap (joined front) (sym (before_here ∙ ap before_by e))
      ∙ so_far

  pub back_goes_on : order key (get_or xs i x).0.now ≡ Greater → BackSoFar → after key rest ≡ after key (pairs_view xs)
  back_goes_on e so_far = sym (ap after_by e) ∙ sym after_here ∙ so_far

-- at the end
pub front_at_end : (xs : List Pair) (key : List ℕ) (i : ℕ) → length xs ≤ i
    → joined (pairs_view (take i xs)) (before key (pairs_view (drop i xs))) ≡ before key (pairs_view xs)
    → pairs_view xs ≡ before key (pairs_view xs)
front_at_end xs key i all so_far =
    sym (joined-no_pairs (pairs_view xs))
    ∙ ap (λ ys. joined (pairs_view ys) no_pairs) (sym (take_all i xs all))
    ∙ ap (λ ys. joined (pairs_view (take i xs)) (before key (pairs_view ys))) (sym (drop_all i xs all))
    ∙ so_far

is_found_later : (b : Bool) (first : Data) (later : Option Data) → cond b (Some first) later ≡ None
    → (later ≡ None → ⊥) → ⊥
is_found_later true first later none others = none-some first (sym none)
is_found_later false first later none others = others none

-- the keys of pairs are found among them
is_found : (xs : List Pair) (i : ℕ) (d : Pair) → i < length xs
    → value_in (get_or xs i d).0.now (pairs_view xs) ≡ None → ⊥
is_found [] i d within none = absurd (omega (arith, within))
is_found (x ∷ xs) zero d within none =
    let found : value_in x.0.now (pairs_view (x ∷ xs)) ≡ Some (view x.1) =
    ap (λ b. cond b (Some (view x.1)) (value_in x.0.now (pairs_view xs))) (same_key x.0.now) in
    none-some (view x.1) (sym none ∙ found)
is_found (x ∷ xs) (suc i) d within none =
    let key = (get_or xs i d).0.now in
    is_found_later (bytes_eq x.0.now key) (view x.1) (value_in key (pairs_view xs)) none
    (is_found xs i d (omega arith))

-- rising keys are apart
apart : (x : Pair) (xs : List Pair) (i : ℕ) (d : Pair) → AreRising (keys_of (pairs_view (x ∷ xs))) → i < length xs
    → bytes_eq x.0.now (get_or xs i d).0.now ≡ false
apart x xs i d rising within =
    elim (cases_Bool (bytes_eq x.0.now (get_or xs i d).0.now)) [
      | inl same ↦
          absurd (is_found xs i d within
          (subst (λ (key : List ℕ). value_in key (pairs_view xs) ≡ None)
          ((bytes_eq-Decides x.0.now (get_or xs i d).0.now).0 same)
          (no_value_before_the_first_key x.0.now (pairs_view xs) rising)))
      | inr other ↦ other
    ]

pub length-pair : (key : List ℕ) (d : Data) (pairs : Pairs)
    → length (pairs_spelling (pair key d pairs))
    ≡ length (string_spelling key) + length (spelling d) + length (pairs_spelling pairs)
length-pair key d pairs =
    length-append (string_spelling key ++ spelling d) (pairs_spelling pairs)
    ∙ ap (λ n. n + length (pairs_spelling pairs)) (length-append (string_spelling key) (spelling d))

-- the value of a key ends where the pairs up to it end
pub span_ends : (xs : List Pair) (i : ℕ) (d : Pair) (at : ℕ) → AreRising (keys_of (pairs_view xs)) → i < length xs
    → option_map (λ span. span.1) (span_in at (get_or xs i d).0.now (pairs_view xs))
    ≡ Some (at + length (pairs_spelling (pairs_view (take (suc i) xs))))
span_ends [] i d at rising within = absurd (omega (arith, within))
span_ends (x ∷ xs) zero d at rising within =
    let start = at + length (string_spelling x.0.now) in
    let end = start + length (spelling (view x.1)) in
    ap (λ b. option_map (λ (span : ℕ × ℕ). span.1) (cond b (Some (start, end))
    (span_in end x.0.now (pairs_view xs)))) (same_key x.0.now)
    ∙ ap Some (omega (arith, length-pair x.0.now (view x.1) no_pairs))
span_ends (x ∷ xs) (suc i) d at rising within =
    let start = at + length (string_spelling x.0.now) in
    let end = start + length (spelling (view x.1)) in
    let key = (get_or xs i d).0.now in
    ap (λ b. option_map (λ (span : ℕ × ℕ). span.1) (cond b (Some (start, end)) (span_in end key (pairs_view xs))))
    (apart x xs i d rising (omega arith))
    ∙ span_ends xs i d end (rising_rest x.0.now (keys_of (pairs_view xs)) rising) (omega arith)
    ∙ ap Some (omega (arith, length-pair x.0.now (view x.1) (pairs_view (take (suc i) xs))))

known_end : (found : Option (ℕ × ℕ)) (end : ℕ) → option_map (λ span. span.1) found ≡ Some end
    → (unwrap_or found (1, 1)).1 ≡ end
known_end None end e = absurd (none-some end e)
known_end (Some span) end e = same_Some span.1 end e

-- where as many pairs end as this, in the spelling of the root
pub end_at : (xs : List Pair) (count : ℕ) (d : Pair) (root : Data) (found : Option (ℕ × ℕ)) → HasRisingKeys root
    → root ≡ dictionary (pairs_view xs) → 0 < count → count ≤ length xs
    → found ≡ span_of (get_or xs (count - 1) d).0.now root
    → (unwrap_or found (1, 1)).1 ≡ 1 + length (pairs_spelling (pairs_view (take count xs)))
end_at xs zero d root found rising seen some within found_is = absurd (omega (arith, some))
end_at xs (suc i) d root found rising seen some within found_is =
    let first : suc i - 1 ≡ i = omega arith in
    let rises : AreRising (keys_of (pairs_view xs)) = (subst HasRisingKeys seen rising).0 in
    known_end found (1 + length (pairs_spelling (pairs_view (take (suc i) xs))))
    (ap (option_map (λ (span : ℕ × ℕ). span.1))
    (found_is ∙ ap (λ k. span_of (get_or xs k d).0.now root) first ∙ ap (span_of (get_or xs i d).0.now) seen)
    ∙ span_ends xs i d 1 rises (omega arith))

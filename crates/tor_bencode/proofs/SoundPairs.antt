-- What is read is spelled so: pairs one after another. Where reading stops there is a fault.
use Rattle.tor_bencode.proofs.Names.{◌≡◌, ℕ, zero, suc, ◌≤◌, List, [], ◌∷◌, ◌++◌, length, true, false, cond, ◌==◌}
use Rattle.tor_bencode.proofs.Names.{Option, Some, None, Ok, Err, Ordering, Less, Equal, Greater, refl, sym, ap, ◌∙◌}
use Rattle.tor_bencode.proofs.Names.{arith, inl, inr, ◌⊎◌, is_ascii_digit, is_lt, false≢true, true≢false, nat_tests}
use Rattle.tor_bencode.proofs.Names.{Data, Pairs, no_pairs, pair, keys_of, IsBadKey, IsOutOfOrder, IsFaultIn}
use Rattle.tor_bencode.proofs.Names.{IsLawfulWithin, PairsAreLawfulWithin, ◌>>=◌, Reading, follows, string_at, pairs_at}
use Rattle.tor_bencode.proofs.Names.{spelling, string_spelling, pairs_spelling, Fault, Truncated, BadLength}
use Rattle.tor_bencode.proofs.Names.{KeyNotBytes, KeyOrder}
use Rattle.tor_bencode.proofs.Lawfulness.{lawful-pair, lawful-no_pairs}
use Rattle.tor_bencode.proofs.ReadBack.{AreRisingAfter, last_after}
use Rattle.tor_bencode.proofs.Runs.{by_test}
use Rattle.tor_bencode.proofs.Spelled.{shorter-spelling, shorter-string, pair_spelled}
use Rattle.tor_bencode.proofs.Strings.{IsBadString, StringIs, string_sound}
use Rattle.tor_bencode.proofs.Sound.{ValueIs}

-- lawful pairs, and then a fault at a key, or in the value of a key
abbrev pub PairsStop : ℕ → Option (List ℕ) → List ℕ → Fault → List ℕ → Type 0
PairsStop room last bytes fault from =
    ((pairs : Pairs) × (rest : List ℕ) × (bytes ≡ pairs_spelling pairs ++ rest) × PairsAreLawfulWithin room pairs
    × AreRisingAfter last (keys_of pairs) × IsBadKey (last_after last pairs) rest fault from)
    ⊎ ((pairs : Pairs) × (key : List ℕ) × (rest : List ℕ)
    × (bytes ≡ pairs_spelling pairs ++ (string_spelling key ++ rest)) × PairsAreLawfulWithin room pairs
    × AreRisingAfter last (keys_of pairs ++ key ∷ []) × IsFaultIn room rest fault from)

abbrev pub PairsAre : ℕ → Option (List ℕ) → List ℕ → Reading Pairs → Type 0
PairsAre room last bytes (Ok x) =
    PairsAreLawfulWithin room x.0 × AreRisingAfter last (keys_of x.0) × (bytes ≡ pairs_spelling x.0 ++ 101 ∷ x.1)
PairsAre room last bytes (Err f) = PairsStop room last bytes f.0 f.1

pub is_lt_is : (o : Ordering) → is_lt o ≡ true → o ≡ Less
is_lt_is Less h = refl
is_lt_is Equal h = absurd (false≢true h)
is_lt_is Greater h = absurd (false≢true h)

pub rising_push : (last : Option (List ℕ)) (key : List ℕ) (keys : List (List ℕ)) → follows last key ≡ true
    → AreRisingAfter (Some key) keys → AreRisingAfter last (key ∷ keys)
rising_push None key keys order h = h
rising_push (Some last) key keys order h = (is_lt_is _ order, h)

pub rising_none : (last : Option (List ℕ)) → AreRisingAfter last []
rising_none None = tt
rising_none (Some last) = tt

out_of_order : (last : Option (List ℕ)) (key : List ℕ) → follows last key ≡ false → IsOutOfOrder last key
out_of_order None key h = absurd (true≢false h)
out_of_order (Some last) key h = λ e. true≢false (sym (ap is_lt e) ∙ h)

bad_key : (last : Option (List ℕ)) (bytes : List ℕ) (fault : Fault) (from : List ℕ) → IsBadString bytes fault from
    → IsBadKey last bytes fault from
bad_key last bytes Truncated from h = (inr h.0, h.1)
bad_key last bytes BadLength from h = h
bad_key last bytes fault from h = absurd h

stop_at_key : (room : ℕ) (last : Option (List ℕ)) (bytes : List ℕ) (fault : Fault) (from : List ℕ)
    → IsBadKey last bytes fault from → PairsStop room last bytes fault from
stop_at_key room last bytes fault from h = inl (no_pairs, bytes, refl, lawful-no_pairs room, rising_none last, h)

-- one pair, and what comes after it
pairs_next : (room : ℕ) (last : Option (List ℕ)) (bytes key middle : List ℕ) (d : Data) (after : List ℕ)
    (r : Reading Pairs)
    → bytes ≡ string_spelling key ++ middle → follows last key ≡ true → IsLawfulWithin room d
    → middle ≡ spelling d ++ after → PairsAre room (Some key) after r
    → PairsAre room last bytes (r >>= λ others. Ok (pair key d others.0, others.1))
pairs_next room last bytes key middle d after (Ok x) named order lawful is h = (
  (lawful-pair room key d x.0).1 (lawful, h.0),
  rising_push last key (keys_of x.0) order h.1,
  named ∙ ap (λ bs. string_spelling key ++ bs) (is ∙ ap (λ bs. spelling d ++ bs) h.2)
      ∙ sym (pair_spelled (string_spelling key) (spelling d) (pairs_spelling x.0) (101 ∷ x.1)),
)
pairs_next room last bytes key middle d after (Err f) named order lawful is (inl h) =
    inl (
      pair key d h.0,
      h.1,
      named ∙ ap (λ bs. string_spelling key ++ bs) (is ∙ ap (λ bs. spelling d ++ bs) h.2)
          ∙ sym (pair_spelled (string_spelling key) (spelling d) (pairs_spelling h.0) h.1),
      (lawful-pair room key d h.0).1 (lawful, h.3),
      rising_push last key (keys_of h.0) order h.4,
      h.5,
    )
pairs_next room last bytes key middle d after (Err f) named order lawful is (inr h) =
    inr (
      pair key d h.0,
      h.1,
      h.2,
      named ∙ ap (λ bs. string_spelling key ++ bs) (is ∙ ap (λ bs. spelling d ++ bs) h.3)
          ∙ sym (pair_spelled (string_spelling key) (spelling d) (pairs_spelling h.0) (string_spelling h.1 ++ h.2)),
      (lawful-pair room key d h.0).1 (lawful, h.4),
      rising_push last key (keys_of h.0 ++ h.1 ∷ []) order h.5,
      h.6,
    )

module _ (room : ℕ) (read : List ℕ → Reading Data) (sound : (bytes : List ℕ) → ValueIs room bytes (read bytes)) where
  pairs_after_value : (fuel : ℕ) (last : Option (List ℕ)) (bytes key middle : List ℕ) (r : Reading Data)
      → ((after : List ℕ) → length after ≤ fuel → PairsAre room (Some key) after (pairs_at read fuel (Some key) after))
      → length bytes ≤ suc fuel → bytes ≡ string_spelling key ++ middle → follows last key ≡ true
      → ValueIs room middle r
      → PairsAre room last bytes
      (r >>= λ value. pairs_at read fuel (Some key) value.1 >>= λ others. Ok (pair key value.0 others.0, others.1))
  pairs_after_value fuel last bytes key middle (Ok x) later enough named order h =
      pairs_next room last bytes key middle x.0 x.1 (pairs_at read fuel (Some key) x.1) named order h.0 h.1
      (later x.1 (omega (arith, shorter-string key bytes middle named, shorter-spelling x.0 middle x.1 h.1)))
  pairs_after_value fuel last bytes key middle (Err f) later enough named order h =
      inr (no_pairs, key, middle, named, lawful-no_pairs room, rising_push last key [] order tt, h)

  pairs_after_key : (fuel : ℕ) (last : Option (List ℕ)) (bytes : List ℕ) (r : Reading (List ℕ))
      → ((key after : List ℕ) → length after ≤ fuel
      → PairsAre room (Some key) after (pairs_at read fuel (Some key) after))
      → length bytes ≤ suc fuel → StringIs bytes r
      → PairsAre room last bytes (r >>= λ key.
      cond (follows last key.0)
      (read key.1 >>= λ value. pairs_at read fuel (Some key.0) value.1
      >>= λ others. Ok (pair key.0 value.0 others.0, others.1)) (Err (KeyOrder, bytes)))
  pairs_after_key fuel last bytes (Ok x) later enough named =
      by_test (follows last x.0) (PairsAre room last bytes) _ _
      (λ order. pairs_after_value fuel last bytes x.0 x.1 (read x.1) (later x.0) enough named order (sound x.1))
      (λ order. stop_at_key room last bytes KeyOrder bytes (x.0, x.1, named, out_of_order last x.0 order, refl))
  pairs_after_key fuel last bytes (Err f) later enough h =
      stop_at_key room last bytes f.0 f.1 (bad_key last bytes f.0 f.1 h)

  pub pairs_sound : (fuel : ℕ) (last : Option (List ℕ)) (bytes : List ℕ) → length bytes ≤ fuel
      → PairsAre room last bytes (pairs_at read fuel last bytes)
  pairs_sound zero last [] enough = stop_at_key room last [] Truncated [] (inl refl, refl)
  pairs_sound zero last (c ∷ rest) enough = absurd (omega arith)
  pairs_sound (suc fuel) last [] enough = stop_at_key room last [] Truncated [] (inl refl, refl)
  pairs_sound (suc fuel) last (c ∷ rest) enough =
      by_test (c == 101) (PairsAre room last (c ∷ rest)) _ _
      (λ end. (
        lawful-no_pairs room,
        rising_none last,
        ap (λ x. x ∷ rest) (let is : c ≡ 101 = grind (arith, nat_tests) in is),
      ))
      (λ other. by_test (is_ascii_digit c) (PairsAre room last (c ∷ rest)) _ _
      (λ digit. pairs_after_key fuel last (c ∷ rest) (string_at (c ∷ rest))
      (λ key after h. pairs_sound fuel (Some key) after h) enough (string_sound (c ∷ rest) (c, rest, refl, digit)))
      (λ none. stop_at_key room last (c ∷ rest) KeyNotBytes (c ∷ rest) (
        c,
        rest,
        refl,
        λ t. true≢false (sym t ∙ none),
        λ e. true≢false (let t : (c == 101) ≡ true = grind (arith, nat_tests) in sym t ∙ other),
        refl,
      )))

-- At the span of a key its value is spelled.
use Rattle.tor_bencode.proofs.Names.{◌≡◌, ℕ, ◌+◌, ◌-◌, List, ◌++◌, length, take, true, false, ◌↔◌, Option, Some, None}
use Rattle.tor_bencode.proofs.Names.{inl, inr, refl, sym, ap, ◌∙◌, subst, arith, append_assoc, cases_Bool}
use Rattle.tor_bencode.proofs.Names.{length-append, drop_at, take_at, codes, bytes_eq, Data, dictionary, Pairs}
use Rattle.tor_bencode.proofs.Names.{no_pairs, pair, value_in, value_of, span_in, span_of, IsSpelledAt, spelling}
use Rattle.tor_bencode.proofs.Names.{string_spelling, pairs_spelling}

-- what stands between a front and a back
between : (front back : List ℕ) (value : Data) (start end : ℕ) → start ≡ length front
    → end ≡ start + length (spelling value)
    → IsSpelledAt value (front ++ (spelling value ++ back)) start end
between front back value start end from to =
    record {
      ordered = omega arith;
      within = simp length-append (omega (arith, from, to));
      spelled =
          let long : end - start ≡ length (spelling value) = omega (arith, to) in
          ap (take (end - start)) (drop_at front (spelling value ++ back) start (sym from))
          ∙ take_at (spelling value) back (end - start) (sym long);
    }

-- the value of the key, and where it is spelled
abbrev pub Found : List ℕ → Option Data → List ℕ → ℕ → ℕ → Type 0
Found key found bytes start end = (value : Data) × (found ≡ Some value) × IsSpelledAt value bytes start end

spans_are : (x y : ℕ × ℕ) → Some x ≡ Some y → x ≡ y
spans_are x y e = cc

nowhere : (x : ℕ × ℕ) → None ≡ Some x → ⊥
nowhere x e = cc

-- at the first pair, or among the others
module _ (key k : List ℕ) (value : Data) (pairs : Pairs) (front back : List ℕ) (at start end : ℕ)
    (is : at ≡ length front) where
  abbrev name : List ℕ
  name = string_spelling k

  abbrev all : List ℕ
  all = front ++ (pairs_spelling (pair k value pairs) ++ back)

  at_first : bytes_eq k key ≡ true → span_in at key (pair k value pairs) ≡ Some (start, end)
      → Found key (value_in key (pair k value pairs)) all start end
  at_first t e =
      let spans = spans_are (at + length name, at + length name + length (spelling value)) (start, end) (rw t at e) in
      let from : start ≡ length (front ++ name) = omega (arith, is, ap (λ p. p.0) spans, length-append front name) in
      let to : end ≡ start + length (spelling value) = omega (arith, ap (λ p. p.0) spans, ap (λ p. p.1) spans) in
      let same : all ≡ (front ++ name) ++ (spelling value ++ (pairs_spelling pairs ++ back)) = simp append_assoc in
      let found : value_in key (pair k value pairs) ≡ Some value = rw t refl in (
        value,
        found,
        subst (λ bs. IsSpelledAt value bs start end) (sym same)
            (between (front ++ name) (pairs_spelling pairs ++ back) value start end from to),
      )

  at_later : bytes_eq k key ≡ false → span_in at key (pair k value pairs) ≡ Some (start, end)
      → ((front' : List ℕ) (at' : ℕ) → at' ≡ length front' → span_in at' key pairs ≡ Some (start, end)
      → Found key (value_in key pairs) (front' ++ (pairs_spelling pairs ++ back)) start end)
      → Found key (value_in key (pair k value pairs)) all start end
  at_later t e others =
      let long : at + length name + length (spelling value) ≡ length ((front ++ name) ++ spelling value) =
      omega (arith, is, length-append (front ++ name) (spelling value), length-append front name) in
      let later =
      others ((front ++ name) ++ spelling value) (at + length name + length (spelling value)) long (rw t at e) in
      let same : all ≡ ((front ++ name) ++ spelling value) ++ (pairs_spelling pairs ++ back) = simp append_assoc in
      let found : value_in key (pair k value pairs) ≡ Some later.0 = rw t later.1 in
      (later.0, found, subst (λ bs. IsSpelledAt later.0 bs start end) (sym same) later.2)

found_in : (key : List ℕ) (pairs : Pairs) (back front : List ℕ) (at start end : ℕ) → at ≡ length front
    → span_in at key pairs ≡ Some (start, end)
    → Found key (value_in key pairs) (front ++ (pairs_spelling pairs ++ back)) start end
found_in key no_pairs back front at start end is e = absurd (nowhere (start, end) e)
found_in key (pair k value pairs) back front at start end is e = elim (cases_Bool (bytes_eq k key)) [
  | inl t ↦ at_first key k value pairs front back at start end is t e
  | inr t ↦
      at_later key k value pairs front back at start end is t e
      (λ front' at' is' e'. found_in key pairs back front' at' start end is' e')
]

-- at the span of a key its value is spelled
pub found_at : (key : List ℕ) (d : Data) (start end : ℕ) → span_of key d ≡ Some (start, end)
    → Found key (value_of key d) (spelling d) start end
found_at key (dictionary pairs) start end e = found_in key pairs (codes "e") (codes "d") 1 start end refl e
found_at key d start end e = absurd (nowhere (start, end) e)

some_is_not : {A : Type 0} (x : A) → Some x ≡ None → ⊥
some_is_not x e = cc

none_in : (key : List ℕ) (pairs : Pairs) (at : ℕ) → (span_in at key pairs ≡ None) ↔ (value_in key pairs ≡ None)
none_in key no_pairs at = (λ _. refl, λ _. refl)
none_in key (pair k value pairs) at =
    let end = at + length (string_spelling k) + length (spelling value) in
    let others = none_in key pairs end in
    elim (cases_Bool (bytes_eq k key)) [
      | inl t ↦ (
        λ e. absurd (some_is_not (at + length (string_spelling k), end) (rw t at e)),
        λ e. absurd (some_is_not value (rw t at e)),
      )
      | inr t ↦ (λ e. rw t (others.0 (rw t at e)), λ e. rw t (others.1 (rw t at e)))
    ]

-- a key has a span where it has a value
pub none_found : (key : List ℕ) (d : Data) → (span_of key d ≡ None) ↔ (value_of key d ≡ None)
none_found key (dictionary pairs) = none_in key pairs 1
none_found key d = (λ _. refl, λ _. refl)

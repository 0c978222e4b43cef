-- The first that a list or a range has.
use Rattle.std.proofs.Common.{◌≡◌, ◌<◌, ◌≤◌, ℕ, zero, suc, ◌+◌, List, [], ◌∷◌, ◌++◌, length, take, drop, get_or, Option}
use Rattle.std.proofs.Common.{None, Some, refl, ap, ap₂, sym, ◌∙◌, arith}
use Rattle.std.proofs.lemmas.List.{drop_more, take-append-drop, take_more}
use Rattle.std.specs.List.{range_with_len}
use Rattle.std.specs.Option.{option_or}
use Rattle.tor_sums.specs.Fault.{first_of}

-- both are none where the first of them that there is is none
pub neither : {B : Type 0} (one other : Option B) → option_or one other ≡ None → (one ≡ None) × (other ≡ None)
neither None other none = (refl, none)
neither (Some x) other none = cc

or_assoc : {B : Type 0} (a b c : Option B) → option_or a (option_or b c) ≡ option_or (option_or a b) c
or_assoc None b c = refl
or_assoc (Some x) b c = refl

pub or_none : {B : Type 0} (a b : Option B) → a ≡ None → option_or a b ≡ b
or_none a b none = rw none refl

pub or_some : {B : Type 0} (a b : Option B) (x : B) → a ≡ Some x → option_or a b ≡ Some x
or_some a b x some = rw some refl

pub first_of_none : {A B : Type 0} (found : A → Option B) → first_of found [] ≡ None
unfolding first_of
first_of_none found = refl

pub first_append : {A B : Type 0} (found : A → Option B) (xs ys : List A) →
    first_of found (xs ++ ys) ≡ option_or (first_of found xs) (first_of found ys)
unfolding first_of
first_append found [] ys = refl
first_append found (x ∷ xs) ys =
    ap (option_or (found x)) (first_append found xs ys) ∙ or_assoc (found x) (first_of found xs) (first_of found ys)

-- where the elements before have none, this one is the first
pub first_at : {A B : Type 0} (found : A → Option B) (xs : List A) (i : ℕ) (d : A) (x : B) → i < length xs →
    first_of found (take i xs) ≡ None → found (get_or xs i d) ≡ Some x → first_of found xs ≡ Some x
unfolding first_of
first_at found xs i d x there none some =
    let rest = first_of found (drop (i + 1) xs) in
    ap (first_of found) (sym (take-append-drop i xs)) ∙ first_append found (take i xs) (drop i xs)
    ∙ or_none (first_of found (take i xs)) (first_of found (drop i xs)) none
    ∙ ap (first_of found) (drop_more xs i d there) ∙ or_some (found (get_or xs i d)) rest x some

-- nor has it any
pub first_next : {A B : Type 0} (found : A → Option B) (xs : List A) (i : ℕ) (d : A) → i < length xs →
    first_of found (take i xs) ≡ None → found (get_or xs i d) ≡ None → first_of found (take (i + 1) xs) ≡ None
unfolding first_of
first_next found xs i d there none more =
    ap (first_of found) (take_more xs i d there) ∙ first_append found (take i xs) (get_or xs i d ∷ [])
    ∙ or_none (first_of found (take i xs)) (first_of found (get_or xs i d ∷ [])) none
    ∙ or_none (found (get_or xs i d)) None more

-- where the first k have none, the next one is the first
pub first_found : {B : Type 0} (found : ℕ → Option B) (a k n j : ℕ) (x : B) → k < n → a + k ≡ j →
    first_of found (range_with_len a k) ≡ None → found j ≡ Some x → first_of found (range_with_len a n) ≡ Some x
unfolding first_of
first_found found a zero zero j x less at none some = let no : ⊥ = omega arith in elim no [ ]
first_found found a (suc k) zero j x less at none some = let no : ⊥ = omega arith in elim no [ ]
first_found found a zero (suc n) j x less at none some =
    let here : a ≡ j = omega arith in
    or_some (found a) (first_of found (range_with_len (a + 1) n)) x (ap found here ∙ some)
first_found found a (suc k) (suc n) j x less at none some =
    let both = neither (found a) (first_of found (range_with_len (a + 1) k)) none in
    or_none (found a) (first_of found (range_with_len (a + 1) n)) both.0
    ∙ first_found found (a + 1) k n j x (omega arith) (omega arith) both.1 some

-- where the first k have none, nor the others
pub first_none : {B : Type 0} (found : ℕ → Option B) (a k n : ℕ) → k ≤ n →
    first_of found (range_with_len a k) ≡ None → ((j : ℕ) → a + k ≤ j → j < a + n → found j ≡ None) →
    first_of found (range_with_len a n) ≡ None
unfolding first_of
first_none found a zero zero less none rest = refl
first_none found a (suc k) zero less none rest = let no : ⊥ = omega arith in elim no [ ]
first_none found a zero (suc n) less none rest =
    or_none (found a) (first_of found (range_with_len (a + 1) n)) (rest a (omega arith) (omega arith))
    ∙ first_none found (a + 1) zero n (omega arith) refl (λ j low high. rest j (omega arith) (omega arith))
first_none found a (suc k) (suc n) less none rest =
    let both = neither (found a) (first_of found (range_with_len (a + 1) k)) none in
    or_none (found a) (first_of found (range_with_len (a + 1) n)) both.0
    ∙ first_none found (a + 1) k n (omega arith) both.1 (λ j low high. rest j (omega arith) (omega arith))

-- two that agree in a range have the same first there
pub first_same : {B : Type 0} (found other : ℕ → Option B) (a n : ℕ)
    → ((j : ℕ) → a ≤ j → j < a + n → found j ≡ other j)
    → first_of found (range_with_len a n) ≡ first_of other (range_with_len a n)
unfolding first_of
first_same found other a zero same = refl
first_same found other a (suc n) same =
    ap₂ option_or (same a (omega arith) (omega arith))
    (first_same found other (a + 1) n (λ j low high. same j (omega arith) (omega arith)))

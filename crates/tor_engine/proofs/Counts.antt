-- How often a number stands in a list, and what stands in one.
use Rattle.std.proofs.Common.{◌≡◌, ℕ, ◌+◌, List, [], ◌∷◌, ◌++◌, map, reverse, cond, false, inl, inr, refl, ap, sym}
use Rattle.std.proofs.Common.{subst, arith, eqb}
use Rattle.std.proofs.lemmas.Bool.{eq-eqb, ne_eqb, cases_eq}
use Rattle.std.proofs.lemmas.List.{reverse-append}
use Rattle.std.specs.List.{AllByRecursion}
use Rattle.tor_board.specs.Weights.{only, times}
use Rattle.tor_engine.specs.steps.Taken.{IsIn}

pub times_append : (u : ℕ) (xs ys : List ℕ) → times u (xs ++ ys) ≡ times u xs + times u ys
times_append u [] ys = omega arith
times_append u (x ∷ xs) ys = omega (arith, times_append u xs ys)

pub only_itself : (u x : ℕ) → x ≡ u → only u x ≡ 1
only_itself u x is = ap (λ b. cond b 1 0) (eq-eqb x u is)

pub only_other : (u x : ℕ) → (x ≡ u → ⊥) → only u x ≡ 0
only_other u x other = ap (λ b. cond b 1 0) (ne_eqb x u other)

-- a number that does not stand there departs from each that does
pub none_of : (u : ℕ) (xs : List ℕ) → times u xs ≡ 0 → AllByRecursion (λ x. eqb u x ≡ false) xs
none_of u [] none = tt
none_of u (x ∷ xs) none = elim (cases_eq x u) [
  | inl same ↦ absurd (omega (arith, none, only_itself u x same))
  | inr other ↦ (ne_eqb u x (λ same. other (sym same)), none_of u xs (omega (arith, none)))
]

module _ {X : Type 0} where
  pub in_left : (xs ys : List X) (x : X) → IsIn xs x → IsIn (xs ++ ys) x
  unfolding IsIn
  in_left [] ys x is = absurd is
  in_left (y ∷ xs) ys x (inl is) = inl is
  in_left (y ∷ xs) ys x (inr is) = inr (in_left xs ys x is)

  pub in_right : (xs ys : List X) (x : X) → IsIn ys x → IsIn (xs ++ ys) x
  unfolding IsIn
  in_right [] ys x is = is
  in_right (y ∷ xs) ys x is = inr (in_right xs ys x is)

  pub in_reverse : (xs : List X) (x : X) → IsIn xs x → IsIn (reverse xs) x
  unfolding IsIn
  in_reverse [] x is = absurd is
  in_reverse (y ∷ xs) x (inl is) =
      subst (λ (all : List X). IsIn all x) (sym (reverse-append (y ∷ []) xs))
      (in_right (reverse xs) (y ∷ []) x (inl is))
  in_reverse (y ∷ xs) x (inr is) =
      subst (λ (all : List X). IsIn all x) (sym (reverse-append (y ∷ []) xs))
      (in_left (reverse xs) (y ∷ []) x (in_reverse xs x is))

  module _ {A : Type 0} (f : A → X) where
    weaker : (all : List X) (list : List A) (x : X) → AllByRecursion (λ a. IsIn all (f a)) list
        → AllByRecursion (λ a. IsIn (x ∷ all) (f a)) list
    unfolding IsIn
    weaker all [] x is = tt
    weaker all (a ∷ list) x is = (inr is.0, weaker all list x is.1)

    -- what is made of each element stands among what is made of all
    pub in_own : (list : List A) → AllByRecursion (λ a. IsIn (map f list) (f a)) list
    unfolding IsIn
    in_own [] = tt
    in_own (a ∷ list) = (inl refl, weaker (map f list) list (f a) (in_own list))

-- of each element what follows from what is known of it
pub each_more : {A : Type 0} (P Q : A → Type 0) (list : List A) → ((a : A) → P a → Q a) → AllByRecursion P list
    → AllByRecursion Q list
each_more P Q [] more is = tt
each_more P Q (a ∷ list) more is = (more a is.0, each_more P Q list more is.1)

-- and of two facts
pub each_with : {A : Type 0} (P Q R : A → Type 0) (list : List A) → ((a : A) → P a → Q a → R a)
    → AllByRecursion P list → AllByRecursion Q list → AllByRecursion R list
each_with P Q R [] more is also = tt
each_with P Q R (a ∷ list) more is also = (more a is.0 also.0, each_with P Q R list more is.1 also.1)

pub each_mapped : {A B : Type 0} (f : A → B) (P : B → Type 0) (list : List A) → AllByRecursion (λ a. P (f a)) list
    → AllByRecursion P (map f list)
each_mapped f P [] is = tt
each_mapped f P (a ∷ list) is = (is.0, each_mapped f P list is.1)

pub each_append : {A : Type 0} (P : A → Type 0) (list next : List A) → AllByRecursion P list → AllByRecursion P next
    → AllByRecursion P (list ++ next)
each_append P [] next one other = other
each_append P (a ∷ list) next one other = (one.0, each_append P list next one.1 other)

-- Sums over a list where one element is changed, and lists where one element has the whole of a sum.
use Rattle.std.proofs.Common.{◌≡◌, ℕ, zero, suc, ◌+◌, ◌≤◌, List, [], ◌∷◌, ◌++◌, set, sym, refl, ap, ◌∙◌}
use Rattle.std.proofs.Common.{append-nil, arith}
use Rattle.std.specs.List.{flat_map, sum_by}
use Rattle.std.proofs.lemmas.List.Sums.{sum_by-cons}
use mathlib.Core.Option.{some, some-injective, some-ne-none}
use lib.ListN.{get_elem?}

module _ {A : Type 0} where
  pub sum_set : (f : A → ℕ) (l : List A) (i : ℕ) (v w : A) → get_elem? l i ≡ some v
      → sum_by f (set l i w) + f v ≡ sum_by f l + f w
  sum_set f [] i v w e = absurd (some-ne-none v (sym e))
  sum_set f (x ∷ xs) zero v w e = let same : f x ≡ f v = ap f (some-injective x v e) in
      let new : sum_by f (set (x ∷ xs) zero w) ≡ f w + sum_by f xs = sum_by-cons f w xs in
      let old = sum_by-cons f x xs in omega arith
  sum_set f (x ∷ xs) (suc i) v w e = let r = sum_set f xs i v w e in
      let new : sum_by f (set (x ∷ xs) (suc i) w) ≡ f x + sum_by f (set xs i w) = sum_by-cons f x (set xs i w) in
      let old = sum_by-cons f x xs in omega arith

  at_most_sum : (f : A → ℕ) (l : List A) (i : ℕ) (v : A) → get_elem? l i ≡ some v → f v ≤ sum_by f l
  at_most_sum f [] i v e = absurd (some-ne-none v (sym e))
  at_most_sum f (x ∷ xs) zero v e = let same : f x ≡ f v = ap f (some-injective x v e) in
      let old = sum_by-cons f x xs in omega arith
  at_most_sum f (x ∷ xs) (suc i) v e = let r = at_most_sum f xs i v e in let old = sum_by-cons f x xs in omega arith

  -- f has nothing where g has none
  module _ (g : A → ℕ) where
    none_left : {X : Type 0} (f : A → List X) (l : List A) → sum_by g l ≡ 0
        → ((j : ℕ) (u : A) → get_elem? l j ≡ some u → g u ≡ 0 → f u ≡ []) → flat_map f l ≡ []
    none_left f [] nil idle = refl
    none_left f (x ∷ xs) nil idle = let old = sum_by-cons g x xs in
        ap (λ y. y ++ flat_map f xs) (idle 0 x refl (omega arith)) ∙ none_left f xs (omega arith) (λ j. idle (suc j))

    -- so where one element has the whole sum of g, it has all of f
    pub alone : {X : Type 0} (f : A → List X) (l : List A) (i : ℕ) (v : A) → get_elem? l i ≡ some v
        → sum_by g l ≡ g v → ((j : ℕ) (u : A) → get_elem? l j ≡ some u → g u ≡ 0 → f u ≡ [])
        → flat_map f l ≡ f v
    alone f [] i v e all idle = absurd (some-ne-none v (sym e))
    alone f (x ∷ xs) zero v e all idle = let same : g x ≡ g v = ap g (some-injective x v e) in
        let old = sum_by-cons g x xs in
        ap (λ y. f x ++ y) (none_left f xs (omega arith) (λ j. idle (suc j))) ∙ append-nil (f x)
        ∙ ap f (some-injective x v e)
    alone f (x ∷ xs) (suc i) v e all idle = let most = at_most_sum g xs i v e in let old = sum_by-cons g x xs in
        ap (λ y. y ++ flat_map f xs) (idle 0 x refl (omega arith))
        ∙ alone f xs i v e (omega arith) (λ j. idle (suc j))

    no_sum_left : (f : A → ℕ) (l : List A) → sum_by g l ≡ 0
        → ((j : ℕ) (u : A) → get_elem? l j ≡ some u → g u ≡ 0 → f u ≡ 0) → sum_by f l ≡ 0
    no_sum_left f [] nil idle = refl
    no_sum_left f (x ∷ xs) nil idle = let old = sum_by-cons g x xs in let new = sum_by-cons f x xs in
        let one = idle 0 x refl (omega arith) in
        let rest = no_sum_left f xs (omega arith) (λ j. idle (suc j)) in omega arith

    pub alone_sum : (f : A → ℕ) (l : List A) (i : ℕ) (v : A) → get_elem? l i ≡ some v → sum_by g l ≡ g v
        → ((j : ℕ) (u : A) → get_elem? l j ≡ some u → g u ≡ 0 → f u ≡ 0) → sum_by f l ≡ f v
    alone_sum f [] i v e all idle = absurd (some-ne-none v (sym e))
    alone_sum f (x ∷ xs) zero v e all idle = let same : g x ≡ g v = ap g (some-injective x v e) in
        let also : f x ≡ f v = ap f (some-injective x v e) in
        let old = sum_by-cons g x xs in let new = sum_by-cons f x xs in
        let rest = no_sum_left f xs (omega arith) (λ j. idle (suc j)) in omega arith
    alone_sum f (x ∷ xs) (suc i) v e all idle = let most = at_most_sum g xs i v e in
        let old = sum_by-cons g x xs in let new = sum_by-cons f x xs in let one = idle 0 x refl (omega arith) in
        let rest = alone_sum f xs i v e (omega arith) (λ j. idle (suc j)) in omega arith

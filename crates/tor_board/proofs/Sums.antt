-- Sums over lists of which one item changes, and what holds of each item.
use Rattle.{atomic_table.proofs.Lists.{at_set, at_snoc}, tor_board.proofs.Names.{Bool, List, [], ap, arith, below, dec_le}}
use Rattle.tor_board.proofs.Names.{cond, dite, get_elem?, get_or, inl, inr, length, ltb, map, only, refl, set, some}
use Rattle.tor_board.proofs.Names.{some-injective, some-ne-none, subst, suc, sym, times, total, zero, ℕ, ℕ_discrete}
use Rattle.tor_board.{proofs.Names.{◌++◌, ◌+◌, ◌<◌, ◌∷◌, ◌≡◌, ◌≢◌, ◌≤◌}, specs.Weights.without}

module _ {A : Type 0} (g : A → ℕ) where
  pub total-append : (l m : List A) → total g (l ++ m) ≡ total g l + total g m
  total-append [] m = omega arith
  total-append (x ∷ xs) m = omega (arith, total-append xs m)

  pub total-set : (l : List A) (j : ℕ) (v w : A) → get_elem? l j ≡ some v → total g (set l j w) + g v ≡ total g l + g w
  total-set [] j v w e = absurd (some-ne-none v (sym e))
  total-set (x ∷ xs) zero v w e = omega (arith, ap g (some-injective x v e))
  total-set (x ∷ xs) (suc j) v w e = omega (arith, total-set xs j v w e)

  pub term_le : (l : List A) (j : ℕ) (v : A) → get_elem? l j ≡ some v → g v ≤ total g l
  term_le [] j v e = absurd (some-ne-none v (sym e))
  term_le (x ∷ xs) zero v e = omega (arith, ap g (some-injective x v e))
  term_le (x ∷ xs) (suc j) v e = omega (arith, term_le xs j v e)

  pub none_there : (l : List A) → ((j : ℕ) (v : A) → get_elem? l j ≡ some v → g v ≡ 0) → total g l ≡ 0
  none_there [] h = refl
  none_there (x ∷ xs) h = omega (arith, h 0 x refl, none_there xs (λ j v e. h (suc j) v e))

  pub total_le : (h : A → ℕ) (l : List A) → ((x : A) → g x ≤ h x) → total g l ≤ total h l
  total_le h [] le = omega arith
  total_le h (x ∷ xs) le = omega (arith, le x, total_le h xs le)

-- what weighs the same on each item
pub total_same : {A : Type 0} (g h : A → ℕ) (l : List A) → ((k : ℕ) (x : A) → get_elem? l k ≡ some x → g x ≡ h x)
    → total g l ≡ total h l
total_same g h [] same = refl
total_same g h (x ∷ xs) same = omega (arith, same 0 x refl, total_same g h xs (λ k y e. same (suc k) y e))

-- an item with some weight, where the list has some
pub weighs : {A : Type 0} (f : A → ℕ) (l : List A) → 0 < total f l
    → (k : ℕ) × (x : A) × (get_elem? l k ≡ some x) × (0 < f x)
weighs f [] h = absurd (omega arith)
weighs f (x ∷ xs) h = dite (dec_le 1 (f x)) (λ some_here. (0, x, refl, some_here))
    (λ none_here. let r = weighs f xs (omega arith) in (suc r.0, r.1, r.2, r.3))

-- where the j-th has the whole of r, and those with no r have no g, it has the whole of g
pub alone : {A : Type 0} (g r : A → ℕ) (l : List A) (j : ℕ) (v : A) → get_elem? l j ≡ some v → total r l ≡ r v
    → ((i : ℕ) (w : A) → get_elem? l i ≡ some w → r w ≡ 0 → g w ≡ 0) → total g l ≡ g v
alone g r [] j v e all idle = absurd (some-ne-none v (sym e))
alone g r (x ∷ xs) zero v e all idle =
    let same : x ≡ v = some-injective x v e in let rest : total r xs ≡ 0 = omega (arith, ap r same) in
    omega (arith, ap g same, none_there g xs (λ i w at. idle (suc i) w at (omega (arith, term_le r xs i w at))))
alone g r (x ∷ xs) (suc j) v e all idle = let part = term_le r xs j v e in
    omega (arith, idle 0 x refl (omega arith), alone g r xs j v e (omega arith) (λ i w at. idle (suc i) w at))

pub total-map : {A B : Type 0} (f : B → ℕ) (h : A → B) (l : List A) → total f (map h l) ≡ total (λ x. f (h x)) l
total-map f h [] = refl
total-map f h (x ∷ xs) = omega (arith, total-map f h xs)

-- what holds of each item, once one is another, or there is one more
pub set_all : {A : Type 0} (P : A → Type 0) (l : List A) (id : ℕ) (w : A)
    → ((j : ℕ) (u : A) → get_elem? l j ≡ some u → P u) → P w → (j : ℕ) (u : A) → get_elem? (set l id w) j ≡ some u → P u
set_all P l id w all now j u e = elim (at_set l id j w u e) [ inl r ↦ subst P r.1 now | inr r ↦ all j u r.1 ]

pub snoc_all : {A : Type 0} (P : A → Type 0) (l : List A) (w : A)
    → ((j : ℕ) (u : A) → get_elem? l j ≡ some u → P u) → P w
    → (j : ℕ) (u : A) → get_elem? (l ++ w ∷ []) j ≡ some u → P u
snoc_all P l w all now j u e = elim (at_snoc l w u j e) [ inl r ↦ all j u r | inr r ↦ subst P r now ]

pub within : {X : Type 0} (l : List X) (j : ℕ) (x : X) → get_elem? l j ≡ some x → j < length l
within [] j x e = absurd (some-ne-none x (sym e))
within (y ∷ l) zero x e = omega arith
within (y ∷ l) (suc j) x e = omega (arith, within l j x e)

-- an item of a list that a function made
pub mapped : {A B : Type 0} (f : A → B) (l : List A) (k : ℕ) (y : B) → get_elem? (map f l) k ≡ some y
    → (x : A) × (get_elem? l k ≡ some x) × (f x ≡ y)
mapped f [] k y e = absurd (some-ne-none y (sym e))
mapped f (x ∷ l) zero y e = (x, refl, some-injective (f x) y e)
mapped f (x ∷ l) (suc k) y e = mapped f l k y e

-- an item, read with a default
pub read : {X : Type 0} (l : List X) (i : ℕ) (x d : X) → get_elem? l i ≡ some x → get_or l i d ≡ x
read [] i x d e = absurd (some-ne-none x (sym e))
read (y ∷ l) zero x d e = some-injective y x e
read (y ∷ l) (suc i) x d e = read l i x d e

pub here : {X : Type 0} (l : List X) (i : ℕ) (d : X) → i < length l → get_elem? l i ≡ some (get_or l i d)
here [] i d inside = absurd (omega arith)
here (y ∷ l) zero d inside = refl
here (y ∷ l) (suc i) d inside = here l i d (omega arith)

pub below_more : (f : ℕ → ℕ) (n : ℕ) → below f (n + 1) ≡ below f n + f n
below_more f n = let e : n + 1 ≡ suc n = omega arith in ap (below f) e

pub only-same : (u : ℕ) → only u u ≡ 1
only-same u = grind arith

pub only-other : (u x : ℕ) → x ≢ u → only u x ≡ 0
only-other u x n = grind arith

pub below-only : (u n : ℕ) → (below (only u) n ≤ 1) × (n ≤ u → below (only u) n ≡ 0) × (u < n → below (only u) n ≡ 1)
below-only u zero = (omega arith, (λ _. refl), λ h. omega arith)
below-only u (suc n) = grind (arith, below-only u n, (below-only u n))

-- of the numbers below n there is that one where it is less
pub below-test : (u n : ℕ) → below (only u) n ≡ cond (ltb u n) 1 0
below-test u n = grind (arith, below-only u n)

pub total-without : (f : ℕ → ℕ) (u : ℕ) (xs : List ℕ) → 0 < times u xs → total f (without u xs) + f u ≡ total f xs
total-without f u [] has = omega arith
total-without f u (x ∷ xs) has = dite (ℕ_discrete x u) (λ e. grind arith) (λ ne. grind (arith, total-without f u xs))

pub cond_le : (b : Bool) (n : ℕ) → cond b n 0 ≤ n
cond_le b n = grind arith

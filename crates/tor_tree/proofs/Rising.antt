-- Lists whose elements strictly rise: from neighbours to the whole list, and how often one element is there.
use Rattle.tor_tree.proofs.Cited.{◌≡◌, ℕ, suc, ◌+◌, ◌<◌, ◌≤◌, Bool, true, false, cond, List, [], ◌∷◌, length, get_or}
use Rattle.tor_tree.proofs.Cited.{map, count_by, Ordering, Less, Equal, Greater, refl, ap, ◌∙◌, subst, zero-add, arith}
use Rattle.tor_tree.proofs.Cited.{IsTotalOrder, eq_by_cmp, is_eq, AllAdjacentBelow, AllByRecursion, IsStrictlySortedBy}
use Rattle.tor_tree.proofs.Cited.{sum_by-cons, sum_by-take-drop, sum_by-drop_more}

neighbours_tail : {X : Type 0} (R : X → X → Type 0) (x : X) (xs : List X)
    → AllAdjacentBelow R (x ∷ xs) (length (x ∷ xs)) → AllAdjacentBelow R xs (length xs)
neighbours_tail {X} R x xs h k d lt =
    let e : suc k + 1 ≡ suc (k + 1) = omega arith in
    let P : ℕ → Type 0 = λ n. R (get_or xs k d) (get_or (x ∷ xs) n d) in
    subst P e (h (suc k) d (omega arith))

all_weaker : {X : Type 0} (P Q : X → Type 0) → ((x : X) → P x → Q x) → (xs : List X) → AllByRecursion P xs
    → AllByRecursion Q xs
all_weaker P Q w [] h = tt
all_weaker P Q w (x ∷ xs) h = (w x h.0, all_weaker P Q w xs h.1)

-- where each is below the next, each is below all later ones
pub rising_from_neighbours : {X K : Type 0} {R : K → K → Ordering} (o : IsTotalOrder R) (key : X → K) (xs : List X)
    → AllAdjacentBelow (λ x y. R (key x) (key y) ≡ Less) xs (length xs) → IsStrictlySortedBy R (map key xs)
unfolding IsStrictlySortedBy
rising_from_neighbours o key [] h = tt
rising_from_neighbours o key (x ∷ []) h = (tt, tt)
rising_from_neighbours {X} {K} {R} o key (x ∷ y ∷ zs) h =
    let later : IsStrictlySortedBy R (map key (y ∷ zs)) =
    rising_from_neighbours o key (y ∷ zs) (neighbours_tail (λ a b. R (key a) (key b) ≡ Less) x (y ∷ zs) h) in
    let first : R (key x) (key y) ≡ Less = h 0 x (omega arith) in (
      (
        first,
        all_weaker (λ z. R (key y) z ≡ Less) (λ z. R (key x) z ≡ Less)
            (λ z below. o.trans (key x) (key y) z first below) (map key zs) later.0,
      ),
      later,
    )

-- an element that is below all others is there once, and so is each of a rising list
module _ {K : Type 0} {R : K → K → Ordering} (o : IsTotalOrder R) {E : K → K → Bool}
    (ties : (x y : K) → E x y ≡ eq_by_cmp R x y) where
  count_none : (p x : K) → R p x ≡ Equal → (xs : List K) → AllByRecursion (λ y. R x y ≡ Less) xs → count_by (E p) xs ≡ 0
  count_none p x e [] h = refl
  count_none p x e (y ∷ ys) h =
      let apart : E p y ≡ false = ties p y ∙ ap is_eq (o.congr p x y e ∙ h.0) in
      sum_by-cons (λ z. cond (E p z) 1 0) y ys ∙ rw (apart, zero-add) (count_none p x e ys h.1)

  pub count_at_most_one : (p : K) (xs : List K) → IsStrictlySortedBy R xs → count_by (E p) xs ≤ 1
  unfolding IsStrictlySortedBy
  count_at_most_one p [] h = omega arith
  count_at_most_one p (x ∷ xs) h =
      rw (sum_by-cons (λ z. cond (E p z) 1 0) x xs) (by_order (R p x) refl (count_at_most_one p xs h.1))
    where
      by_order : (r : Ordering) → R p x ≡ r → count_by (E p) xs ≤ 1 → cond (E p x) 1 0 + count_by (E p) xs ≤ 1
      by_order Less e rest = rw (ties p x, e, zero-add) rest
      by_order Equal e rest = rw (count_none p x e xs h.0) (at_most_one (E p x))
        where
          at_most_one : (b : Bool) → cond b 1 0 + 0 ≤ 1
          at_most_one true = omega arith
          at_most_one false = omega arith
      by_order Greater e rest = rw (ties p x, e, zero-add) rest

-- an element that stands at two neighbouring indices is there more than once
pub count_of_neighbours : {X : Type 0} (p : X → Bool) (xs : List X) (k : ℕ) (d : X) → k + 1 < length xs
    → p (get_or xs k d) ≡ true → p (get_or xs (k + 1) d) ≡ true → 1 < count_by p xs
count_of_neighbours {X} p xs k d lt here next =
    let one : X → ℕ = λ x. cond (p x) 1 0 in
    let at_here : one (get_or xs k d) ≡ 1 = ap (λ b. cond b 1 0) here in
    let at_next : one (get_or xs (k + 1) d) ≡ 1 = ap (λ b. cond b 1 0) next in
    omega (
      arith,
      sum_by-take-drop one xs k,
      sum_by-drop_more one xs k d (omega arith),
      sum_by-drop_more one xs (k + 1) d lt,
      at_here,
      at_next,
    )

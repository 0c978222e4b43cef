-- Numbers that are put in order, step by step.
use Rattle.std.proofs.Common.{◌≡◌, ◌<◌, ◌≤◌, ◌+◌, ◌*◌, ℕ, zero, suc, List, [], ◌∷◌, length, map, get_or, inl, inr, refl}
use Rattle.std.proofs.Common.{arith, cond, ap, ap₂, sym, subst, ◌∙◌, ◌==◌, IsPermutation}
use Rattle.std.proofs.lemmas.Bool.{cases_eq, cases_lt, eq-eqb, ne_eqb}
use Rattle.std.proofs.lemmas.List.{ext_get_or, get_or-map, map-set}
use Rattle.std.proofs.Math.ListN.{set}
use Rattle.std.proofs.lemmas.List.Edits.{Swapped}
use Rattle.std.specs.List.{swap}
use Rattle.std.proofs.lemmas.List.FromFn.{get_or-range_with_len, length-range_with_len}
use Rattle.std.proofs.lemmas.List.Sorted.{length_permutation}
use Rattle.std.proofs.lemmas.Map.Keys.{apart_from_distinct}
use Rattle.std.specs.List.{AllByRecursion, range_with_len}
use Rattle.tor_sums.specs.steps.Places.{AreNumbers, HasGone, at_home, sum_below}
use Rattle.tor_sums.proofs.Numbers.{moved_numbers}

home_itself : (u x : ℕ) → x ≡ u → at_home u x ≡ 1
home_itself u x is = ap (λ b. cond b 1 0) (eq-eqb x u is)

home_other : (u x : ℕ) → (x ≡ u → ⊥) → at_home u x ≡ 0
home_other u x other = ap (λ b. cond b 1 0) (ne_eqb x u other)

sum_of_ones : (f : ℕ → ℕ) (n : ℕ) → ((k : ℕ) → k < n → f k ≡ 1) → sum_below f n ≡ n
sum_of_ones f zero ones = refl
sum_of_ones f (suc n) ones =
    omega (arith, sum_of_ones f n (λ k lt. ones k (omega (arith, lt))), ones n (omega arith))

one_most : (u x : ℕ) → at_home u x ≤ 1
one_most u x = elim (cases_eq x u) [
  | inl same ↦ let e = home_itself u x same in omega (arith, e)
  | inr other ↦ let e = home_other u x other in omega (arith, e)
]

-- ---- how many stand at their own places

module _ (h : ℕ → ℕ) where
  at_most : (n : ℕ) → sum_below (λ k. at_home k (h k)) n ≤ n
  at_most zero = omega arith
  at_most (suc n) = omega (arith, at_most n, one_most n (h n))

  all_there : (n : ℕ) → ((k : ℕ) → k < n → h k ≡ k) → sum_below (λ k. at_home k (h k)) n ≡ n
  all_there n there = sum_of_ones (λ k. at_home k (h k)) n (λ k lt. home_itself k (h k) (there k lt))

no_fewer : (f g : ℕ → ℕ) (n : ℕ) → ((k : ℕ) → k < n → f k ≤ g k) → sum_below f n ≤ sum_below g n
no_fewer f g zero le = omega arith
no_fewer f g (suc n) le = omega (arith, no_fewer f g n (λ k lt. le k (omega (arith, lt))), le n (omega arith))

one_more : (f g : ℕ → ℕ) (n t : ℕ) → t < n → ((k : ℕ) → k < n → f k ≤ g k) → f t + 1 ≤ g t
    → sum_below f n + 1 ≤ sum_below g n
one_more f g zero t lt le more = absurd (omega (arith, lt))
one_more f g (suc n) t lt le more = elim (cases_lt t n) [
  | inl less ↦
      omega (arith, one_more f g n t less (λ k lt. le k (omega (arith, lt))) more, le n (omega arith))
  | inr ge ↦
      let same : t ≡ n = omega (arith, lt, ge) in
      let last : f n + 1 ≤ g n = subst (λ (m : ℕ). f m + 1 ≤ g m) same more in
      omega (arith, no_fewer f g n (λ k lt. le k (omega (arith, lt))), last)
]

-- ---- numbers from 0 on, each once

pub below_at : (n : ℕ) (ns : List ℕ) (k : ℕ) → AllByRecursion (λ m. m < n) ns → k < length ns → get_or ns k 0 < n
below_at n [] k all lt = absurd (omega (arith, lt))
below_at n (m ∷ ns) zero all lt = all.0
below_at n (m ∷ ns) (suc k) all lt = below_at n ns k all.1 (omega (arith, lt))

apart : (ns : List ℕ) (i j : ℕ) → AreNumbers ns → i < j → j < length ns → get_or ns i 0 ≡ get_or ns j 0 → ⊥
apart ns i j are less lt same =
    let no = apart_from_distinct (λ m n. m == n) ns i j 0 are.0 less lt in
    let yes = eq-eqb (get_or ns i 0) (get_or ns j 0) same in
    cc

same_place : (ns : List ℕ) (i j : ℕ) → AreNumbers ns → i < length ns → j < length ns
    → get_or ns i 0 ≡ get_or ns j 0 → i ≡ j
same_place ns i j are there here same = elim (cases_lt i j) [
  | inl less ↦ absurd (apart ns i j are less here same)
  | inr ge ↦ elim (cases_lt j i) [
    | inl more ↦ absurd (apart ns j i are more there (sym same))
    | inr le ↦ omega (arith, ge, le)
  ]
]

-- ---- one step

pub at_end : (steps place : ℕ) (ns : List ℕ) → HasGone steps place ns → length ns ≤ place → steps < 2 * length ns
    → HasGone (suc steps) place ns
at_end steps place ns has ends few = record {
  are = has.are;
  before = has.before;
  within = has.within;
  many =
      let all = all_there (λ k. get_or ns k 0) (length ns) (λ k lt. has.before k (omega (arith, lt, ends))) in
      omega (arith, all, few, ends);
}

pub goes_on : (steps place : ℕ) (ns : List ℕ) → HasGone steps place ns → place < length ns → get_or ns place 0 ≡ place
    → HasGone (suc steps) (place + 1) ns
goes_on steps place ns has there own = record {
  are = has.are;
  before = λ k lt. elim (cases_lt k place) [
    | inl less ↦ has.before k less
    | inr ge ↦
        let same : k ≡ place = omega (arith, ge, lt) in
        subst (λ (n : ℕ). get_or ns n 0 ≡ n) (sym same) own
  ];
  within = omega (arith, there);
  many = omega (arith, has.many);
}

module _ (steps place own : ℕ) (ns ms : List ℕ) (has : HasGone steps place ns) (there : place < length ns)
    (is : get_or ns place 0 ≡ own) (other : own ≡ place → ⊥) (moved : IsPermutation ns ms)
    (swapped : Swapped (λ k. get_or ns k 0) (λ k. get_or ms k 0) place own) where
  own_below : own < length ns
  own_below = subst (λ (m : ℕ). m < length ns) is (below_at (length ns) ns place has.are.1 there)

  long : length ms ≡ length ns
  long = length_permutation ns ms moved

  not_before : own < place → ⊥
  not_before less = other (sym (same_place ns place own has.are there own_below (is ∙ sym (has.before own less))))

  not_there : get_or ns own 0 ≡ own → ⊥
  not_there same = other (sym (same_place ns place own has.are there own_below (is ∙ sym same)))

  no_less : (k : ℕ) → at_home k (get_or ns k 0) ≤ at_home k (get_or ms k 0)
  no_less k = elim (cases_eq k place) [
    | inl same ↦
        let none = home_other k (get_or ns k 0) (λ e. other (sym is ∙ ap (λ n. get_or ns n 0) (sym same) ∙ e ∙ same)) in
        omega (arith, none)
    | inr apart ↦ elim (cases_eq k own) [
      | inl same ↦
          let none = home_other k (get_or ns k 0) (λ e. not_there (ap (λ n. get_or ns n 0) (sym same) ∙ e ∙ same)) in
          omega (arith, none)
      | inr away ↦
          let e = ap (at_home k) (swapped.2 k apart away) in omega (arith, e)
    ]
  ]

  pub swaps : HasGone (suc steps) place ms
  swaps = record {
    are = moved_numbers ns ms moved has.are;
    before = λ k lt.
        swapped.2 k (λ e. omega (arith, e, lt)) (λ e. not_before (omega (arith, e, lt))) ∙ has.before k lt;
    within = omega (arith, has.within, long);
    many =
        let none = home_other own (get_or ns own 0) not_there in
        let here = home_itself own (get_or ms own 0) (swapped.1 ∙ is) in
        let more = one_more (λ k. at_home k (get_or ns k 0)) (λ k. at_home k (get_or ms k 0)) (length ns) own own_below
        (λ k lt. no_less k) (omega (arith, none, here)) in
        let size = ap (sum_below (λ k. at_home k (get_or ms k 0))) long in
        omega (arith, more, size, has.many);
  }

-- ---- from the first step to the last

pub begins : (ns : List ℕ) → AreNumbers ns → HasGone 0 0 ns
begins ns are = record {
  are = are;
  before = λ k lt. absurd (omega (arith, lt));
  within = omega arith;
  many = omega arith;
}

pub ends : (place : ℕ) (ns : List ℕ) → HasGone (2 * length ns) place ns → ns ≡ range_with_len 0 (length ns)
ends place ns has =
    let most = at_most (λ k. get_or ns k 0) (length ns) in
    ext_get_or 0 ns (range_with_len 0 (length ns)) (sym (length-range_with_len 0 (length ns)))
    (λ k lt. has.before k (omega (arith, has.many, most, lt))
    ∙ sym (get_or-range_with_len 0 (length ns) k 0 lt ∙ (let e : 0 + k ≡ k = omega arith in e)))

-- ---- items that have numbers

pub map_swap : {X : Type 0} (f : X → ℕ) (xs : List X) (i j : ℕ) → i < length xs → j < length xs
    → map f (swap xs i j) ≡ swap (map f xs) i j
map_swap f [] i j one other = refl
map_swap f (d ∷ ys) i j one other =
    map-set f (set (d ∷ ys) i (get_or (d ∷ ys) j d)) j (get_or (d ∷ ys) i d)
    ∙ ap (λ l. set l j (f (get_or (d ∷ ys) i d))) (map-set f (d ∷ ys) i (get_or (d ∷ ys) j d))
    ∙ ap₂ (λ a b. set (set (map f (d ∷ ys)) i a) j b) (sym (get_or-map f (d ∷ ys) j d (f d) other))
    (sym (get_or-map f (d ∷ ys) i d (f d) one))

pub some_item : {X : Type 0} (xs : List X) (k : ℕ) → k < length xs → X
some_item [] k there = absurd (omega (arith, there))
some_item (x ∷ xs) k there = x

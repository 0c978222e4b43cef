-- The numbers below another, counted.
use Rattle.std.proofs.Common.{◌≡◌, ◌<◌, ◌≤◌, ◌+◌, ◌==◌, ℕ, zero, suc, List, [], ◌∷◌, length, inl, inr, refl}
use Rattle.std.proofs.Common.{arith, sym, subst, ◌∙◌}
use Rattle.std.proofs.lemmas.Bool.{cases_lt}
use Rattle.std.specs.List.{AllByRecursion, IsDistinct}
use Rattle.tor_board.specs.Weights.{below, only, times}
use Rattle.tor_sums.specs.steps.Places.{AreNumbers}
use Rattle.tor_engine.proofs.Counts.{none_of, only_itself, only_other}

-- ---- how many there are

below_none : (f : ℕ → ℕ) (n : ℕ) → ((k : ℕ) → k < n → f k ≡ 0) → below f n ≡ 0
below_none f zero none = refl
below_none f (suc n) none = omega (arith, below_none f n (λ k lt. none k (omega (arith, lt))), none n (omega arith))

pub below_ones : (f : ℕ → ℕ) (n : ℕ) → ((k : ℕ) → k < n → f k ≡ 1) → below f n ≡ n
below_ones f zero ones = refl
below_ones f (suc n) ones = omega (arith, below_ones f n (λ k lt. ones k (omega (arith, lt))), ones n (omega arith))

below_plus : (f g : ℕ → ℕ) (n : ℕ) → below (λ k. f k + g k) n ≡ below f n + below g n
below_plus f g zero = refl
below_plus f g (suc n) = omega (arith, below_plus f g n)

one_below : (x n : ℕ) → x < n → below (λ u. only u x) n ≡ 1
one_below x zero less = absurd (omega (arith, less))
one_below x (suc n) less = elim (cases_lt x n) [
  | inl lower ↦ omega (arith, one_below x n lower, only_other n x (λ same. omega (arith, same, lower)))
  | inr ge ↦
      let none = below_none (λ u. only u x) n (λ u lt. only_other u x (λ same. omega (arith, same, lt, ge))) in
      omega (arith, none, only_itself n x (omega (arith, less, ge)))
]

counted : (n : ℕ) (ns : List ℕ) → AllByRecursion (λ x. x < n) ns → below (λ u. times u ns) n ≡ length ns
counted n [] all = below_none (λ u. times u []) n (λ u lt. refl)
counted n (x ∷ ns) all =
    let both = below_plus (λ u. only u x) (λ u. times u ns) n in
    omega (arith, both, one_below x n all.0, counted n ns all.1)

-- ---- those below n, each once

distinct_of : (ns : List ℕ) → ((u : ℕ) → times u ns ≤ 1) → IsDistinct (λ x y. x == y) ns
unfolding IsDistinct
distinct_of [] most = tt
distinct_of (x ∷ ns) most = (
  none_of x ns (let m = most x in omega (arith, m, only_itself x x refl)),
  distinct_of ns (λ u. let m = most u in omega (arith, m)),
)

none_above : (n u : ℕ) (ns : List ℕ) → AllByRecursion (λ x. x < n) ns → n ≤ u → times u ns ≡ 0
none_above n u [] all ge = refl
none_above n u (x ∷ ns) all ge =
    omega (arith, only_other u x (λ same. omega (arith, same, ge, all.0)), none_above n u ns all.1 ge)

pub numbers_of_counts : (n : ℕ) (ns : List ℕ) → AllByRecursion (λ x. x < n) ns
    → ((u : ℕ) → u < n → times u ns ≡ 1) → (length ns ≡ n) × AreNumbers ns
numbers_of_counts n ns all once =
    (long, (distinct_of ns most, subst (λ (m : ℕ). AllByRecursion (λ x. x < m) ns) (sym long) all))
  where
    long : length ns ≡ n
    long = sym (counted n ns all) ∙ below_ones (λ u. times u ns) n once

    most : (u : ℕ) → times u ns ≤ 1
    most u = elim (cases_lt u n) [
      | inl less ↦ let one = once u less in omega (arith, one)
      | inr ge ↦ let none = none_above n u ns all ge in omega (arith, none)
    ]

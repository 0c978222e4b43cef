-- The first condition of both sides is the earliest of theirs.
use Rattle.tor_check.proofs.Names.{◌≡◌, ℕ, ◌+◌, ◌≤◌, true, false, Bool, ◌&&◌, ◌||◌, List, [], ◌∷◌, Option, None, Some}
use Rattle.tor_check.proofs.Names.{cond, refl, ap₂, ◌∙◌, arith, subst, find, if◌then◌else◌, AllByRecursion, le-leb}
use Rattle.tor_check.proofs.Names.{lt-leb, Data, refusal_for, list_holds, side_conditions, earliest, first_of_both}
use Rattle.tor_check.proofs.Names.{first_of_sides, number_of, tree_holds, Condition, holds, info_of, kind_of, has_v1}
use Rattle.tor_check.proofs.Names.{has_v2}

-- the numbers rise
abbrev AreNumbered : ℕ → List Condition → Type 0
AreNumbered n [] = Unit {0}
AreNumbered n (c ∷ cs) = (n ≤ number_of (refusal_for c)) × AreNumbered (number_of (refusal_for c) + 1) cs

-- what is found in a row has a number of the row
found_above : (q : Condition → Bool) (n : ℕ) (cs : List Condition) (d : Condition) → AreNumbered n cs
    → find q cs ≡ Some d → n ≤ number_of (refusal_for d)
found_above q n [] d rises e = absurd cc
found_above q n (c ∷ cs) d rises e =
    by_test (q c) e (λ h. omega (arith, rises.0, found_above q (number_of (refusal_for c) + 1) cs d rises.1 h))
  where
    by_test : (b : Bool) → cond b (Some c) (find q cs) ≡ Some d → (find q cs ≡ Some d → n ≤ number_of (refusal_for d))
        → n ≤ number_of (refusal_for d)
    by_test true h rest = let same : c ≡ d = cc in subst (λ x. n ≤ number_of (refusal_for x)) same rises.0
    by_test false h rest = rest h

-- the first of either is the earliest of both
pub find_either : (p q : Condition → Bool) (n : ℕ) (cs : List Condition) → AreNumbered n cs
    → find (λ c. p c || q c) cs ≡ earliest (find p cs) (find q cs)
find_either p q n [] rises = refl
find_either p q n (c ∷ cs) rises = by_tests (p c) (q c) (find_either p q (number_of (refusal_for c) + 1) cs rises.1)
  where
    m : ℕ
    m = number_of (refusal_for c)

    second : (other : Option Condition) → find q cs ≡ other → Some c ≡ earliest (Some c) other
    second None is = refl
    second (Some d) is =
        let above = found_above q (m + 1) cs d rises.1 is in
        rw (le-leb m (number_of (refusal_for d)) (omega (arith, above))) refl

    first : (other : Option Condition) → find p cs ≡ other → Some c ≡ earliest other (Some c)
    first None is = refl
    first (Some d) is =
        let above = found_above p (m + 1) cs d rises.1 is in
        rw (lt-leb (number_of (refusal_for d)) m (omega (arith, above))) refl

    by_tests : (a b : Bool) → find (λ c. p c || q c) cs ≡ earliest (find p cs) (find q cs)
        → cond (a || b) (Some c) (find (λ c. p c || q c) cs)
        ≡ earliest (cond a (Some c) (find p cs)) (cond b (Some c) (find q cs))
    by_tests true true rest = rw (le-leb m m (omega arith)) refl
    by_tests true false rest = second (find q cs) refl
    by_tests false true rest = first (find p cs) refl
    by_tests false false rest = rest

-- a side that is not there has no condition
find_if : (b : Bool) (p : Condition → Bool) (cs : List Condition)
    → find (λ c. b && p c) cs ≡ (if b then find p cs else None)
find_if true p cs = refl
find_if false p [] = refl
find_if false p (c ∷ cs) = find_if false p cs

-- equal tests find the same
find_same : (p q : Condition → Bool) (cs : List Condition) → AllByRecursion (λ c. p c ≡ q c) cs → find p cs ≡ find q cs
find_same p q [] same = refl
find_same p q (c ∷ cs) same = rw (same.0, find_same p q cs same.1) refl

left_alone : (a b : Bool) → a ≡ (a || (b && false))
left_alone true b = refl
left_alone false true = refl
left_alone false false = refl

right_alone : (a b : Bool) → b ≡ ((a && false) || b)
right_alone true b = refl
right_alone false b = refl

-- a condition of a torrent is that of its v1 side, or that of its v2 side
pub sides_first : (root : Data) → first_of_sides root ≡ first_of_both (info_of root)
sides_first root =
    let info = info_of root in
    let v1 = has_v1 (kind_of info) in
    let v2 = has_v2 (kind_of info) in
    let p : Condition → Bool = λ c. v1 && list_holds info c in
    let q : Condition → Bool = λ c. v2 && tree_holds info c in
    let same : AllByRecursion (λ c. holds root c ≡ (p c || q c)) side_conditions = (
      refl,
      (
        refl,
        (
          left_alone _ v2,
          (
            left_alone _ v2,
            (
              refl,
              (
                refl,
                (
                  refl,
                  (
                    left_alone _ v2,
                    (
                      right_alone v1 _,
                      (right_alone v1 _, tt),
                    ),
                  ),
                ),
              ),
            ),
          ),
        ),
      ),
    ) in
    find_same (holds root) (λ c. p c || q c) side_conditions same
    ∙ find_either p q 8 side_conditions (
      omega arith,
      (
        omega arith,
        (
          omega arith,
          (
            omega arith,
            (
              omega arith,
              (
                omega arith,
                (omega arith, (omega arith, (omega arith, (omega arith, tt)))),
              ),
            ),
          ),
        ),
      ),
    )
    ∙ ap₂ earliest (find_if v1 (list_holds info) side_conditions) (find_if v2 (tree_holds info) side_conditions)

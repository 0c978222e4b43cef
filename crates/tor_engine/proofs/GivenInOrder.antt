-- What seats gave, in whatever order, and the least that failed at them.
use Rattle.std.proofs.Common.{◌≡◌, ◌<◌, ◌≤◌, ℕ, ◌+◌, List, [], ◌∷◌, ◌++◌, map, reverse, inl, inr, refl, ap, ap₂}
use Rattle.std.proofs.Common.{sym, subst, ◌∙◌, arith, cond}
use Rattle.std.proofs.lemmas.Bool.{cases_eq, cases_lt, eq-eqb, ne_eqb}
use Rattle.std.proofs.lemmas.List.{map-append, reverse-append}
use Rattle.tor_board.specs.Desks.{GivenUnit, units_of}
use Rattle.tor_board.specs.Seats.{IsLeastOf}
use Rattle.tor_board.specs.Weights.{only, times}
use Rattle.tor_engine.specs.steps.Taken.{AreOfGiven, IsIn, given_pairs, pair_in}
use Rattle.tor_engine.proofs.Counts.{each_append, each_more, in_left, in_own, in_reverse, in_right, times_append}

-- ---- the order of the gives is of no matter

numbers_reverse : (u : ℕ) (ps : List (ℕ × List ℕ)) → times u (map (λ p. p.0) (reverse ps)) ≡ times u (map (λ p. p.0) ps)
numbers_reverse u [] = refl
numbers_reverse u (p ∷ ps) =
    let split = ap (map (λ q. q.0)) (reverse-append (p ∷ []) ps) ∙ map-append (λ q. q.0) (reverse ps) (p ∷ []) in
    let parts = ap (times u) split ∙ times_append u (map (λ q. q.0) (reverse ps)) (p.0 ∷ []) in
    omega (arith, parts, numbers_reverse u ps)

units_in_pairs : (news : List GivenUnit) → map (λ p. p.0) (given_pairs news) ≡ units_of news
units_in_pairs [] = refl
units_in_pairs (g ∷ news) = ap (λ us. g.unit ∷ us) (units_in_pairs news)

module _ {A : Type 0} (number_in : A → ℕ) (hash_in : A → List ℕ) where
  numbers_in_pairs : (sums : List A) → map (λ p. p.0) (map (pair_in number_in hash_in) sums)
      ≡ map number_in sums
  numbers_in_pairs [] = refl
  numbers_in_pairs (one ∷ sums) = ap (λ us. number_in one ∷ us) (numbers_in_pairs sums)

  pub of_given : (news : List GivenUnit) (sums : List A)
      → given_pairs news ≡ reverse (map (pair_in number_in hash_in) sums)
      → AreOfGiven number_in hash_in news sums
  of_given news sums order =
      let pairs = map (pair_in number_in hash_in) sums in
      record {
        counted = λ u.
            ap (times u) (sym (numbers_in_pairs sums)) ∙ sym (numbers_reverse u pairs)
            ∙ ap (λ ps. times u (map (λ p. p.0) ps)) (sym order) ∙ ap (times u) (units_in_pairs news);
        hashes = each_more (λ one. IsIn pairs (pair_in number_in hash_in one))
            (λ one. IsIn (given_pairs news) (pair_in number_in hash_in one)) sums
            (λ one is. subst (λ (ps : List (ℕ × List ℕ)). IsIn ps (pair_in number_in hash_in one)) (sym order)
            (in_reverse pairs (pair_in number_in hash_in one) is))
            (in_own (pair_in number_in hash_in) sums);
      }

  pub both_of_given : (news more : List GivenUnit) (sums next : List A) → AreOfGiven number_in hash_in news sums
      → AreOfGiven number_in hash_in more next → AreOfGiven number_in hash_in (news ++ more) (sums ++ next)
  both_of_given news more sums next one other =
      let pairs : given_pairs (news ++ more) ≡ given_pairs news ++ given_pairs more =
      map-append (λ (g : GivenUnit). (g.unit, g.hash)) news more in
      let among = λ (a : A). IsIn (given_pairs (news ++ more)) (pair_in number_in hash_in a) in
      record {
        counted = λ u.
            ap (times u) (map-append number_in sums next) ∙ times_append u (map number_in sums) (map number_in next)
            ∙ ap₂ (λ n m. n + m) (one.counted u) (other.counted u)
            ∙ sym (ap (times u) (map-append (λ (g : GivenUnit). g.unit) news more)
            ∙ times_append u (units_of news) (units_of more));
        hashes = each_append among sums next
            (each_more (λ a. IsIn (given_pairs news) (pair_in number_in hash_in a)) among sums
            (λ a is. subst (λ (ps : List (ℕ × List ℕ)). IsIn ps (pair_in number_in hash_in a)) (sym pairs)
            (in_left (given_pairs news) (given_pairs more) (pair_in number_in hash_in a) is)) one.hashes)
            (each_more (λ a. IsIn (given_pairs more) (pair_in number_in hash_in a)) among next
            (λ a is. subst (λ (ps : List (ℕ × List ℕ)). IsIn ps (pair_in number_in hash_in a)) (sym pairs)
            (in_right (given_pairs news) (given_pairs more) (pair_in number_in hash_in a) is)) other.hashes);
      }

-- ---- the least that failed

only_is : (x u : ℕ) → 0 < only x u → u ≡ x
only_is x u some = elim (cases_eq u x) [
  | inl same ↦ same
  | inr other ↦
      let none : only x u ≡ 0 = ap (λ b. cond b 1 0) (ne_eqb u x other) in
      absurd (omega (arith, some, none))
]

pub least_of_one : (u : ℕ) → IsLeastOf (u ∷ []) u
least_of_one u =
    let one : only u u ≡ 1 = ap (λ b. cond b 1 0) (eq-eqb u u refl) in
    (omega (arith, one), λ x some. let same = only_is x u (omega (arith, some)) in omega (arith, same))

-- the lesser of two that are least is least of all
pub least_of_both : (xs ys : List ℕ) (u v : ℕ) → IsLeastOf xs u → IsLeastOf ys v → u ≤ v → IsLeastOf (xs ++ ys) u
least_of_both xs ys u v one other le = (
  omega (arith, times_append u xs ys, one.0),
  λ x some. elim (cases_lt 0 (times x xs)) [
    | inl here ↦ one.1 x here
    | inr none ↦ let later = other.1 x (omega (arith, some, times_append x xs ys, none)) in omega (arith, later, le)
  ],
)

pub least_of_second : (xs ys : List ℕ) (u v : ℕ) → IsLeastOf xs u → IsLeastOf ys v → v ≤ u → IsLeastOf (xs ++ ys) v
least_of_second xs ys u v one other le = (
  omega (arith, times_append v xs ys, other.0),
  λ x some. elim (cases_lt 0 (times x ys)) [
    | inl here ↦ other.1 x here
    | inr none ↦ let later = one.1 x (omega (arith, some, times_append x xs ys, none)) in omega (arith, later, le)
  ],
)

-- What units sum up to, each by itself.
use Rattle.std.proofs.Common.{◌≡◌, suc, List, [], ◌∷◌, ◌++◌, ap, length, refl}
use Rattle.tor_plan.specs.declared.units.PlanUnit.{PlanUnit}
use Rattle.tor_sums.specs.steps.Each.{SumUpEach}

module _ {A : Type 0} (sums_up : PlanUnit → A → Type 0) where
  pub each_none : SumUpEach sums_up [] []
  unfolding SumUpEach
  each_none = tt

  pub each_length : (units : List PlanUnit) (sums : List A) → SumUpEach sums_up units sums → length units ≡ length sums
  unfolding SumUpEach
  each_length [] [] each = refl
  each_length [] (one ∷ sums) each = absurd each
  each_length (unit ∷ units) [] each = absurd each
  each_length (unit ∷ units) (one ∷ sums) each = ap suc (each_length units sums each.1)

  pub each_append : (xs ys : List PlanUnit) (one other : List A) → SumUpEach sums_up xs one
      → SumUpEach sums_up ys other → SumUpEach sums_up (xs ++ ys) (one ++ other)
  unfolding SumUpEach
  each_append [] ys [] other first second = second
  each_append [] ys (x ∷ one) other first second = absurd first
  each_append (unit ∷ xs) ys [] other first second = absurd first
  each_append (unit ∷ xs) ys (x ∷ one) other first second =
      (first.0, each_append xs ys one other first.1 second)

  pub each_next : (xs : List PlanUnit) (unit : PlanUnit) (one : List A) (x : A) → SumUpEach sums_up xs one
      → sums_up unit x → SumUpEach sums_up (xs ++ unit ∷ []) (one ++ x ∷ [])
  unfolding SumUpEach
  each_next xs unit one x first next = each_append xs (unit ∷ []) one (x ∷ []) first (next, tt)

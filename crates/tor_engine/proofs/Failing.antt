-- The first of numbered units that fails, and of two halves of them.
use Rattle.std.proofs.Common.{◌≡◌, ◌<◌, ◌≤◌, ℕ, suc, ◌+◌, List, [], ◌∷◌, ◌++◌, length, take, get_or, Option, None}
use Rattle.std.proofs.Common.{Some, true, nat_le, inl, inr, option_map, unwrap_or, refl, ap, sym, ◌∙◌, arith}
use Rattle.std.proofs.Common.{if◌then◌else◌}
use Rattle.std.specs.List.{enumerate_from}
use Rattle.std.proofs.lemmas.Bool.{le-leb}
use Rattle.std.proofs.lemmas.List.{take_all}
use Rattle.std.proofs.lemmas.List.FromFn.{get_or-enumerate_from, length-enumerate_from}
use Rattle.std.specs.Option.{option_or}
use Rattle.tor_plan.specs.declared.units.PlanUnit.{PlanUnit}
use Rattle.tor_sums.specs.Fault.{IsFault, first_of}
use Rattle.tor_sums.specs.declared.errors.EngineError.{EngineError}
use Rattle.tor_engine.specs.declared.workers.failure.Failure.{Failure}
use Rattle.tor_engine.specs.declared.workers.failure.Failure.TheVariants.{AtUnit, Memory}
use Rattle.tor_engine.specs.declared.workers.failure.UnitFailure.{UnitFailure}
use Rattle.tor_engine.specs.steps.Failing.{IsFailure, error_of, failure_of, first_failure, least_of}
use Rattle.tor_sums.proofs.FirstOf.{first_append, first_at, first_next, or_none, or_some}

numbered_append : {X : Type 0} (n : ℕ) (xs ys : List X)
    → enumerate_from n (xs ++ ys) ≡ enumerate_from n xs ++ enumerate_from (n + length xs) ys
numbered_append n [] ys = let same : n ≡ n + 0 = omega arith in ap (λ m. enumerate_from m ys) same
numbered_append n (x ∷ xs) ys =
    let same : (n + 1) + length xs ≡ n + length (x ∷ xs) = omega arith in
    ap (λ zs. (n, x) ∷ zs) (numbered_append (n + 1) xs ys
    ∙ ap (λ m. enumerate_from (n + 1) xs ++ enumerate_from m ys) same)

module _ {F : Type 0} where
  -- the first number, or one of the others
  here_or_later : (n count : ℕ) (fault : Option (EngineError F)) (rest : Option (UnitFailure F))
      (failure : UnitFailure F)
      → option_or (option_map (λ error. record { unit = n; error = error }) fault) rest ≡ Some failure
      → (rest ≡ Some failure → (n + 1 ≤ failure.unit) × (failure.unit < (n + 1) + count))
      → (n ≤ failure.unit) × (failure.unit < n + suc count)
  here_or_later n count None rest failure is later =
      let range = later is in
      (omega (arith, range.0), omega (arith, range.1))
  here_or_later n count (Some error) rest failure is later =
      let same : n ≡ failure.unit = ap (λ o. unwrap_or (option_map (λ f. f.unit) o) n) is in
      (omega (arith, same), omega (arith, same))

  same_fault : (n : ℕ) (fault : Option (EngineError F)) (rest : Option (UnitFailure F))
      → option_map (λ f. f.error) (option_or (option_map (λ error. record { unit = n; error = error }) fault) rest)
      ≡ option_or fault (option_map (λ f. f.error) rest)
  same_fault n None rest = refl
  same_fault n (Some error) rest = refl

  module _ (fault : PlanUnit → Option (EngineError F)) where
    in_range : (n : ℕ) (units : List PlanUnit) (failure : UnitFailure F) → first_failure fault n units ≡ Some failure
        → (n ≤ failure.unit) × (failure.unit < n + length units)
    unfolding first_of
    in_range n [] failure is = cc
    in_range n (unit ∷ units) failure is =
        here_or_later n (length units) (fault unit) (first_failure fault (n + 1) units) failure is
        (in_range (n + 1) units failure)

    -- without their numbers
    pub fault_of_failure : (n : ℕ) (units : List PlanUnit)
        → option_map (λ f. f.error) (first_failure fault n units) ≡ first_of fault units
    unfolding first_of
    fault_of_failure n [] = refl
    fault_of_failure n (unit ∷ units) =
        same_fault n (fault unit) (first_failure fault (n + 1) units)
        ∙ ap (option_or (fault unit)) (fault_of_failure (n + 1) units)

    pub fault_of_stop : (n : ℕ) (units : List PlanUnit) (failure : Failure F)
        → IsFailure (first_failure fault n units) failure → IsFault (first_of fault units) (error_of failure)
    fault_of_stop n units Memory is = inl refl
    fault_of_stop n units (AtUnit failure) is =
        inr (sym (fault_of_failure n units) ∙ ap (option_map (λ f. f.error)) is)

    failure_append : (n : ℕ) (xs ys : List PlanUnit) → first_failure fault n (xs ++ ys)
        ≡ option_or (first_failure fault n xs) (first_failure fault (n + length xs) ys)
    failure_append n xs ys =
        ap (first_of (failure_of fault)) (numbered_append n xs ys)
        ∙ first_append (failure_of fault) (enumerate_from n xs) (enumerate_from (n + length xs) ys)

    -- no unit before this one fails
    module _ (n : ℕ) (units : List PlanUnit) (i : ℕ) (d unit : PlanUnit) (there : i < length units)
        (here : get_or units i d ≡ unit)
        (none : first_of (failure_of fault) (take i (enumerate_from n units)) ≡ None) where
      within : i < length (enumerate_from n units)
      within = omega (arith, there, length-enumerate_from n units)

      own : (found : Option (EngineError F)) → fault unit ≡ found
          → failure_of fault (get_or (enumerate_from n units) i (n, d))
          ≡ option_map (λ error. record { unit = n + i; error = error }) found
      own found is =
          ap (failure_of fault) (get_or-enumerate_from n units i (n, d) there)
          ∙ ap (option_map (λ error. record { unit = n + i; error = error })) (ap fault here ∙ is)

      -- nor does this one
      pub next_holds : fault unit ≡ None
          → first_of (failure_of fault) (take (i + 1) (enumerate_from n units)) ≡ None
      next_holds is = first_next (failure_of fault) (enumerate_from n units) i (n, d) within none (own None is)

      -- it is the first
      pub fails_here : (error : EngineError F) → fault unit ≡ Some error
          → first_failure fault n units ≡ Some (record { unit = n + i; error = error })
      fails_here error is =
          first_at (failure_of fault) (enumerate_from n units) i (n, d) (record { unit = n + i; error = error }) within
          none (own (Some error) is)

    -- nor does any other
    pub all_hold : (n : ℕ) (units : List PlanUnit) (i : ℕ) → length units ≤ i
        → first_of (failure_of fault) (take i (enumerate_from n units)) ≡ None → first_failure fault n units ≡ None
    all_hold n units i all none =
        ap (first_of (failure_of fault))
        (sym (take_all i (enumerate_from n units) (omega (arith, all, length-enumerate_from n units)))) ∙ none

    -- the first half fails, or the second alone, or both
    pub first_fails : (n : ℕ) (xs ys : List PlanUnit) (failure : Failure F)
        → IsFailure (first_failure fault n xs) failure → IsFailure (first_failure fault n (xs ++ ys)) failure
    first_fails n xs ys Memory is = tt
    first_fails n xs ys (AtUnit failure) is =
        failure_append n xs ys
        ∙ or_some (first_failure fault n xs) (first_failure fault (n + length xs) ys) failure is

    pub second_decides : (n : ℕ) (xs ys : List PlanUnit) → first_failure fault n xs ≡ None
        → first_failure fault n (xs ++ ys) ≡ first_failure fault (n + length xs) ys
    second_decides n xs ys none =
        failure_append n xs ys
        ∙ or_none (first_failure fault n xs) (first_failure fault (n + length xs) ys) none

    pub both_fail : (n : ℕ) (xs ys : List PlanUnit) (one other : Failure F)
        → IsFailure (first_failure fault n xs) one → IsFailure (first_failure fault (n + length xs) ys) other
        → IsFailure (first_failure fault n (xs ++ ys)) (least_of one other)
    both_fail n xs ys Memory other is is_other = tt
    both_fail n xs ys (AtUnit one) Memory is is_other = tt
    both_fail n xs ys (AtUnit one) (AtUnit other) is is_other =
        let low = in_range n xs one is in
        let high = in_range (n + length xs) ys other is_other in
        let lesser : nat_le one.unit other.unit ≡ true = le-leb _ _ (omega (arith, low.1, high.0)) in
        first_fails n xs ys (AtUnit one) is ∙ ap (λ b. Some (if b then one else other)) (sym lesser)

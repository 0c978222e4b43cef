-- What workers answer for units, and for two halves of them.
use Rattle.std.proofs.Common.{◌≡◌, ℕ, ◌+◌, List, ◌++◌, Vec, length, Option, Result, Ok, Err, refl, sym, subst, ◌∙◌}
use Rattle.std.specs.Prelude.{IsErrAnd}
use Rattle.std.specs.declared.alloc.Global.{Global}
use Rattle.tor_plan.specs.declared.units.PlanUnit.{PlanUnit}
use Rattle.tor_source.specs.Source.{SourceFacts}
use Rattle.tor_sums.specs.declared.errors.EngineError.{EngineError}
use Rattle.tor_sums.specs.declared.errors.EngineError.TheVariants.{Resources}
use Rattle.tor_engine.specs.declared.workers.failure.Failure.{Failure}
use Rattle.tor_engine.specs.declared.workers.failure.Failure.TheVariants.{Memory}
use Rattle.tor_engine.specs.declared.workers.failure.UnitFailure.{UnitFailure}
use Rattle.tor_engine.specs.steps.Failing.{AnswersUnits, AreJoined, IsFailure, both_of, error_of, least_of}
use Rattle.tor_engine.proofs.Failing.{both_fail, first_fails, second_decides}
use Rattle.tor_engine.proofs.Stopping.{of_least}

module _ {W F X : Type 0} (sums_up : W → List PlanUnit → List X → Type 0) (is_steady : W → SourceFacts F → Type 0)
    (fault : W → SourceFacts F → PlanUnit → Option (EngineError F)) (may_be : W → EngineError F → Type 0) where
  abbrev A : Type 0
  A = Vec X Global

  abbrev Answers : W → ℕ → List PlanUnit → Result A (Failure F) → Type 0
  Answers work n units result =
      AnswersUnits (λ units sums. sums_up work units sums.items) (is_steady work) (fault work) (may_be work) n units
      result

  -- memory was refused
  pub refused : (work : W) (n : ℕ) (units : List PlanUnit) (result : Result A (Failure F))
      → IsErrAnd result (λ failure. failure ≡ Memory) → may_be work Resources → Answers work n units result
  refused work n units (Ok sums) is may = absurd is
  refused work n units (Err failure) is may =
      subst (λ (f : Failure F). Answers work n units (Err f)) (sym is)
      (record { summed = _; steady = λ facts steady. tt; gave = may })

  module _ (work first second : W) (n m k : ℕ) (all xs ys : List PlanUnit)
      (halves : first ≡ work × second ≡ work × all ≡ xs ++ ys × m ≡ n × k ≡ n + length xs)
      (r s : Result A (Failure F)) (is_one : Answers first m xs r) (is_other : Answers second k ys s)
      (append : (w : W) (us vs : List PlanUnit) (ones others : List X) → sums_up w us ones → sums_up w vs others
      → sums_up w (us ++ vs) (ones ++ others)) where
    one : (answer : Result A (Failure F)) → r ≡ answer → Answers work n xs answer
    one answer is =
        subst (λ (w : W). Answers w n xs answer) halves.0
        (subst (λ (i : ℕ). Answers first i xs answer) halves.3
        (subst (λ (t : Result A (Failure F)). Answers first m xs t) is is_one))

    other : (answer : Result A (Failure F)) → s ≡ answer → Answers work (n + length xs) ys answer
    other answer is =
        subst (λ (w : W). Answers w (n + length xs) ys answer) halves.1
        (subst (λ (i : ℕ). Answers second i ys answer) halves.4
        (subst (λ (t : Result A (Failure F)). Answers second k ys t) is is_other))

    whole : (answer : Result A (Failure F)) → Answers work n (xs ++ ys) answer → Answers work n all answer
    whole answer = subst (λ (units : List PlanUnit). Answers work n units answer) (sym halves.2)

    both_answer : (sums next both : A) → r ≡ Ok sums → s ≡ Ok next → both.items ≡ sums.items ++ next.items
        → Answers work n all (Ok both)
    both_answer sums next both is_sums is_next is_both =
        let before = one (Ok sums) is_sums in
        let after = other (Ok next) is_next in
        whole (Ok both) (record {
          summed = subst (sums_up work (xs ++ ys)) (sym is_both)
              (append work xs ys sums.items next.items before.summed after.summed);
          steady = λ facts steady.
              second_decides (fault work facts) n xs ys (before.steady facts steady) ∙ after.steady facts steady;
          gave = _;
        })

    second_answers : (sums : A) (failure : Failure F) → r ≡ Ok sums → s ≡ Err failure
        → Answers work n all (Err failure)
    second_answers sums failure is_sums is_failure =
        let before = one (Ok sums) is_sums in
        let after = other (Err failure) is_failure in
        whole (Err failure) (record {
          summed = _;
          steady = λ facts steady.
              subst (λ (first : Option (UnitFailure F)). IsFailure first failure)
              (sym (second_decides (fault work facts) n xs ys (before.steady facts steady)))
              (after.steady facts steady);
          gave = after.gave;
        })

    first_answers : (failure : Failure F) → r ≡ Err failure → Answers work n all (Err failure)
    first_answers failure is_failure =
        let before = one (Err failure) is_failure in
        whole (Err failure) (record {
          summed = _;
          steady = λ facts steady. first_fails (fault work facts) n xs ys failure (before.steady facts steady);
          gave = before.gave;
        })

    least_answers : (failure later : Failure F) → r ≡ Err failure → s ≡ Err later
        → Answers work n all (Err (least_of failure later))
    least_answers failure later is_failure is_later =
        let before = one (Err failure) is_failure in
        let after = other (Err later) is_later in
        whole (Err (least_of failure later)) (record {
          summed = _;
          steady = λ facts steady.
              both_fail (fault work facts) n xs ys failure later (before.steady facts steady)
              (after.steady facts steady);
          gave = of_least (λ f. may_be work (error_of f)) failure later before.gave after.gave;
        })

    -- both answered, or one stopped
    pub joined_answers : (result : Result A (Failure F)) → AreJoined (both_of r s) result → may_be work Resources
        → Answers work n all result
    joined_answers answer is_joined may = by_cases r s answer refl refl is_joined
      where
        by_cases : (a b result : Result A (Failure F)) → r ≡ a → s ≡ b → AreJoined (both_of a b) result
            → Answers work n all result
        by_cases (Ok x) (Ok y) (Ok both) is_first is_second is = both_answer x y both is_first is_second is
        by_cases (Ok x) (Ok y) (Err f) is_first is_second is = refused work n all (Err f) is may
        by_cases (Ok x) (Err g) result is_first is_second is =
            subst (λ (t : Result A (Failure F)). Answers work n all t) (sym is) (second_answers x g is_first is_second)
        by_cases (Err f) (Ok y) result is_first is_second is =
            subst (λ (t : Result A (Failure F)). Answers work n all t) (sym is) (first_answers f is_first)
        by_cases (Err f) (Err g) result is_first is_second is =
            subst (λ (t : Result A (Failure F)). Answers work n all t) (sym is) (least_answers f g is_first is_second)

-- What workers did at a board, when it is closed.
use Rattle.std.proofs.Common.{◌≡◌, ◌<◌, ◌≤◌, ℕ, ◌+◌, List, [], ◌++◌, length, map, take, drop, get_or, Option, None}
use Rattle.std.proofs.Common.{Some, Ok, Err, Vec, inl, inr, refl, ap, sym, subst, ◌∙◌, arith, append-nil, IsPermutation}
use mathlib.Core.Option.{some}
use lib.ListN.{get_elem?}
use Rattle.std.proofs.lemmas.List.{drop-map, length-map, take-map}
use Rattle.std.specs.Prelude.{MatchOption, unwrap_or}
use Rattle.std.specs.declared.alloc.Global.{Global}
use Rattle.std.specs.List.{AllByRecursion, range_with_len}
use Rattle.std.proofs.ByRecursion.{all_shuffled}
use Rattle.tor_board.specs.Desks.{Desk, GivenUnit, hash_of, unit_hashes, units_of}
use Rattle.tor_board.specs.Results.{IsComplete, IsTreeEnd}
use Rattle.tor_board.specs.Seats.{IsAllGiven, IsLeastOf}
use Rattle.tor_board.specs.Weights.{times}
use Rattle.tor_merkle.specs.Stack.{padded_root}
use Rattle.tor_plan.specs.Forest.{AreRuns}
use Rattle.tor_plan.specs.declared.forests.Run.{Run}
use Rattle.tor_plan.specs.declared.units.PlanUnit.{PlanUnit}
use Rattle.tor_source.specs.Source.{SourceFacts}
use Rattle.tor_sums.specs.Fault.{IsFault, first_of}
use Rattle.tor_sums.specs.declared.errors.EngineError.{EngineError}
use Rattle.tor_engine.specs.declared.workers.failure.Failure.{Failure}
use Rattle.tor_engine.specs.declared.workers.failure.Failure.TheVariants.{AtUnit, Memory}
use Rattle.tor_sums.specs.steps.Each.{SumUpEach}
use Rattle.tor_sums.specs.steps.Places.{AreNumbers}
use Rattle.tor_sums.specs.steps.Roots.{root_of_run, roots_of_trees}
use Rattle.tor_engine.specs.steps.Failing.{error_of}
use Rattle.tor_engine.specs.steps.Taken.{AnswersSeat, IsIn, IsSumOf, given_pairs, pair_in, unit_at}
use Rattle.tor_engine.proofs.Counts.{each_mapped, each_more, each_with}
use Rattle.tor_engine.proofs.CountedNumbers.{numbers_of_counts}
use Rattle.tor_engine.proofs.RunRoots.{IsRun, runs_are}
use Rattle.tor_engine.proofs.GivenUnits.{each_in_place, each_root, first_found, hash_given, hashes_in_place}
use Rattle.tor_engine.proofs.GivenUnits.{holds_of_given, none_found, part_of_range, run_at}

module _ {F A : Type 0} (number_in : A → ℕ) (hash_in : A → List ℕ) (sums_up : PlanUnit → A → Type 0)
    (is_steady : SourceFacts F → Type 0) (fault : SourceFacts F → PlanUnit → Option (EngineError F))
    (may_be : EngineError F → Type 0) (units : List PlanUnit) (old new : Desk) (bare : old.given ≡ [])
    (least : Option ℕ) (least_is : MatchOption least (new.failed ≡ []) (IsLeastOf new.failed))
    (all : IsAllGiven (length units) new least) where
  -- ---- none failed

  module _ (sums : Vec A Global)
      (answers : AnswersSeat number_in hash_in sums_up is_steady fault may_be units old new (Ok sums)) where
    abbrev news : List GivenUnit
    news = answers.news

    news_are : new.given ≡ news
    news_are = answers.has.given ∙ ap (λ xs. news ++ xs) bare ∙ append-nil news

    none_least : (o : Option ℕ) → MatchOption o (new.failed ≡ []) (IsLeastOf new.failed) → o ≡ None
    none_least None is = refl
    none_least (Some u) is = absurd (omega (arith, is.0, ap (times u) answers.took.1))

    once : (u : ℕ) → u < length units → times u (units_of news) ≡ 1
    once u below =
        ap (λ given. times u (units_of given)) (sym news_are)
        ∙ all answers.has.held (inl answers.took.0) u
        (subst (λ (o : Option ℕ). u < unwrap_or o (length units)) (sym (none_least least least_is)) below)

    pub faultless : (facts : SourceFacts F) → is_steady facts → first_of (fault facts) units ≡ None
    faultless facts steady =
        none_found (fault facts) units
        (λ u below. holds_of_given (λ u. fault facts (unit_at units u) ≡ None) news
        (answers.has.faultless facts steady) u (omega (arith, once u below)))

    module _ (placed : List A) (moved : IsPermutation sums.items placed)
        (ordered : AreNumbers (map number_in sums.items)
        → map number_in placed ≡ range_with_len 0 (length sums.items)) where
      summed_up : AllByRecursion (IsSumOf number_in sums_up units) placed
      summed_up = all_shuffled (IsSumOf number_in sums_up units) sums.items placed moved answers.took.3

      numbers : map number_in placed ≡ range_with_len 0 (length units)
      numbers =
          let are = numbers_of_counts (length units) (map number_in sums.items)
          (each_mapped number_in (λ u. u < length units) sums.items
          (each_more (IsSumOf number_in sums_up units) (λ one. number_in one < length units) sums.items
          (λ one is. is.0) answers.took.3))
          (λ u below. answers.took.2.counted u ∙ once u below) in
          ordered are.1 ∙ ap (range_with_len 0) (sym (length-map sums.items number_in) ∙ are.0)

      pub summed : SumUpEach sums_up units placed
      summed =
          each_in_place number_in hash_in sums_up units units 0 placed
          (λ u below. ap (unit_at units) (let e : u ≡ 0 + u = omega arith in e)) numbers
          (each_more (IsSumOf number_in sums_up units) (λ one. sums_up (unit_at units (number_in one)) one) placed
          (λ one is. is.1) summed_up)

      hashes_are : map hash_in placed ≡ map (hash_of news) (range_with_len 0 (length units))
      hashes_are =
          hashes_in_place number_in hash_in sums_up news placed
          (each_with (λ one. IsIn (given_pairs news) (pair_in number_in hash_in one))
          (IsSumOf number_in sums_up units) (λ one. hash_of news (number_in one) ≡ hash_in one) placed
          (λ one there is. hash_given (number_in one) (hash_in one) news there
          (let number = is.0 in omega (arith, once (number_in one) number)))
          (all_shuffled (λ one. IsIn (given_pairs news) (pair_in number_in hash_in one)) sums.items placed moved
          answers.took.2.hashes) summed_up)
          ∙ ap (map (hash_of news)) numbers

      part_of_hashes : (run : Run) → run.first + run.count ≤ length units
          → unit_hashes new.given run ≡ take run.count (drop run.first (map hash_in placed))
      part_of_hashes run within =
          ap (λ given. unit_hashes given run) news_are
          ∙ ap (map (hash_of news)) (ap (λ n. range_with_len n run.count)
          (let e : run.first ≡ 0 + run.first = omega arith in e)
          ∙ sym (part_of_range 0 run.count run.first (length units) within))
          ∙ sym (ap (λ hs. take run.count (drop run.first hs)) hashes_are
          ∙ ap (take run.count) (drop-map (hash_of news) run.first (range_with_len 0 (length units)))
          ∙ take-map (hash_of news) run.count (drop run.first (range_with_len 0 (length units))))

      complete : (run : Run) → run.first + run.count ≤ length units → IsComplete new.given run
      complete run within u from to =
          let one = once u (omega (arith, to, within)) in
          let same = ap (λ given. times u (units_of given)) news_are in
          omega (arith, one, same)

      root_there : (k : ℕ) (run : Run) (root : Option (List ℕ)) → run.first + run.count ≤ length units
          → IsTreeEnd new.given new.tops k run root → root ≡ root_of_run (map hash_in placed) run
      root_there k run None within is = absurd (is.0 (complete run within))
      root_there k run (Some root) within is =
          ap Some (is.1 ∙ ap (padded_root run.level) (part_of_hashes run within))

      pub roots_there : (forest : List Run) (roots : List (Option (List ℕ))) → AreRuns (length units) 0 forest
          → length roots ≡ length forest
          → ((k : ℕ) (run : Run) → get_elem? forest k ≡ some run
          → IsTreeEnd new.given new.tops k run (get_or roots k None))
          → roots ≡ roots_of_trees (map hash_in placed) forest
      roots_there forest roots are long ends =
          each_root (root_of_run (map hash_in placed)) forest roots long
          (λ k run is. root_there k run (get_or roots k None)
          (run_at (IsRun (length units)) forest (runs_are (length units) 0 forest are) k run is).0 (ends k run is))

  -- ---- some unit failed

  pub least_fault : (failure : Failure F)
      → AnswersSeat number_in hash_in sums_up is_steady fault may_be units old new (Err failure)
      → (facts : SourceFacts F) → is_steady facts → IsFault (first_of (fault facts) units) (error_of failure)
  least_fault Memory answers facts steady = inl refl
  least_fault (AtUnit failure) answers facts steady =
      inr (at_least least least_is refl (answers.steady facts steady))
    where
      at_least : (o : Option ℕ) → MatchOption o (new.failed ≡ []) (IsLeastOf new.failed) → least ≡ o
          → IsLeastOf new.failed failure.unit × (failure.unit < length units)
          × (fault facts (unit_at units failure.unit) ≡ Some failure.error)
          → first_of (fault facts) units ≡ Some failure.error
      at_least None none same is = absurd (omega (arith, is.0.0, ap (times failure.unit) none))
      at_least (Some u) first same is =
          let down = first.1 failure.unit is.0.0 in
          let up = is.0.1 u first.0 in
          let news = answers.news in
          let given : new.given ≡ news = answers.has.given ∙ ap (λ xs. news ++ xs) bare ∙ append-nil news in
          first_found (fault facts) units failure.unit failure.error is.1 is.2
          (λ v below. holds_of_given (λ v. fault facts (unit_at units v) ≡ None) news
          (answers.has.faultless facts steady) v
          (let one = all answers.has.held (inr (λ none. omega (arith, is.0.0, ap (times failure.unit) none))) v
          (subst (λ (o : Option ℕ). v < unwrap_or o (length units)) (sym same) (omega (arith, below, down, up))) in
          let here = ap (λ given. times v (units_of given)) given in omega (arith, one, here)))

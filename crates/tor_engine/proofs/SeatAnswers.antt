-- What workers did from one seat, and from two that are joined.
use Rattle.std.proofs.Common.{◌≡◌, ◌<◌, ℕ, ◌+◌, ◌-◌, ◌/◌, Bool, true, false, nat_le, List, [], ◌++◌, length, Option}
use Rattle.std.proofs.Common.{None, Result, Ok, Err, Vec, refl, ap, ap₂, sym, subst, ◌∙◌, arith, ◌||◌, append-nil}
use Rattle.std.proofs.Common.{if◌then◌else◌}
use Rattle.std.proofs.lemmas.Bool.{leb-false, leb-true}
use Rattle.std.proofs.lemmas.List.{append_assoc}
use Rattle.std.specs.declared.alloc.Global.{Global}
use Rattle.std.specs.List.{AllByRecursion}
use Rattle.tor_board.specs.Desks.{Desk, GivenUnit, both, fresh, keeping}
use Rattle.tor_board.specs.Seats.{IsLeastOf}
use Rattle.tor_plan.specs.declared.units.PlanUnit.{PlanUnit}
use Rattle.tor_source.specs.Source.{SourceFacts}
use Rattle.tor_sums.specs.declared.errors.EngineError.{EngineError}
use Rattle.tor_sums.specs.declared.errors.EngineError.TheVariants.{Resources}
use Rattle.tor_engine.specs.declared.workers.failure.Failure.{Failure}
use Rattle.tor_engine.specs.declared.workers.failure.Failure.TheVariants.{AtUnit, Memory}
use Rattle.tor_engine.specs.declared.workers.failure.UnitFailure.{UnitFailure}
use Rattle.tor_engine.specs.declared.workers.worker_share.Share.{Share}
use Rattle.tor_engine.specs.steps.Failing.{AreJoined, both_of, error_of, least_of}
use Rattle.tor_engine.specs.steps.Taken.{AnswersSeat, AreOfGiven, HasGiven, IsLeastFailure, IsSumOf, TakesUnits}
use Rattle.tor_engine.specs.steps.Taken.{unit_at, without_tops}
use Rattle.tor_engine.proofs.Counts.{each_append}
use Rattle.tor_engine.proofs.GivenInOrder.{both_of_given, least_of_both, least_of_one, least_of_second, of_given}
use Rattle.tor_engine.proofs.Stopping.{error_stays, of_least, stops}

module _ {F A : Type 0} (number_in : A → ℕ) (hash_in : A → List ℕ) (sums_up : PlanUnit → A → Type 0)
    (is_steady : SourceFacts F → Type 0) (fault : SourceFacts F → PlanUnit → Option (EngineError F))
    (may_be : EngineError F → Type 0) (units : List PlanUnit) where
  abbrev Answers : Desk → Desk → Result (Vec A Global) (Failure F) → Type 0
  Answers old new result = AnswersSeat number_in hash_in sums_up is_steady fault may_be units old new result

  -- one worker
  pub seat_answers : (old new : Desk) (share : Result (Share A) (UnitFailure F))
      → TakesUnits number_in hash_in sums_up is_steady fault may_be units old new share
      → Answers old new (without_tops share)
  seat_answers old new (Ok share) takes = record {
    news = takes.news;
    has = takes.has;
    took = (
      takes.took.0,
      takes.took.1,
      of_given number_in hash_in takes.news share.units.items takes.took.2.order,
      takes.took.2.summed,
    );
    steady = λ facts steady. _;
    gave = _;
  }
  seat_answers old new (Err failure) takes = record {
    news = takes.news;
    has = takes.has;
    took = _;
    steady = λ facts steady.
        stops failure _ refl (IsLeastFailure (fault facts) units new.failed) tt (takes.steady facts steady)
        (λ is. (
          subst (λ (xs : List ℕ). IsLeastOf xs failure.unit) (sym takes.failed.0) (least_of_one failure.unit),
          takes.failed.1,
          is,
        ));
    gave = subst may_be (sym (error_stays failure _ refl)) takes.gave;
  }

  module _ (old one_old other_old new one_new other_new : Desk) (kept : one_old ≡ keeping old)
      (made : other_old ≡ fresh old) (bare : old.given ≡ []) (joined : new ≡ both one_new other_new) where
    given_both : (news more : List GivenUnit) → HasGiven is_steady fault units one_old one_new news
        → HasGiven is_steady fault units other_old other_new more
        → HasGiven is_steady fault units old new (news ++ more)
    given_both news more one other = record {
      room = ap (λ (d : Desk). d.room) joined
          ∙ ap₂ (λ n m. n + m) (one.room ∙ ap (λ (d : Desk). d.room) kept)
          (other.room ∙ ap (λ (d : Desk). d.room) made) ∙ whole_room old.room;
      held = ap (λ (d : Desk). d.held) joined ∙ ap₂ (λ xs ys. xs ++ ys) one.held other.held;
      given = ap (λ (d : Desk). d.given) joined
          ∙ ap₂ (λ xs ys. xs ++ ys)
          (one.given ∙ ap (λ xs. news ++ xs) (ap (λ (d : Desk). d.given) kept ∙ bare) ∙ append-nil news)
          (other.given ∙ ap (λ xs. more ++ xs) (ap (λ (d : Desk). d.given) made))
          ∙ sym (append_assoc news more []) ∙ ap (λ xs. (news ++ more) ++ xs) (sym bare);
      within = each_append (λ (g : GivenUnit). g.unit < length units) news more one.within other.within;
      faultless = λ facts steady.
          each_append (λ (g : GivenUnit). fault facts (unit_at units g.unit) ≡ None) news more
          (one.faultless facts steady) (other.faultless facts steady);
    }
      where
        whole_room : (n : ℕ) → (n - n / 2) + n / 2 ≡ n
        whole_room n = omega arith

    failed_both : new.failed ≡ one_new.failed ++ other_new.failed
    failed_both = ap (λ (d : Desk). d.failed) joined

    -- one of them stopped, or memory was refused
    stopped : (one other result : Result (Vec A Global) (Failure F)) (failure : Failure F)
        → Answers one_old one_new one → Answers other_old other_new other → result ≡ Err failure
        → ((facts : SourceFacts F) → is_steady facts → IsLeastFailure (fault facts) units new.failed failure)
        → may_be (error_of failure) → Answers old new result
    stopped one other result failure first second is steady may =
        subst (λ (r : Result (Vec A Global) (Failure F)). Answers old new r) (sym is) (record {
          news = first.news ++ second.news;
          has = given_both first.news second.news first.has second.has;
          took = _;
          steady = steady;
          gave = may;
        })

    lesser : (facts : SourceFacts F) (one other : Failure F) → IsLeastFailure (fault facts) units one_new.failed one
        → IsLeastFailure (fault facts) units other_new.failed other
        → IsLeastFailure (fault facts) units new.failed (least_of one other)
    lesser facts Memory other a b = tt
    lesser facts (AtUnit one) Memory a b = tt
    lesser facts (AtUnit one) (AtUnit other) a b = by_order (nat_le one.unit other.unit) refl
      where
        by_order : (le : Bool) → nat_le one.unit other.unit ≡ le
            → IsLeastFailure (fault facts) units new.failed (AtUnit (if le then one else other))
        by_order true is = (
          subst (λ (xs : List ℕ). IsLeastOf xs one.unit) (sym failed_both)
              (least_of_both one_new.failed other_new.failed one.unit other.unit a.0 b.0 (leb-true _ _ is)),
          a.1,
          a.2,
        )
        by_order false is = (
          subst (λ (xs : List ℕ). IsLeastOf xs other.unit) (sym failed_both)
              (least_of_second one_new.failed other_new.failed one.unit other.unit a.0 b.0
              (let below = leb-false _ _ is in omega arith)),
          b.1,
          b.2,
        )

    pub seats_answer : (one other result : Result (Vec A Global) (Failure F)) → Answers one_old one_new one
        → Answers other_old other_new other → AreJoined (both_of one other) result → may_be Resources
        → Answers old new result
    seats_answer (Ok sums) (Ok next) (Ok all) first second is may = record {
      news = first.news ++ second.news;
      has = given_both first.news second.news first.has second.has;
      took = (
        ap (λ (d : Desk). d.done) joined ∙ ap (λ b. b || other_new.done) first.took.0,
        failed_both ∙ ap₂ (λ xs ys. xs ++ ys) first.took.1 second.took.1,
        subst (AreOfGiven number_in hash_in (first.news ++ second.news)) (sym is)
            (both_of_given number_in hash_in first.news second.news sums.items next.items first.took.2
            second.took.2),
        subst (AllByRecursion (IsSumOf number_in sums_up units)) (sym is)
            (each_append (IsSumOf number_in sums_up units) sums.items next.items first.took.3
            second.took.3),
      );
      steady = λ facts steady. _;
      gave = _;
    }
    seats_answer (Ok sums) (Ok next) (Err failure) first second is may =
        stopped (Ok sums) (Ok next) (Err failure) Memory first second (ap Err is) (λ facts steady. tt) may
    seats_answer (Ok sums) (Err failure) result first second is may =
        stopped (Ok sums) (Err failure) result failure first second is
        (λ facts steady. subst (λ (xs : List ℕ). IsLeastFailure (fault facts) units xs failure)
        (sym (failed_both ∙ ap (λ xs. xs ++ other_new.failed) first.took.1)) (second.steady facts steady)) second.gave
    seats_answer (Err failure) (Ok next) result first second is may =
        stopped (Err failure) (Ok next) result failure first second is
        (λ facts steady. subst (λ (xs : List ℕ). IsLeastFailure (fault facts) units xs failure)
        (sym (failed_both ∙ ap (λ xs. one_new.failed ++ xs) second.took.1 ∙ append-nil one_new.failed))
        (first.steady facts steady)) first.gave
    seats_answer (Err failure) (Err later) result first second is may =
        stopped (Err failure) (Err later) result (least_of failure later) first second is
        (λ facts steady. lesser facts failure later (first.steady facts steady) (second.steady facts steady))
        (of_least (λ f. may_be (error_of f)) failure later first.gave second.gave)

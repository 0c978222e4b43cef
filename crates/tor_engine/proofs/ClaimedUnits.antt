-- Units that one worker claims at a board, one after the other.
use Rattle.std.proofs.Common.{◌≡◌, ◌<◌, ◌≤◌, ℕ, ◌+◌, true, cond, List, [], ◌∷◌, ◌++◌, length, map, reverse}
use Rattle.std.proofs.Common.{Option, None, Some, Result, Ok, Err, inl, inr, refl, ap, ap₂, sym, subst, ◌∙◌, arith, eqb}
use Rattle.std.proofs.Common.{◌||◌, append-nil, drop, get_or}
use Rattle.std.proofs.lemmas.Bool.{cases_eq, eq-eqb, ne_eqb}
use Rattle.std.proofs.lemmas.List.{length-append, length-map, map-append, reverse-append}
use Rattle.std.proofs.lemmas.Map.Steps.{length-le_from_distinct_below}
use Rattle.std.specs.List.{AllByRecursion, IsDistinct, list_any}
use Rattle.tor_board.specs.Desks.{Desk, GivenUnit, after_give, failing, finished, holding, names, told, units_of}
use Rattle.tor_board.specs.Weights.{only, times, total, without}
use Rattle.tor_plan.specs.declared.units.PlanUnit.{PlanUnit}
use Rattle.tor_source.specs.Source.{SourceFacts}
use Rattle.tor_sums.specs.Fault.{IsFault}
use Rattle.tor_sums.specs.declared.errors.EngineError.{EngineError}
use Rattle.tor_engine.specs.declared.workers.failure.UnitFailure.{UnitFailure}
use Rattle.tor_engine.specs.declared.workers.worker_share.Share.{Share}
use Rattle.tor_sums.specs.declared.owing.OwingSums.{OwingSums}
use Rattle.tor_sums.specs.steps.Each.{SumUpEach}
use Rattle.tor_engine.specs.steps.Taken.{GivesUnit, HasGiven, IsAny, IsIdle, IsOfGiven, IsSumOf, TakesUnits}
use Rattle.tor_engine.specs.steps.Taken.{pair_in, unit_at, units_taken}
use Rattle.tor_engine.proofs.Counts.{each_append, none_of}

-- a unit that is given up, or given, is no more held
let_go : (u : ℕ) (rest : List ℕ) → without u (u ∷ rest) ≡ rest
let_go u rest = ap (λ b. cond b rest (u ∷ without u rest)) (eq-eqb u u refl)

among_below : (n : ℕ) (xs : List ℕ) → AllByRecursion (λ x. x < n) xs → (q : ℕ) → list_any (eqb q) xs ≡ true → q < n
among_below n [] below q is = cc
among_below n (x ∷ xs) below q is = elim (cases_eq q x) [
  | inl same ↦ omega (arith, same, below.0)
  | inr other ↦
      among_below n xs below.1 q (ap (λ b. b || list_any (eqb q) xs) (sym (ne_eqb q x other)) ∙ is)
]

-- the numbers of a list that are below a bound and differ from one another are at most as many
few : (xs : List ℕ) (n : ℕ) → IsDistinct eqb xs → AllByRecursion (λ x. x < n) xs → length xs ≤ n
few xs n distinct below = length-le_from_distinct_below xs n distinct (among_below n xs below)

units_below : (n : ℕ) (news : List GivenUnit) → AllByRecursion (λ (g : GivenUnit). g.unit < n) news
    → AllByRecursion (λ x. x < n) (units_of news)
units_below n [] is = tt
units_below n (g ∷ news) is = (is.0, units_below n news is.1)

given_before : (u : ℕ) (news : List GivenUnit) → total (λ (g : GivenUnit). only u g.unit) news ≡ times u (units_of news)
given_before u [] = refl
given_before u (g ∷ news) = ap (λ n. only u g.unit + n) (given_before u news)

total_append : (u : ℕ) (xs ys : List GivenUnit) → total (λ (g : GivenUnit). only u g.unit) (xs ++ ys)
    ≡ total (λ (g : GivenUnit). only u g.unit) xs + total (λ (g : GivenUnit). only u g.unit) ys
total_append u [] ys = omega arith
total_append u (x ∷ xs) ys = omega (arith, total_append u xs ys)

-- a worker that hashed one unit more
pub taken_next : {A : Type 0} (stands : List PlanUnit → List A → OwingSums → Type 0) (number_in : A → ℕ)
    (units : List PlanUnit) (sums : List A) (one : A) (number : ℕ) (unit : PlanUnit) → unit ≡ unit_at units number
    → number_in one ≡ number → (worker : OwingSums)
    → stands (units_taken number_in units sums ++ unit ∷ []) (sums ++ one ∷ []) worker
    → stands (units_taken number_in units (sums ++ one ∷ [])) (sums ++ one ∷ []) worker
taken_next stands number_in units sums one number unit at is worker hashed =
    subst (λ (us : List PlanUnit). stands us (sums ++ one ∷ []) worker)
    (ap (λ u. units_taken number_in units sums ++ u ∷ []) (at ∙ ap (unit_at units) (sym is))
    ∙ sym (map-append (λ one. unit_at units (number_in one)) sums (one ∷ []))) hashed

-- each sums up to what the worker completed
pub all_complete : {A : Type 0} (number_in : A → ℕ) (hash_in : A → List ℕ) (sums_up : PlanUnit → A → Type 0)
    (units : List PlanUnit) (sums new : List A)
    → map (pair_in number_in hash_in) new ≡ map (pair_in number_in hash_in) sums
    → SumUpEach sums_up (units_taken number_in units sums) new
    → AllByRecursion (IsSumOf number_in IsAny units) sums
    → AllByRecursion (IsSumOf number_in sums_up units) new
unfolding SumUpEach
all_complete number_in hash_in sums_up units [] [] same each of = tt
all_complete number_in hash_in sums_up units [] (b ∷ new) same each of = absurd each
all_complete number_in hash_in sums_up units (a ∷ sums) [] same each of = absurd each
all_complete number_in hash_in sums_up units (a ∷ sums) (b ∷ new) same each of =
    let d = pair_in number_in hash_in a in
    let number : number_in a ≡ number_in b = ap (λ ps. (get_or ps 0 d).0) (sym same) in (
      subst (λ (n : ℕ). (n < length units) × sums_up (unit_at units n) b) number (of.0.0, each.0),
      all_complete number_in hash_in sums_up units sums new (ap (drop 1) same) each.1 of.1,
    )

module _ {F A : Type 0} (number_in : A → ℕ) (hash_in : A → List ℕ) (sums_up : PlanUnit → A → Type 0)
    (is_steady : SourceFacts F → Type 0) (fault : SourceFacts F → PlanUnit → Option (EngineError F))
    (may_be : EngineError F → Type 0) (units : List PlanUnit) (old : Desk) where
  abbrev pair : A → ℕ × List ℕ
  pair = pair_in number_in hash_in

  -- a worker took these so far, and holds none
  pub record IsTaking (now : Desk) (share : Share A) : Type 0 where
    pub news : List GivenUnit
    pub has : HasGiven is_steady fault units old now news
    pub none : now.failed ≡ []
    pub of : IsOfGiven number_in hash_in sums_up units old now news share
    pub distinct : IsDistinct eqb (units_of news)

  abbrev Takes : Desk → Result (Share A) (UnitFailure F) → Type 0
  Takes new result = TakesUnits number_in hash_in sums_up is_steady fault may_be units old new result

  pub takes_none : (share : Share A) → IsIdle old → share.units.items ≡ [] → share.tops.items ≡ [] → IsTaking old share
  unfolding IsDistinct
  takes_none share idle no_sums no_tops = record {
    news = [];
    has = record { room = refl; held = idle.0; given = refl; within = tt; faultless = λ facts steady. tt };
    none = idle.1;
    of = record {
      order = ap (λ xs. reverse (map pair xs)) (sym no_sums);
      tops = ap (λ xs. reverse xs ++ old.tops) (sym no_tops);
      summed = subst (AllByRecursion (IsSumOf number_in sums_up units)) (sym no_sums) tt;
    };
    distinct = tt;
  }

  -- they are at most as many as the units
  pub taken_few : (now : Desk) (share : Share A) (is : IsTaking now share)
      → length now.given ≤ length units + length old.given
  taken_few now share is =
      let some = few (units_of is.news) (length units) is.distinct (units_below (length units) is.news is.has.within) in
      omega (
        arith,
        some,
        length-map is.news (λ (g : GivenUnit). g.unit),
        ap length is.has.given,
        length-append is.news old.given,
      )

  module _ (now : Desk) (share : Share A) (is : IsTaking now share) (number : ℕ) (there : number < length units)
      (new_one : names number now ≡ 0) where
    abbrev mid : Desk
    mid = holding now number

    fresh_number : times number (units_of is.news) ≡ 0
    fresh_number =
        let all = ap (total (λ (g : GivenUnit). only number g.unit)) is.has.given
        ∙ total_append number is.news old.given in
        omega (arith, new_one, all, given_before number is.news)

    -- one more is given
    module _ (new : Desk) (after : Share A)
        (gives : GivesUnit number_in hash_in sums_up units number mid new share after)
        (holds : (facts : SourceFacts F) → is_steady facts → fault facts (unit_at units number) ≡ None) where
      abbrev given : GivenUnit
      given = record { unit = number; hash = hash_in gives.one; joined = gives.joined }

      of_new : {X : Type 0} (f : Desk → X)
          → f new ≡ f (after_give mid number (hash_in gives.one) gives.joined gives.arrivals gives.top)
      of_new f = ap f gives.given

      pub takes_next : IsTaking new after
      unfolding IsDistinct
      takes_next = record {
        news = given ∷ is.news;
        has = record {
          room = of_new (λ (d : Desk). d.room) ∙ is.has.room;
          held = of_new (λ (d : Desk). d.held) ∙ let_go number now.held ∙ is.has.held;
          given = of_new (λ (d : Desk). d.given) ∙ ap (λ xs. given ∷ xs) is.has.given;
          within = (there, is.has.within);
          faultless = λ facts steady. (holds facts steady, is.has.faultless facts steady);
        };
        none = of_new (λ (d : Desk). d.failed) ∙ is.none;
        of = record {
          order = ap₂ (λ p ps. p ∷ ps) (ap (λ n. (n, hash_in gives.one)) (sym gives.numbered)) is.of.order
              ∙ sym (ap reverse (ap (map pair) gives.sums ∙ map-append pair share.units.items (gives.one ∷ []))
              ∙ reverse-append (map pair share.units.items) (pair gives.one ∷ []));
          tops = of_new (λ (d : Desk). d.tops) ∙ ap (λ ts. told gives.top ++ ts) is.of.tops
              ∙ sym (ap (λ ts. reverse ts ++ old.tops) gives.tops ∙ tops_more gives.top);
          summed = subst (AllByRecursion (IsSumOf number_in sums_up units)) (sym gives.sums)
              (each_append (IsSumOf number_in sums_up units) share.units.items (gives.one ∷ []) is.of.summed (
                (subst (λ (n : ℕ). (n < length units) × sums_up (unit_at units n) gives.one) (sym gives.numbered)
                    (there, gives.summed)),
                tt,
              ));
        };
        distinct = (none_of number (units_of is.news) fresh_number, is.distinct);
      }
        where
          tops_more : (top : Option (ℕ × List ℕ)) → reverse (share.tops.items ++ told top) ++ old.tops
              ≡ told top ++ (reverse share.tops.items ++ old.tops)
          tops_more None = ap (λ ts. reverse ts ++ old.tops) (append-nil share.tops.items)
          tops_more (Some top) = ap (λ ts. ts ++ old.tops) (reverse-append share.tops.items (top ∷ []))

    -- it fails
    pub takes_failed : (new : Desk) (failure : UnitFailure F) → new ≡ failing mid number → failure.unit ≡ number
        → ((facts : SourceFacts F) → is_steady facts → IsFault (fault facts (unit_at units number)) failure.error)
        → may_be failure.error → Takes new (Err failure)
    takes_failed new failure is_new unit faults may = record {
      news = is.news;
      has = record {
        room = ap (λ (d : Desk). d.room) is_new ∙ is.has.room;
        held = ap (λ (d : Desk). d.held) is_new ∙ let_go number now.held ∙ is.has.held;
        given = ap (λ (d : Desk). d.given) is_new ∙ is.has.given;
        within = is.has.within;
        faultless = is.has.faultless;
      };
      took = _;
      failed = (
        ap (λ (d : Desk). d.failed) is_new ∙ ap (λ xs. number ∷ xs) is.none ∙ ap (λ n. n ∷ []) (sym unit),
        omega (arith, there, unit),
      );
      steady = λ facts steady.
          subst (λ (n : ℕ). IsFault (fault facts (unit_at units n)) failure.error) (sym unit) (faults facts steady);
      gave = may;
    }

  -- no unit is left, or some worker failed one
  pub takes_all : (now new : Desk) (share : Share A) → IsTaking now share → new ≡ finished now → Takes new (Ok share)
  takes_all now new share is is_new = record {
    news = is.news;
    has = record {
      room = ap (λ (d : Desk). d.room) is_new ∙ is.has.room;
      held = ap (λ (d : Desk). d.held) is_new ∙ is.has.held;
      given = ap (λ (d : Desk). d.given) is_new ∙ is.has.given;
      within = is.has.within;
      faultless = is.has.faultless;
    };
    took = (
      ap (λ (d : Desk). d.done) is_new,
      ap (λ (d : Desk). d.failed) is_new ∙ is.none,
      record {
        order = is.of.order;
        tops = ap (λ (d : Desk). d.tops) is_new ∙ is.of.tops;
        summed = is.of.summed;
      },
    );
    failed = _;
    steady = λ facts steady. _;
    gave = _;
  }

-- what was taken, once it is complete
pub taking_complete : {F A : Type 0} (number_in : A → ℕ) (hash_in : A → List ℕ) (sums_up : PlanUnit → A → Type 0)
    (is_steady : SourceFacts F → Type 0) (fault : SourceFacts F → PlanUnit → Option (EngineError F))
    (may_be : EngineError F → Type 0) (units : List PlanUnit) (old now : Desk) (share after : Share A)
    → IsTaking number_in hash_in IsAny is_steady fault may_be units old now share
    → after.tops.items ≡ share.tops.items
    → map (pair_in number_in hash_in) after.units.items ≡ map (pair_in number_in hash_in) share.units.items
    → AllByRecursion (IsSumOf number_in sums_up units) after.units.items
    → IsTaking number_in hash_in sums_up is_steady fault may_be units old now after
taking_complete number_in hash_in sums_up is_steady fault may_be units old now share after is tops same summed =
    record {
      news = is.news;
      has = is.has;
      none = is.none;
      of = record {
        order = is.of.order ∙ ap reverse (sym same);
        tops = is.of.tops ∙ ap (λ ts. reverse ts ++ old.tops) (sym tops);
        summed = summed;
      };
      distinct = is.distinct;
    }

-- of an error it does not matter what was summed
pub takes_as : {F A : Type 0} (number_in : A → ℕ) (hash_in : A → List ℕ) (one other : PlanUnit → A → Type 0)
    (is_steady : SourceFacts F → Type 0) (fault : SourceFacts F → PlanUnit → Option (EngineError F))
    (may_be : EngineError F → Type 0) (units : List PlanUnit) (old new : Desk) (failure : UnitFailure F)
    → TakesUnits number_in hash_in one is_steady fault may_be units old new (Err failure)
    → TakesUnits number_in hash_in other is_steady fault may_be units old new (Err failure)
takes_as number_in hash_in one other is_steady fault may_be units old new failure is = record {
  news = is.news;
  has = is.has;
  took = _;
  failed = is.failed;
  steady = is.steady;
  gave = is.gave;
}

-- What workers did with units that they claimed at a board. Only private clauses cite these.
use Rattle.std.specs.Prelude.{◌≡◌, ◌⊎◌, ◌<◌, ◌+◌, ◌≤◌, ℕ, true, List, [], ◌∷◌, ◌++◌, map, reverse, length, Option}
use Rattle.std.specs.Prelude.{None, Result, Ok, Err, IfErr, IfOk, Some, Vec}
use Rattle.std.specs.Prelude.{vec_capacity, vec_len}
use Rattle.std.specs.declared.alloc.Global.{Global}
use Rattle.std.specs.List.{AllByRecursion}
use Rattle.tor_board.specs.Desks.{Desk, GivenUnit, after_give, told, units_of}
use Rattle.tor_board.specs.Seats.{IsLeastOf}
use Rattle.tor_board.specs.Weights.{times}
use Rattle.tor_plan.specs.declared.units.PlanUnit.{PlanUnit}
use Rattle.tor_source.specs.Source.{SourceFacts}
use Rattle.tor_sums.specs.Fault.{IsFault}
use Rattle.tor_sums.specs.declared.errors.EngineError.{EngineError}
use Rattle.tor_engine.specs.declared.workers.failure.Failure.{Failure}
use Rattle.tor_engine.specs.declared.workers.failure.Failure.TheVariants.{AtUnit, Memory}
use Rattle.tor_engine.specs.declared.workers.failure.UnitFailure.{UnitFailure}
use Rattle.tor_sums.specs.declared.owing.OwingSums.{OwingSums}
use Rattle.tor_engine.specs.declared.workers.worker_share.Share.{Share}
use Rattle.tor_engine.specs.steps.Failing.{error_of, stopped_by}
pub use Rattle.tor_engine.specs.Shares.{given_pairs}
pub use Rattle.tor_sums.specs.UnitSums.{unit_at}

-- one more unit and its top can be kept
abbrev pub HasRoom : {A : Type 0} → Share A → Type 0
HasRoom share =
    (vec_len share.units + 1 ≤ vec_capacity share.units) × (vec_len share.tops + 1 ≤ vec_capacity share.tops)

-- the seat holds no unit, and none has failed
abbrev pub IsIdle : Desk → Type 0
IsIdle desk = (desk.held ≡ []) × (desk.failed ≡ [])

-- the units of what has numbers
abbrev pub units_taken : {A : Type 0} → (A → ℕ) → List PlanUnit → List A → List PlanUnit
units_taken number_in units sums = map (λ one. unit_at units (number_in one)) sums

-- the worker stands where it took these, or has not begun
abbrev pub HasBegun : {A : Type 0} → (List PlanUnit → List A → OwingSums → Type 0) → (A → ℕ) → List PlanUnit → List A
    → Option OwingSums → Type 0
HasBegun stands number_in units sums None = sums ≡ []
HasBegun stands number_in units sums (Some worker) = stands (units_taken number_in units sums) sums worker

-- what is said of a unit before its sums are whole
abbrev pub IsAny : {A : Type 0} → PlanUnit → A → Type 0
IsAny unit one = Unit {0}

-- what has a number is of one of the units, and that unit sums up to it
abbrev pub IsSumOf : {A : Type 0} → (A → ℕ) → (PlanUnit → A → Type 0) → List PlanUnit → A → Type 0
IsSumOf number_in sums_up units one =
    (number_in one < length units) × sums_up (unit_at units (number_in one)) one

-- a unit of this number was hashed, given, and kept
pub record GivesUnit {A : Type 0} (number_in : A → ℕ) (hash_in : A → List ℕ) (sums_up : PlanUnit → A → Type 0)
    (units : List PlanUnit) (number : ℕ) (old new : Desk) (before after : Share A) : Type 0 where
  pub one : A
  pub numbered : number_in one ≡ number
  pub summed : sums_up (unit_at units number) one
  pub joined : ℕ
  pub arrivals : ℕ
  pub top : Option (ℕ × List ℕ)
  pub given : new ≡ after_give old number (hash_in one) joined arrivals top
  pub sums : after.units.items ≡ before.units.items ++ one ∷ []
  pub tops : after.tops.items ≡ before.tops.items ++ told top

-- the seat gave these units, the last first: each is one of the plan, and of a steady source none of them fails
pub record HasGiven {F : Type 0} (is_steady : SourceFacts F → Type 0)
    (fault : SourceFacts F → PlanUnit → Option (EngineError F)) (units : List PlanUnit) (old new : Desk)
    (news : List GivenUnit) : Type 0 where
  pub room : new.room ≡ old.room
  pub held : new.held ≡ []
  pub given : new.given ≡ news ++ old.given
  pub within : AllByRecursion (λ (g : GivenUnit). g.unit < length units) news
  pub faultless : (facts : SourceFacts F) → is_steady facts
      → AllByRecursion (λ (g : GivenUnit). fault facts (unit_at units g.unit) ≡ None) news

-- its number, and the hash that it is given with
abbrev pub pair_in : {A : Type 0} → (A → ℕ) → (A → List ℕ) → A → ℕ × List ℕ
pair_in number_in hash_in one = (number_in one, hash_in one)

-- what one worker took is of these units, in the order of their gives
pub record IsOfGiven {A : Type 0} (number_in : A → ℕ) (hash_in : A → List ℕ) (sums_up : PlanUnit → A → Type 0)
    (units : List PlanUnit) (old new : Desk) (news : List GivenUnit) (share : Share A) : Type 0 where
  pub order : given_pairs news
      ≡ reverse (map (pair_in number_in hash_in) share.units.items)
  pub tops : new.tops ≡ reverse share.tops.items ++ old.tops
  pub summed : AllByRecursion (IsSumOf number_in sums_up units) share.units.items

-- what one worker did from one seat: at an error the seat failed that unit alone
pub record TakesUnits {F A : Type 0} (number_in : A → ℕ) (hash_in : A → List ℕ) (sums_up : PlanUnit → A → Type 0)
    (is_steady : SourceFacts F → Type 0) (fault : SourceFacts F → PlanUnit → Option (EngineError F))
    (may_be : EngineError F → Type 0) (units : List PlanUnit) (old new : Desk)
    (result : Result (Share A) (UnitFailure F)) : Type 0 where
  pub news : List GivenUnit
  pub has : HasGiven is_steady fault units old new news
  pub took : IfOk result (λ share. (new.done ≡ true) × (new.failed ≡ [])
      × IsOfGiven number_in hash_in sums_up units old new news share)
  pub failed : IfErr result (λ failure. (new.failed ≡ failure.unit ∷ []) × (failure.unit < length units))
  pub steady : (facts : SourceFacts F) → is_steady facts →
      IfErr result (λ failure. IsFault (fault facts (unit_at units failure.unit)) failure.error)
  pub gave : IfErr result (λ failure. may_be failure.error)

-- the element stands in the list
unfoldable pub IsIn : {X : Type 0} → List X → X → Type 0
IsIn [] x = ⊥
IsIn (y ∷ ys) x = (y ≡ x) ⊎ IsIn ys x

-- these are of the units that were given, in any order
pub record AreOfGiven {A : Type 0} (number_in : A → ℕ) (hash_in : A → List ℕ) (given : List GivenUnit)
    (sums : List A) : Type 0 where
  pub counted : (u : ℕ) → times u (map number_in sums) ≡ times u (units_of given)
  pub hashes : AllByRecursion (λ one. IsIn (given_pairs given) (pair_in number_in hash_in one)) sums

-- why workers stopped from a seat that failed these units: memory was refused, or the least of them has this fault
abbrev pub IsLeastFailure : {F : Type 0} → (PlanUnit → Option (EngineError F)) → List PlanUnit → List ℕ → Failure F
    → Type 0
IsLeastFailure fault units failed Memory = Unit {0}
IsLeastFailure fault units failed (AtUnit failure) =
    IsLeastOf failed failure.unit × (failure.unit < length units)
    × (fault (unit_at units failure.unit) ≡ Some failure.error)

-- what workers did from one seat that was cut and joined again: of a steady source the least unit that failed is
-- answered
pub record AnswersSeat {F A : Type 0} (number_in : A → ℕ) (hash_in : A → List ℕ) (sums_up : PlanUnit → A → Type 0)
    (is_steady : SourceFacts F → Type 0) (fault : SourceFacts F → PlanUnit → Option (EngineError F))
    (may_be : EngineError F → Type 0) (units : List PlanUnit) (old new : Desk)
    (result : Result (Vec A Global) (Failure F)) : Type 0 where
  pub news : List GivenUnit
  pub has : HasGiven is_steady fault units old new news
  pub took : IfOk result (λ sums. (new.done ≡ true) × (new.failed ≡ []) × AreOfGiven number_in hash_in news sums.items
      × AllByRecursion (IsSumOf number_in sums_up units) sums.items)
  pub steady : (facts : SourceFacts F) → is_steady facts →
      IfErr result (IsLeastFailure (fault facts) units new.failed)
  pub gave : IfErr result (λ failure. may_be (error_of failure))

-- what one worker did, without its tops
abbrev pub without_tops : {F A : Type 0} → Result (Share A) (UnitFailure F) → Result (Vec A Global) (Failure F)
without_tops (Ok share) = Ok share.units
without_tops (Err failure) = Err (stopped_by failure)

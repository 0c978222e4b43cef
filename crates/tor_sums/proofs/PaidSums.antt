-- Units that get the sums of their pieces.
use Rattle.std.proofs.Common.{◌≡◌, ◌≤◌, ◌+◌, ℕ, List, [], ◌∷◌, ◌++◌, Result, Ok, Err, IfOk, drop, length, map, take}
use Rattle.std.proofs.Common.{refl, ap, ap₂, sym, subst, ◌∙◌, append_assoc, append-nil, arith, length-append}
use Rattle.std.proofs.Common.{◌<◌, get_or, set, suc, sum_by, drop-drop}
use Rattle.std.proofs.lemmas.List.{drop-set-lt, drop_at, drop_more, length-drop, take_at, take_more_set, with_items_is}
use Rattle.std.proofs.lemmas.List.Sums.{sum_by-cons}
use Rattle.tor_plan.specs.PlanFacts.{PlanFacts}
use Rattle.tor_plan.specs.declared.units.PlanUnit.{PlanUnit}
use Rattle.tor_source.specs.Source.{SourceFacts}
use Rattle.tor_sums.specs.declared.unit_sums.UnitSums.{UnitSums}
use Rattle.tor_sums.specs.steps.Each.{OweEach, SumUpEach}
use Rattle.tor_sums.specs.steps.Owing.{paid_each, paid_one}
use Rattle.tor_sums.specs.steps.Run.{HashesUnits, OwesUnit, SumsUpUnit, node_in}

pub if_ok_more : {T E : Type 0} (result : Result T E) (P Q : T → Type 0) → ((one : T) → P one → Q one) → IfOk result P
    → IfOk result Q
if_ok_more (Ok one) P Q more is = more one is
if_ok_more (Err error) P Q more is = tt

module _ {U A : Type 0} (owes : U → A → List ℕ → Type 0) where
  pub owe_none : OweEach owes [] [] []
  unfolding OweEach
  owe_none = refl

  -- one unit more
  pub owe_next : (units : List U) (sums : List A) (owed : List ℕ) (unit : U) (one : A) (own : List ℕ)
      → OweEach owes units sums owed → owes unit one own
      → OweEach owes (units ++ unit ∷ []) (sums ++ one ∷ []) (owed ++ own)
  unfolding OweEach
  owe_next [] [] owed unit one own each next =
      (own, [], next, refl, append-nil own ∙ ap (λ xs. xs ++ own) (sym each))
  owe_next [] (a ∷ sums) owed unit one own each next = absurd each
  owe_next (u ∷ units) [] owed unit one own each next = absurd each
  owe_next (u ∷ units) (a ∷ sums) owed unit one own each next = (
    each.0,
    each.1 ++ own,
    each.2,
    owe_next units sums each.1 unit one own each.3 next,
    sym (append_assoc each.0 each.1 own) ∙ ap (λ xs. xs ++ own) each.4,
  )

module _ {A : Type 0} (owed : A → ℕ) (paid : A → List ℕ → A) where
  -- what each is told by stays
  pub paid_alike : {B : Type 0} (f : A → B) → ((one : A) (own : List ℕ) → f (paid one own) ≡ f one)
      → (items : List A) (sums : List ℕ) → map f (paid_each owed paid items sums) ≡ map f items
  unfolding paid_each
  paid_alike f same [] sums = refl
  paid_alike f same (one ∷ items) sums =
      ap₂ (λ x xs. x ∷ xs) (same one (take (owed one) sums)) (paid_alike f same items (drop (owed one) sums))

  pub paid_none : (sums : List ℕ) → paid_each owed paid [] sums ≡ []
  unfolding paid_each
  paid_none sums = refl

  pub paid_length : (items : List A) (sums : List ℕ) → length (paid_each owed paid items sums) ≡ length items
  unfolding paid_each
  paid_length [] sums = refl
  paid_length (one ∷ items) sums = ap suc (paid_length items (drop (owed one) sums))

  -- ---- where each unit owes some

  module _ {U : Type 0} (owes : U → A → List ℕ → Type 0)
      (fits : (unit : U) (one : A) (own : List ℕ) → owes unit one own → owed one ≡ length own) where
    front_is : (n : ℕ) (own rest all : List ℕ) → n ≡ length own → own ++ rest ≡ all → take n all ≡ own
    front_is n own rest all long is = ap (take n) (sym is) ∙ take_at own rest n (sym long)

    rest_is : (n : ℕ) (own rest all : List ℕ) → n ≡ length own → own ++ rest ≡ all → drop n all ≡ rest
    rest_is n own rest all long is = ap (drop n) (sym is) ∙ drop_at own rest n (sym long)

    pub can_pay : (units : List U) (items : List A) (sums : List ℕ) → OweEach owes units items sums
        → sum_by owed items ≡ length sums
    unfolding OweEach
    can_pay [] [] sums each = sym (ap length each)
    can_pay [] (one ∷ items) sums each = absurd each
    can_pay (unit ∷ units) [] sums each = absurd each
    can_pay (unit ∷ units) (one ∷ items) sums each =
        let own = fits unit one each.0 each.2 in
        let rest = can_pay units items each.1 each.3 in
        let long = ap length each.4 in
        let joined = length-append each.0 each.1 in
        sum_by-cons owed one items ∙ ap₂ (λ n m. n + m) own rest ∙ sym joined ∙ long

    -- each has its own
    pub paid_up : (sums_up : U → A → Type 0)
        → ((unit : U) (one : A) (own : List ℕ) → owes unit one own → sums_up unit (paid one own))
        → (units : List U) (items : List A) (sums : List ℕ) → OweEach owes units items sums
        → SumUpEach sums_up units (paid_each owed paid items sums)
    unfolding OweEach SumUpEach paid_each
    paid_up sums_up settled [] [] sums each = tt
    paid_up sums_up settled [] (one ∷ items) sums each = absurd each
    paid_up sums_up settled (unit ∷ units) [] sums each = absurd each
    paid_up sums_up settled (unit ∷ units) (one ∷ items) sums each =
        let long = fits unit one each.0 each.2 in (
          subst (λ (own : List ℕ). sums_up unit (paid one own))
              (sym (front_is (owed one) each.0 each.1 sums long each.4)) (settled unit one each.0 each.2),
          subst (λ (rest : List ℕ). SumUpEach sums_up units (paid_each owed paid items rest))
              (sym (rest_is (owed one) each.0 each.1 sums long each.4))
              (paid_up sums_up settled units items each.1 each.3),
        )

  -- ---- one after the other: the one at an index, where the list has one

  module _ (items : List A) (i : ℕ) (default : A) (rest : List ℕ) (there : i < length items) where
    abbrev one : A
    one = get_or items i default

    all_left : sum_by owed (drop i items) ≡ owed one + sum_by owed (drop (i + 1) items)
    all_left = ap (sum_by owed) (drop_more items i default there) ∙ sum_by-cons owed one (drop (i + 1) items)

    pub first_fits : sum_by owed (drop i items) ≤ length rest → owed one ≤ length rest
    first_fits enough = omega (arith, enough, all_left)

    first_paid : paid_each owed paid (drop i items) rest
        ≡ paid one (take (owed one) rest) ∷ paid_each owed paid (drop (i + 1) items) (drop (owed one) rest)
    unfolding paid_each
    first_paid = ap (λ xs. paid_each owed paid xs rest) (drop_more items i default there)

    pub paid_more : (new : A) (later : List ℕ) (all : List A) (end : List ℕ)
        → new ≡ paid one (take (owed one) rest) → later ≡ drop (owed one) rest
        → sum_by owed (drop i items) ≤ length rest → take i items ++ paid_each owed paid (drop i items) rest ≡ all
        → drop (sum_by owed (drop i items)) rest ≡ end
        → (sum_by owed (drop (i + 1) (set items i new)) ≤ length later)
        × (take (i + 1) (set items i new) ++ paid_each owed paid (drop (i + 1) (set items i new)) later ≡ all)
        × (drop (sum_by owed (drop (i + 1) (set items i new))) later ≡ end)
    paid_more new later all end is_new is_later enough before after =
        let same : drop (i + 1) (set items i new) ≡ drop (i + 1) items =
        drop-set-lt (i + 1) items i new (omega arith) in
        let sum = all_left in
        let long : length later ≡ length (drop (owed one) rest) = ap length is_later in
        let dropped = length-drop (owed one) rest in
        let total = ap (sum_by owed) same in (
          omega (arith, enough, sum, long, dropped, total),
          ap₂ (λ xs ys. xs ++ paid_each owed paid ys later) (take_more_set items i new there) same
              ∙ append_assoc (take i items) (new ∷ []) (paid_each owed paid (drop (i + 1) items) later)
              ∙ ap₂ (λ a xs. take i items ++ a ∷ paid_each owed paid (drop (i + 1) items) xs) is_new is_later
              ∙ ap (λ xs. take i items ++ xs) (sym first_paid) ∙ before,
          ap₂ (λ n xs. drop n xs) total is_later
              ∙ drop-drop (sum_by owed (drop (i + 1) items)) (owed one) rest
              ∙ ap (λ n. drop n rest) (sym sum) ∙ after,
        )

-- a unit that has its own sums up
pub unit_settled : {F : Type 0} (is_steady : SourceFacts F → Type 0) (plan : PlanFacts) (unit : PlanUnit)
    (one : UnitSums) (own : List ℕ) → OwesUnit is_steady plan unit one own
    → SumsUpUnit is_steady plan unit (paid_one one own)
unit_settled is_steady plan unit one own owes =
    subst (λ (pieces : List ℕ). HashesUnits is_steady plan (unit ∷ []) (node_in one ∷ []) pieces)
    (sym (with_items_is one.pieces own (sym owes.1 ∙ sym one.pieces.ok.0))) owes.0

-- What is found among units that were given, and in the places of units.
use Rattle.std.proofs.Common.{◌≡◌, ◌<◌, ◌≤◌, ℕ, zero, suc, ◌+◌, cond, List, [], ◌∷◌, length, map, take, drop, get_or}
use Rattle.std.proofs.Common.{Option, None, Some, inl, inr, refl, ap, ap₂, sym, subst, ◌∙◌, arith}
use mathlib.Core.Option.{some, some-injective, some-ne-none}
use lib.ListN.{get_elem?}
use Rattle.std.proofs.lemmas.Bool.{cases_eq, eq-eqb, ne_eqb}
use Rattle.std.specs.List.{AllByRecursion, range_with_len}
use Rattle.std.specs.Option.{option_or}
use Rattle.tor_board.specs.Desks.{GivenUnit, hash_of, units_of}
use Rattle.tor_board.specs.Weights.{only, times}
use Rattle.tor_plan.specs.declared.forests.Run.{Run}
use Rattle.tor_plan.specs.declared.units.PlanUnit.{PlanUnit}
use Rattle.tor_sums.specs.Fault.{first_of}
use Rattle.tor_sums.specs.steps.Each.{SumUpEach}
use Rattle.tor_engine.specs.steps.Taken.{IsIn, given_pairs, unit_at}

-- ---- the first of units that fails

module _ {B : Type 0} (found : PlanUnit → Option B) where
  pub none_found : (units : List PlanUnit) → ((u : ℕ) → u < length units → found (unit_at units u) ≡ None)
      → first_of found units ≡ None
  unfolding first_of
  none_found [] none = refl
  none_found (unit ∷ units) none =
      ap₂ option_or (none 0 (omega arith)) (none_found units (λ u below. none (suc u) (omega (arith, below))))

  pub first_found : (units : List PlanUnit) (n : ℕ) (b : B) → n < length units → found (unit_at units n) ≡ Some b
      → ((u : ℕ) → u < n → found (unit_at units u) ≡ None) → first_of found units ≡ Some b
  unfolding first_of
  first_found [] n b there is none = absurd (omega (arith, there))
  first_found (unit ∷ units) zero b there is none = ap (λ o. option_or o (first_of found units)) is
  first_found (unit ∷ units) (suc n) b there is none =
      ap₂ option_or (none 0 (omega arith))
      (first_found units n b (omega (arith, there)) is (λ u below. none (suc u) (omega (arith, below))))

-- ---- what was given

pub holds_of_given : (P : ℕ → Type 0) (given : List GivenUnit) → AllByRecursion (λ (g : GivenUnit). P g.unit) given
    → (u : ℕ) → 0 < times u (units_of given) → P u
holds_of_given P [] each u more = absurd (omega (arith, more))
holds_of_given P (g ∷ given) each u more = elim (cases_eq g.unit u) [
  | inl same ↦ subst P same each.0
  | inr other ↦
      let none : only u g.unit ≡ 0 = ap (λ b. cond b 1 0) (ne_eqb g.unit u other) in
      holds_of_given P given each.1 u (omega (arith, more, none))
]

named_once : (u : ℕ) (h : List ℕ) (given : List GivenUnit) → IsIn (given_pairs given) (u, h)
    → 0 < times u (units_of given)
unfolding IsIn
named_once u h [] is = absurd is
named_once u h (g ∷ given) (inl is) =
    let one : only u g.unit ≡ 1 = ap (λ b. cond b 1 0) (eq-eqb g.unit u (ap (λ p. p.0) is)) in omega (arith, one)
named_once u h (g ∷ given) (inr is) = omega (arith, named_once u h given is)

pub hash_given : (u : ℕ) (h : List ℕ) (given : List GivenUnit) → IsIn (given_pairs given) (u, h)
    → times u (units_of given) ≤ 1 → hash_of given u ≡ h
unfolding IsIn
hash_given u h [] is once = absurd is
hash_given u h (g ∷ given) (inl is) once =
    ap (λ b. cond b g.hash (hash_of given u)) (eq-eqb g.unit u (ap (λ p. p.0) is)) ∙ ap (λ p. p.1) is
hash_given u h (g ∷ given) (inr is) once = elim (cases_eq g.unit u) [
  | inl same ↦
      let one : only u g.unit ≡ 1 = ap (λ b. cond b 1 0) (eq-eqb g.unit u same) in
      absurd (omega (arith, one, once, named_once u h given is))
  | inr other ↦
      ap (λ b. cond b g.hash (hash_of given u)) (ne_eqb g.unit u other)
      ∙ hash_given u h given is (omega (arith, once))
]

-- ---- what stands in the places of units

module _ {A : Type 0} (number_in : A → ℕ) (hash_in : A → List ℕ) (sums_up : PlanUnit → A → Type 0) where
  pub each_in_place : (units all : List PlanUnit) (n : ℕ) (placed : List A)
      → ((u : ℕ) → u < length units → unit_at units u ≡ unit_at all (n + u))
      → map number_in placed ≡ range_with_len n (length units)
      → AllByRecursion (λ one. sums_up (unit_at all (number_in one)) one) placed → SumUpEach sums_up units placed
  unfolding SumUpEach
  each_in_place [] all n [] same numbers each = tt
  each_in_place [] all n (one ∷ placed) same numbers each = cc
  each_in_place (unit ∷ units) all n [] same numbers each = cc
  each_in_place (unit ∷ units) all n (one ∷ placed) same numbers each =
      let here : number_in one ≡ n + 0 = let is = ap (λ ns. get_or ns 0 0) numbers in omega (arith, is) in (
        subst (λ (u : PlanUnit). sums_up u one)
            (ap (unit_at all) here ∙ sym (same 0 (omega arith))) each.0,
        each_in_place units all (n + 1) placed
            (λ u below. same (suc u) (omega (arith, below))
            ∙ ap (unit_at all) (let e : n + suc u ≡ (n + 1) + u = omega arith in e))
            (ap (drop 1) numbers) each.1,
      )

  pub hashes_in_place : (given : List GivenUnit) (placed : List A)
      → AllByRecursion (λ one. hash_of given (number_in one) ≡ hash_in one) placed
      → map hash_in placed ≡ map (hash_of given) (map number_in placed)
  hashes_in_place given [] each = refl
  hashes_in_place given (one ∷ placed) each =
      ap₂ (λ h hs. h ∷ hs) (sym each.0) (hashes_in_place given placed each.1)

front_of_range : (a count n : ℕ) → count ≤ n → take count (range_with_len a n) ≡ range_with_len a count
front_of_range a zero n within = refl
front_of_range a (suc count) zero within = absurd (omega (arith, within))
front_of_range a (suc count) (suc n) within =
    ap (λ ns. a ∷ ns) (front_of_range (a + 1) count n (omega (arith, within)))

pub part_of_range : (a count first n : ℕ) → first + count ≤ n
    → take count (drop first (range_with_len a n)) ≡ range_with_len (a + first) count
part_of_range a count zero n within =
    front_of_range a count n (omega (arith, within))
    ∙ ap (λ m. range_with_len m count) (let e : a ≡ a + 0 = omega arith in e)
part_of_range a count (suc first) zero within = absurd (omega (arith, within))
part_of_range a count (suc first) (suc n) within =
    part_of_range (a + 1) count first n (omega (arith, within))
    ∙ ap (λ m. range_with_len m count) (let e : (a + 1) + first ≡ a + suc first = omega arith in e)

-- ---- the roots of trees

pub run_at : (P : Run → Type 0) (runs : List Run) → AllByRecursion P runs → (k : ℕ) (run : Run)
    → get_elem? runs k ≡ some run → P run
run_at P [] each k run is = absurd (some-ne-none run (sym is))
run_at P (r ∷ runs) each zero run is = subst P (some-injective r run is) each.0
run_at P (r ∷ runs) each (suc k) run is = run_at P runs each.1 k run is

pub each_root : (f : Run → Option (List ℕ)) (runs : List Run) (roots : List (Option (List ℕ)))
    → length roots ≡ length runs
    → ((k : ℕ) (run : Run) → get_elem? runs k ≡ some run → get_or roots k None ≡ f run) → roots ≡ map f runs
each_root f [] [] long each = refl
each_root f [] (root ∷ roots) long each = cc
each_root f (run ∷ runs) [] long each = cc
each_root f (run ∷ runs) (root ∷ roots) long each =
    ap₂ (λ x xs. x ∷ xs) (each 0 run refl)
    (each_root f runs roots (omega (arith, long)) (λ k run is. each (suc k) run is))

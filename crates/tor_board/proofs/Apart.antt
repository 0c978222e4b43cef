-- Runs that are apart have at most as many units as there are; runs that rise are apart, in any order.
use Rattle.atomic_table.proofs.Lists.{at_set}
use Rattle.std.proofs.lemmas.List.{Edits.{swap_is}, Sorted.{IsPermutation-keeps}}
use Rattle.std.specs.{List.{swap}, List.Sorted.{IsPermutation}}
use Rattle.tor_board.proofs.Names.{AreApart, IsRun, List, Run, [], arith, below, cond, dec_le, dite}
use Rattle.tor_board.proofs.Names.{get_elem?, in_run, min, refl, some, some-injective, some-ne-none, suc, sym, total, true}
use Rattle.tor_board.proofs.Names.{units_in, zero, ℕ, ◌+◌, ◌-◌, ◌<◌, ◌∷◌, ◌≡◌, ◌≤◌}
use Rattle.tor_board.proofs.Names.{ap, get_or, inl, inr, length, set, subst, ◌==◌, ◌∙◌}
use Rattle.tor_board.proofs.Sums.{here, none_there, total_same}
use Rattle.tor_plan.specs.Forest.{AreRuns}

-- a unit between a run's first one and its end is one of the run's
in_run-within : (run : Run) (u : ℕ) → run.first ≤ u → u < run.first + run.count → in_run run u ≡ true
in_run-within run u low high = grind arith

-- of two runs with no unit in common, the one that begins first ends before the other
pub ends_before : (a b : Run) → 0 < b.count → ((u : ℕ) → in_run a u ≡ true → in_run b u ≡ true → ⊥)
    → a.first ≤ b.first → a.first + a.count ≤ b.first
ends_before a b some_unit none le = dite (dec_le (a.first + a.count) b.first) (λ ends. ends) (λ beyond. absurd
    (none b.first (in_run-within a b.first le (omega arith)) (in_run-within b b.first (omega arith) (omega arith))))

-- ---- how many units runs have that are apart

-- 1 of a unit of the run, and 0 of any other
abbrev one_inside : Run → ℕ → ℕ
one_inside run u = cond (in_run run u) 1 0

-- those of the run below n
units_below : (run : Run) (n : ℕ) → below (one_inside run) n ≡ min n (run.first + run.count) - run.first
units_below run zero = omega arith
units_below run (suc n) = grind (arith, units_below run n)

all_units : (run : Run) (n : ℕ) → run.first + run.count ≤ n → below (one_inside run) n ≡ run.count
all_units run n fit = omega (arith, units_below run n)

is_inside : (run : Run) (u : ℕ) → 0 < one_inside run u → in_run run u ≡ true
is_inside run u h = grind arith

not_inside : (run : Run) (u : ℕ) → (in_run run u ≡ true → ⊥) → one_inside run u ≡ 0
not_inside run u none = grind arith

at_most_one_inside : (run : Run) (u : ℕ) → one_inside run u ≤ 1
at_most_one_inside run u = grind arith

-- a unit is in one run at most
at_most_one : (runs : List Run) (u : ℕ) → ((j k : ℕ) (a b : Run) → get_elem? runs j ≡ some a
    → get_elem? runs k ≡ some b → in_run a u ≡ true → in_run b u ≡ true → j ≡ k)
    → total (λ (run : Run). one_inside run u) runs ≤ 1
at_most_one [] u once = omega arith
at_most_one (run ∷ runs) u once = dite (dec_le 1 (one_inside run u))
    (λ here. let rest : total (λ (r : Run). one_inside r u) runs ≡ 0 = none_there (λ (r : Run). one_inside r u) runs
    (λ j v e. not_inside v u (λ there. let same = once 0 (suc j) run v refl e (is_inside run u here) there in omega arith))
    in omega (arith, at_most_one_inside run u, rest))
    (λ elsewhere. omega (arith, at_most_one runs u (λ j k a b e f h h'. let same = once (suc j) (suc k) a b e f h h' in omega arith)))

total_both : (f g : Run → ℕ) (runs : List Run) → total (λ (r : Run). f r + g r) runs ≡ total f runs + total g runs
total_both f g [] = refl
total_both f g (run ∷ runs) = omega (arith, total_both f g runs)

nothing : (runs : List Run) → total (λ (r : Run). 0) runs ≡ 0
nothing [] = refl
nothing (run ∷ runs) = omega (arith, nothing runs)

-- the units of all runs, counted unit by unit
by_units : (runs : List Run) (n : ℕ) → below (λ u. total (λ (r : Run). one_inside r u) runs) n
    ≡ total (λ (r : Run). below (one_inside r) n) runs
by_units runs zero = sym (nothing runs)
by_units runs (suc n) = omega (
  arith,
  by_units runs n,
  total_both (λ (r : Run). below (one_inside r) n) (λ (r : Run). one_inside r n) runs,
)

below_ones : (f : ℕ → ℕ) (n : ℕ) → ((u : ℕ) → f u ≤ 1) → below f n ≤ n
below_ones f zero most = omega arith
below_ones f (suc n) most = omega (arith, below_ones f n most, most n)

pub few_units : (units : ℕ) (runs : List Run) → AreApart units runs → units_in runs ≤ units
few_units units runs are =
    let same = total_same (λ (r : Run). below (one_inside r) units) (λ (r : Run). r.count) runs
    (λ k r e. all_units r units (are.each k r e).below) in
    omega (
      arith,
      same,
      by_units runs units,
      below_ones (λ u. total (λ (r : Run). one_inside r u) runs) units
          (λ u. at_most_one runs u (λ j k a b e f. are.once j k a b e f u)),
    )

-- ---- runs that rise

later : (units from : ℕ) (runs : List Run) → AreRuns units from runs → (k : ℕ) (run : Run) → get_elem? runs k ≡ some run
    → IsRun units run × (from ≤ run.first)
unfolding AreRuns
later units from [] are k r e = absurd (some-ne-none r (sym e))
later units from (run ∷ runs) are zero r e = rw (sym (some-injective run r e))
    (record { several = are.1; below = are.2; low = are.3 }, are.0)
later units from (run ∷ runs) are (suc k) r e = let l = later units (run.first + run.count) runs are.4 k r e in
    (l.0, omega (arith, l.1, are.0))

rising : (units from : ℕ) (runs : List Run) → AreRuns units from runs → (j k : ℕ) (a b : Run)
    → get_elem? runs j ≡ some a → get_elem? runs k ≡ some b → j < k → a.first + a.count ≤ b.first
unfolding AreRuns
rising units from [] are j k a b e f less = absurd (some-ne-none a (sym e))
rising units from (run ∷ runs) are j zero a b e f less = omega arith
rising units from (run ∷ runs) are zero (suc k) a b e f less = rw (sym (some-injective run a e))
    (later units (run.first + run.count) runs are.4 k b f).1
rising units from (run ∷ runs) are (suc j) (suc k) a b e f less
    = rising units (run.first + run.count) runs are.4 j k a b e f (omega arith)

pub rising_runs_are_apart : (units from : ℕ) (runs : List Run) → AreRuns units from runs → AreApart units runs
rising_runs_are_apart units from runs are = record {
  each = λ k run e. (later units from runs are k run e).0;
  once = λ j k a b e f u h h'. grind (arith, rising units from runs are j k a b e f, rising units from runs are k j b a f e);
}

-- ---- runs in another order

-- where an item stood before two of them changed places
abbrev before_swap : ℕ → ℕ → ℕ → ℕ
before_swap i j k = cond (k == j) i (cond (k == i) j k)

same_place : (i j a b : ℕ) → before_swap i j a ≡ before_swap i j b → a ≡ b
same_place i j a b e = grind arith

stood : (runs : List Run) (i j : ℕ) → i < length runs → j < length runs → (k : ℕ) (run : Run)
    → get_elem? (swap runs i j) k ≡ some run → get_elem? runs (before_swap i j k) ≡ some run
stood runs i j inside inside' k run e =
    let P : ℕ → Type 0 = λ n. get_elem? runs n ≡ some run in
    let set_twice = ap (λ (l : List Run). get_elem? l k) (swap_is runs i j run inside inside') ∙ e in
    elim (at_set (set runs i (get_or runs j run)) j k (get_or runs i run) run set_twice) [
      | inl t ↦ let from : i ≡ before_swap i j k = grind arith in subst P from (here runs i run inside ∙ ap some t.1)
      | inr t ↦ elim (at_set runs i k (get_or runs j run) run t.1) [
        | inl u ↦ let from : j ≡ before_swap i j k = grind arith in subst P from (here runs j run inside' ∙ ap some u.1)
        | inr u ↦ let from : k ≡ before_swap i j k = grind arith in subst P from u.1
      ]
    ]

swapped_are_apart : (units : ℕ) (runs : List Run) (i j : ℕ) → i < length runs → j < length runs → AreApart units runs
    → AreApart units (swap runs i j)
swapped_are_apart units runs i j inside inside' are = record {
  each = λ k run e. are.each (before_swap i j k) run (stood runs i j inside inside' k run e);
  once = λ k m a b e f u h h'. same_place i j k m (are.once (before_swap i j k) (before_swap i j m) a b
      (stood runs i j inside inside' k a e) (stood runs i j inside inside' m b f) u h h');
}

pub moved_runs_are_apart : (units : ℕ) (runs moved : List Run) → AreApart units runs → IsPermutation runs moved
    → AreApart units moved
moved_runs_are_apart units runs moved are same = IsPermutation-keeps runs (AreApart units) are
    (λ l i j inside inside' before. swapped_are_apart units l i j inside inside' before) moved same

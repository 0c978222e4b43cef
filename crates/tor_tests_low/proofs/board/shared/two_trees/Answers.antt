use Rattle.std.proofs.Common.{◌≡◌, ◌≤◌, ◌+◌, ◌*◌, ℕ, List, [], ◌∷◌, arith, sym, subst}
use Rattle.std.specs.Result.{IfOk}
use Rattle.tor_merkle.proofs.ProvedLaws.{height_least}
use Rattle.tor_plan.specs.declared.forests.Run.{Run}
use Rattle.tor_board.proofs.ProvedLaws.{rising_runs_are_apart}
use Rattle.tor_plan.specs.Forest.{AreRuns}
use Rattle.tor_tests_low.proofs.board.shared.two_trees.Goals as goal

abbrev runs : ℕ → ℕ → ℕ → List Run
runs alone one two = record { first = alone; count = one; level = 0 }
    ∷ record { first = 2 * alone + one; count = two; level = 1 } ∷ []

runs_of_two : (alone one two : ℕ) → 2 ≤ one → one ≤ 128 → 2 ≤ two → two ≤ 128
    → AreRuns (2 * alone + one + two) 0 (runs alone one two)
unfolding AreRuns
runs_of_two alone one two more few more' few' = (
  omega arith,
  more,
  omega arith,
  omega (arith, height_least one 7 few),
  (omega arith, more', omega arith, omega (arith, height_least two 7 few'), tt),
)

pub open-requires-clause-runs : goal.open-requires-clause-runs
open-requires-clause-runs g c =
    let r = c.requires in let a = c.args in
    let e : c.expect-trees.result.items ≡ runs a.alone a.one a.two
    = subst (λ r. IfOk r (λ v. v.items ≡ runs a.alone a.one a.two)) c.expect-trees.ensures c.vec.ensures.items in
    rising_runs_are_apart (2 * a.alone + a.one + a.two) 0 c.expect-trees.result.items
    (subst (AreRuns (2 * a.alone + a.one + a.two) 0) (sym e) (runs_of_two a.alone a.one a.two r.1 r.2 r.3 r.4))

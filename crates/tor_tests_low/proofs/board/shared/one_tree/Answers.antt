use Rattle.std.proofs.Common.{◌≡◌, ◌≤◌, ℕ, [], ◌∷◌, arith, sym, subst}
use Rattle.std.specs.Result.{IfOk}
use Rattle.tor_merkle.proofs.ProvedLaws.{height_least}
use Rattle.tor_board.proofs.ProvedLaws.{rising_runs_are_apart}
use Rattle.tor_plan.specs.Forest.{AreRuns}
use Rattle.tor_tests_low.proofs.board.shared.one_tree.Goals as goal

runs_of_one : (count level : ℕ) → 2 ≤ count → count ≤ 128 → level ≤ 2
    → AreRuns count 0 (record { first = 0; count = count; level = level } ∷ [])
unfolding AreRuns
runs_of_one count level two few low = (omega arith, two, omega arith, omega (arith, low, height_least count 7 few), tt)

pub open-requires-clause-runs : goal.open-requires-clause-runs
open-requires-clause-runs g c =
    let r = c.requires in
    let e : c.expect-trees.result.items ≡ record { first = 0; count = c.args.count; level = c.args.level } ∷ []
    = subst (λ r. IfOk r (λ v. v.items ≡ record { first = 0; count = c.args.count; level = c.args.level } ∷ []))
    c.expect-trees.ensures c.vec.ensures.items in
    rising_runs_are_apart c.args.count 0 c.expect-trees.result.items
    (subst (AreRuns c.args.count 0) (sym e) (runs_of_one c.args.count c.args.level r.0 r.1 r.2))

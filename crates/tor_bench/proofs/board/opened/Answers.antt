use Rattle.std.proofs.Common.{◌≡◌, ◌≤◌, ◌^◌, ℕ, List, [], ◌∷◌, arith, sym, subst}
use Rattle.tor_merkle.specs.Subtree.{height}
use Rattle.tor_merkle.proofs.ProvedLaws.{height_least}
use Rattle.tor_board.proofs.ProvedLaws.{rising_runs_are_apart}
use Rattle.tor_plan.specs.Forest.{AreRuns}
use Rattle.tor_plan.specs.declared.forests.Run.{Run}
use Rattle.tor_bench.proofs.board.opened.Goals as goal

no_runs : (units : ℕ) → AreRuns units 0 []
unfolding AreRuns
no_runs units = tt

one_run : (units : ℕ) → 2 ≤ units → units ≤ 2 ^ 30
    → AreRuns units 0 (record { first = 0; count = units; level = 0 } ∷ [])
unfolding AreRuns
one_run units two few = (omega arith, two, omega arith, omega (arith, height_least units 30 few), tt)

pub open-requires-clause-runs : goal.open-requires-clause-runs
open-requires-clause-runs c = rising_runs_are_apart c.args.units 0 c.new-none.result.items
    (subst (AreRuns c.args.units 0) (sym c.new-none.ensures.items) (no_runs c.args.units))

pub open-requires-2-clause-runs : goal.open-requires-2-clause-runs
open-requires-2-clause-runs c = rising_runs_are_apart c.args.units 0 c.in_ok-one.one.items
    (subst (AreRuns c.args.units 0) (sym c.in_ok-one.ensures.items)
    (one_run c.args.units (omega (arith, c.if-units-lt2.false)) c.requires))

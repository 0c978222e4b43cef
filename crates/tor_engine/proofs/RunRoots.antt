-- The runs of trees, and the hashes of their units.
use Rattle.std.proofs.Common.{◌<◌, ◌≤◌, ◌+◌, ◌-◌, ◌^◌, ℕ, List, [], ◌∷◌, length, get_or, arith}
use Rattle.std.proofs.Common.{pow_mono}
use Rattle.std.proofs.lemmas.List.Elements.{All-from_recursion}
use Rattle.std.specs.List.{AllByRecursion}
use Rattle.tor_merkle.specs.Subtree.{height}
use Rattle.tor_merkle.proofs.ProvedLaws.{height_covers}
use Rattle.tor_plan.specs.Forest.{AreRuns}
use Rattle.tor_plan.specs.declared.forests.Run.{Run}

-- a run of two or more of so many units, whose tree has at most 2 ^ 36 blocks
abbrev pub IsRun : ℕ → Run → Type 0
IsRun units run = (run.first + run.count ≤ units) × (2 ≤ run.count) × (run.level + height run.count ≤ 36)

pub runs_are : (units from : ℕ) (runs : List Run) → AreRuns units from runs → AllByRecursion (IsRun units) runs
unfolding AreRuns
runs_are units from [] are = tt
runs_are units from (run ∷ runs) are =
    ((are.2, are.1, are.3), runs_are units (run.first + run.count) runs are.4)

pub no_runs : (units : ℕ) → AreRuns units 0 []
unfolding AreRuns
no_runs units = tt

module _ {A : Type 0} (sums : List A) (runs : List Run) (are : AreRuns (length sums) 0 runs) (k : ℕ) (d : Run)
    (there : k < length runs) where
  abbrev run : Run
  run = get_or runs k d

  pub is_run : IsRun (length sums) run
  is_run = All-from_recursion (IsRun (length sums)) runs (runs_are (length sums) 0 runs are) k d there

  pub fits : run.count ≤ 2 ^ (36 - run.level)
  fits =
      let low : height run.count ≤ 36 - run.level = omega (arith, is_run.2) in
      omega (arith, height_covers run.count, pow_mono low)

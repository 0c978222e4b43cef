-- The roots of trees over the hashes of units. Only clauses of the crates that hash cite these.
use Rattle.std.specs.Prelude.{List, ℕ, Option, Some, drop, map, take}
use Rattle.tor_merkle.specs.Stack.{padded_root}
use Rattle.tor_plan.specs.declared.forests.Run.{Run}

-- over those of the run's units, followed by zero subtrees up to a power of two
abbrev pub root_of_run : List (List ℕ) → Run → Option (List ℕ)
root_of_run hashes run = Some (padded_root run.level (take run.count (drop run.first hashes)))

abbrev pub roots_of_trees : List (List ℕ) → List Run → List (Option (List ℕ))
roots_of_trees hashes trees = map (root_of_run hashes) trees

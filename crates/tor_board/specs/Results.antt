-- What a board tells in the end, from what was given.
use Rattle.std.specs.Prelude.{◌≡◌, ℕ, ◌+◌, ◌-◌, ◌<◌, ◌≤◌, List, cond, Option, None, Some}
use Rattle.tor_merkle.specs.Stack.{padded_root}
use Rattle.tor_plan.specs.declared.forests.Run.{Run}
pub use Rattle.tor_board.specs.Desks.{hash_of, unit_hashes, in_run}
use Rattle.tor_board.specs.Desks.{GivenUnit, units_of}
use Rattle.tor_board.specs.Rule.{tops_of, TopsAre}
use Rattle.tor_board.specs.Weights.{total, times}

-- each of the tree's units was given
abbrev pub IsComplete : List GivenUnit → Run → Type 0
IsComplete given run = (u : ℕ) → run.first ≤ u → u < run.first + run.count → 0 < times u (units_of given)

-- at how many nodes of the tree the gives came second
abbrev pub joined_of : List GivenUnit → Run → ℕ
joined_of given run = total (λ (g : GivenUnit). cond (in_run run g.unit) g.joined 0) given

-- a tree's root is there exactly if each of its units was given, and is that over their hashes. This is of the k-th
-- tree. Zero subtrees follow the hashes up to a power of two; one give told the root, and at each node one give came
-- second (BEP 52, "pieces root")
abbrev pub IsTreeEnd : List GivenUnit → List (ℕ × List ℕ) → ℕ → Run → Option (List ℕ) → Type 0
IsTreeEnd given tops k run None = (IsComplete given run → ⊥) × (tops_of k tops ≡ 0)
IsTreeEnd given tops k run (Some root) =
    IsComplete given run × (root ≡ padded_root run.level (unit_hashes given run))
    × (tops_of k tops ≡ 1) × TopsAre k (λ hash. hash ≡ root) tops
    × (joined_of given run ≡ run.count - 1)

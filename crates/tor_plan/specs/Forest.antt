-- Which units are the leaves of one file's tree.
use Rattle.std.specs.Prelude.{ℕ, zero, suc, ◌+◌, ◌/◌, ◌^◌, ◌≤◌, nat_lt, nat_le, List, [], ◌∷◌, ◌++◌, if◌then◌else◌}
use Rattle.std.specs.Int.{div_ceil}
use Rattle.tor_tree.specs.declared.kinds.Kind.{Kind}
use Rattle.tor_tree.specs.declared.kinds.Kind.TheVariants.{V1}
use Rattle.tor_plan.specs.declared.forests.Run.{Run}
use Rattle.tor_merkle.specs.Subtree.{height}
use Rattle.tor_merkle.specs.declared.TheConstants.{BLOCK_LENGTH}

-- the binary logarithm, rounded down: the greatest k with 2 ^ k at most n
unfoldable pub log2 : ℕ → ℕ
log2 zero = 0
log2 (suc n) = if nat_le (2 ^ suc (log2 n)) (suc n) then suc (log2 n) else log2 n

-- the level of a tree node that covers size bytes. A block is at level 0 (BEP 52, "pieces root")
abbrev pub unit_level : ℕ → ℕ
unit_level size = log2 (size / BLOCK_LENGTH)

-- the tree of a file of m bytes whose first unit has this number
abbrev pub tree_at : ℕ → ℕ → ℕ → Run
tree_at size first m = record { first = first; count = div_ceil m size; level = unit_level size }

-- the files of more than one unit, each cut every size bytes; the first file's first unit has this number
unfoldable pub trees_from : ℕ → ℕ → List ℕ → List Run
trees_from size first [] = []
trees_from size first (m ∷ lengths) =
    (if nat_lt 1 (div_ceil m size) then tree_at size first m ∷ [] else [])
    ++ trees_from size (first + div_ceil m size) lengths

-- the files of more than one unit, with first unit, count and level. Version 1 has no trees (BEP 52, "pieces root")
abbrev pub forest_trees : Kind → ℕ → List ℕ → List Run
forest_trees V1 size lengths = []
forest_trees kind size lengths = trees_from size 0 lengths

-- runs of two or more units, apart and in order, from this unit on and below so many; the tree of each has at most
-- 2 ^ 36 blocks
unfoldable pub AreRuns : ℕ → ℕ → List Run → Type 0
AreRuns units from [] = Unit {0}
AreRuns units from (run ∷ runs) =
    (from ≤ run.first) × (2 ≤ run.count) × (run.first + run.count ≤ units) × (run.level + height run.count ≤ 36)
    × AreRuns units (run.first + run.count) runs

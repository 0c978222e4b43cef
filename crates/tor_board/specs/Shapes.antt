-- What the runs of a forest keep to, and the shape of the board over them.
use Rattle.std.specs.Prelude.{◌≡◌, ◌≢◌, ℕ, ◌+◌, ◌*◌, ◌^◌, ◌<◌, ◌≤◌, List, map, true}
use Rattle.tor_merkle.specs.Subtree.{height}
use mathlib.Core.Option.{some}
use lib.ListN.{get_elem?}
use Rattle.tor_plan.specs.declared.forests.Run.{Run}
use Rattle.tor_board.specs.Desks.{in_run}
use Rattle.tor_board.specs.Weights.{total}
use Rattle.tor_board.specs.declared.tree.Tree.{Tree}
use Rattle.tor_board.specs.declared.tree.Shape.{Shape}

-- a run of two or more units below so many, whose tree has at most 2 ^ 36 blocks
pub record IsRun (units : ℕ) (run : Run) : Type 0 where
  pub several : 2 ≤ run.count
  pub below : run.first + run.count ≤ units
  pub low : run.level + height run.count ≤ 36

-- such runs, in any order, of which no two have a unit in common
pub record AreApart (units : ℕ) (runs : List Run) : Type 0 where
  pub each : (k : ℕ) (run : Run) → get_elem? runs k ≡ some run → IsRun units run
  pub once : (j k : ℕ) (a b : Run) → get_elem? runs j ≡ some a → get_elem? runs k ≡ some b → (u : ℕ)
      → in_run a u ≡ true → in_run b u ≡ true → j ≡ k

-- the tree is one of the board's, and stands at its number
abbrev pub IsTreeOf : Shape → Tree → Type 0
IsTreeOf shape t = get_elem? shape.trees.items t.number ≡ some t

-- its units are among these, and its words and slots among so many
pub record Fits (units words slots : ℕ) (t : Tree) : Type 0 where
  pub several : 2 ≤ t.count
  pub tall : t.count ≤ 2 ^ t.height
  pub least : t.height ≡ height t.count
  pub low : t.level + t.height ≤ 36
  pub below : t.first + t.count ≤ units
  pub among : t.offset + t.count ≤ units
  pub long : 2 + t.offset + t.count ≤ words
  pub wide : 2 * (t.offset + t.count) ≤ slots

-- no two trees have a unit, a word or a slot in common: of two trees the one that begins first ends before the other,
-- and words and slots are in the order of the trees
pub record IsShape (words slots : ℕ) (shape : Shape) : Type 0 where
  pub small : shape.units ≤ 2 ^ 62
  pub two : 2 ≤ words
  pub numbered : (k : ℕ) (t : Tree) → get_elem? shape.trees.items k ≡ some t → t.number ≡ k
  pub fits : (t : Tree) → IsTreeOf shape t → Fits shape.units words slots t
  pub apart : (t u : Tree) → IsTreeOf shape t → IsTreeOf shape u → t.number ≢ u.number → t.first ≤ u.first
      → t.first + t.count ≤ u.first
  pub laid : (t u : Tree) → IsTreeOf shape t → IsTreeOf shape u → t.number < u.number → t.offset + t.count ≤ u.offset

-- the first unit of a tree, and its number
abbrev pub start_of : Tree → ℕ × ℕ
start_of t = (t.first, t.number)

-- where each tree starts, in the order of their units. Each start is there as often as it is a tree's
pub record AreStarts (trees : List Tree) (starts : List (ℕ × ℕ)) : Type 0 where
  pub all : (f : ℕ × ℕ → ℕ) → total f starts ≡ total f (map start_of trees)
  pub rise : (j k : ℕ) (a b : ℕ × ℕ) → get_elem? starts j ≡ some a → get_elem? starts k ≡ some b → j ≤ k → a.0 ≤ b.0

-- A hash on its way up a tree.
use Rattle.std.specs.Prelude.{ℕ, List, Option, None, Some}
use Rattle.tor_plan.specs.declared.forests.Run.{Run}
use Rattle.tor_board.specs.Desks.{Way}
use Rattle.tor_board.specs.declared.tree.Tree.{Tree}

-- the tree, the spot whose root the hash is, the slot that it is to lie in, the hash, and the slots that are left over
-- from the node below, each with what it holds
pub record Climb : Type 0 where
  pub tree : Tree
  pub level : ℕ
  pub index : ℕ
  pub slot : ℕ
  pub hash : List ℕ
  pub spare : List (ℕ × List ℕ)

-- the run of units of a tree
abbrev pub run_of : Tree → Run
run_of t = record { first = t.first; count = t.count; level = t.level }

-- what a seat shows of a climb
abbrev pub way_of : Climb → Way
way_of c = record { tree = c.tree.number; run = run_of c.tree; level = c.level; index = c.index }

abbrev pub way_in : Option Climb → Option Way
way_in None = None
way_in (Some c) = Some (way_of c)

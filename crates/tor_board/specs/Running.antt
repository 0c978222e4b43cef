-- What stands in the words, the slots and the views of a running board, between any two steps.
use Rattle.std.specs.Prelude.{◌≡◌, ◌≢◌, ℕ, zero, suc, ◌+◌, ◌<◌, ◌≤◌, List, [], ◌∷◌, cond, nat_lt, drop, map, Option}
use Rattle.std.specs.Prelude.{None, Some, slice_index}
use mathlib.Core.Option.{some}
use lib.ListN.{get_elem?}
use Rattle.atomic_table.specs.Table.{State}
use Rattle.tor_plan.specs.declared.forests.Run.{Run}
use Rattle.tor_board.specs.Climb.{run_of}
use Rattle.tor_board.specs.Machine.{IsLawful, IsGivenSide, side_root}
use Rattle.tor_board.specs.Rule.{nobody, IsSide, climbing, out, tops_of}
use Rattle.tor_board.specs.Shapes.{IsTreeOf}
use Rattle.tor_board.specs.Trees.{middle, word_of, slot_of, ready}
use Rattle.tor_board.specs.Views.{desks_of}
use Rattle.tor_board.specs.Weights.{total}
use Rattle.tor_board.specs.declared.tree.Tree.{Tree}
use Rattle.tor_board.specs.declared.tree.Shape.{Shape}
use Rattle.tor_board.specs.declared.view.View.{View}

-- word 1, as the least failed unit
abbrev pub least_of : ℕ → Option ℕ
least_of n = cond (nat_lt n nobody) (Some n) None

-- the runs of the trees
abbrev pub runs_of : Shape → List Run
runs_of shape = map run_of shape.trees.items

-- how many units the trees before the one of that number have
abbrev pub offset_at : List Tree → ℕ → ℕ
offset_at [] n = 0
offset_at (t ∷ ts) zero = t.offset
offset_at (t ∷ ts) (suc n) = offset_at ts n

-- the word of node i of level k + 1 of a tree
abbrev pub arrivals_in : Shape → List ℕ → ℕ → ℕ → ℕ → ℕ
arrivals_in shape words n k i = slice_index words (2 + offset_at shape.trees.items n + middle k i)

-- which sides of a tree have arrived: those to which all has come. No seat climbs to them any more. A side is a slot's
-- hash; the tree's own slot is sealed instead. A node's word counts its two; each has once, and all its units were
-- given; where it is at home, it holds the root over their hashes; a sealed one was told (BEP 52, "pieces root";
-- profile)
pub record IsTreeLawful (t : Tree) (s : State (List ℕ) View) : Type 0 where
  pub arrived : ℕ → ℕ
  pub flow : (slot k j : ℕ) → IsSide t slot k j → climbing slot s.views + arrived slot ≡ ready t s.words s.views k j
  pub word : (m : ℕ) → 0 < m → m < t.count
      → slice_index s.words (word_of t m) ≡ arrived (slot_of t m 0) + arrived (slot_of t m 1)
  pub once : (slot k j : ℕ) → IsSide t slot k j → arrived slot ≤ 1
  pub given : (slot k j : ℕ) → IsSide t slot k j → arrived slot ≡ 1 → IsGivenSide (desks_of s.views) (run_of t) k j
  pub home : (slot k j : ℕ) → IsSide t slot k j → arrived slot ≡ 1 → out slot s.views ≡ 0
      → get_elem? s.homes slot ≡ some (some (side_root (desks_of s.views) (run_of t) k j))
  pub sealed : total (λ (v : View). tops_of t.number v.tops) s.views ≡ arrived (slot_of t 0 0)

-- the words and views of a board, and each of its trees, are lawful (BEP 52, "pieces root"; profile)
pub record IsRunning (shape : Shape) (s : State (List ℕ) View) : Type 0 where
  pub lawful : IsLawful shape.units (runs_of shape) (slice_index s.words 0) (least_of (slice_index s.words 1))
      (arrivals_in shape s.words) (total (λ n. n) (drop 2 s.words)) (desks_of s.views)
  -- the words but the first two count the arrivals at nodes, each its node's, and nothing else
  pub unused : (i : ℕ) → 1 < i → ((t : Tree) → IsTreeOf shape t → (m : ℕ) → 0 < m → m < t.count → i ≢ word_of t m)
      → slice_index s.words i ≡ 0
  pub slots : (t : Tree) → IsTreeOf shape t → IsTreeLawful t s

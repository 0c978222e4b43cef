-- The trees of a board as they are laid side by side, what belongs to one, and what a closed table has left of it.
use Rattle.std.specs.Prelude.{◌≡◌, ℕ, ◌+◌, ◌-◌, ◌*◌, ◌^◌, ◌<◌, ◌≤◌, ◌⊎◌, List, [], ◌∷◌, Option, None, Some}
use mathlib.Core.Option.{some}
use lib.ListN.{get_elem?}
use Rattle.tor_merkle.specs.Subtree.{height}
use Rattle.tor_plan.specs.declared.forests.Run.{Run}
use Rattle.tor_board.specs.Trees.{middle, word_of, slot_of}
use Rattle.tor_board.specs.Weights.{total}
use Rattle.tor_board.specs.declared.tree.Tree.{Tree}

-- the tree is one of at most 2 ^ 36 blocks
abbrev pub IsLow : Tree → Type 0
IsLow t = (t.count ≤ 2 ^ t.height) × (t.level + t.height ≤ 36)

-- the slot is one of the tree's
abbrev pub IsIn : Tree → ℕ → Type 0
IsIn t s = (2 * t.offset ≤ s) × (s < 2 * (t.offset + t.count))

-- of the words and the slots' values: the root is that in the tree's slot where two came to the highest node, else none
abbrev pub IsLeft : List ℕ → List (List ℕ) → Tree → Option (List ℕ) → Type 0
IsLeft words slots t root =
    (n : ℕ) × (get_elem? words (word_of t (middle (t.height - 1) 0)) ≡ some n)
    × (((2 ≤ n) × ((x : List ℕ) × (get_elem? slots (slot_of t 0 0) ≡ some x) × (root ≡ Some x)))
    ⊎ ((n < 2) × (root ≡ None)))

-- the trees of runs, of which the first has that number, and so many units before it
unfoldable pub trees_from : ℕ → ℕ → List Run → List Tree
trees_from number offset [] = []
trees_from number offset (run ∷ runs) =
    record {
      number = number;
      offset = offset;
      first = run.first;
      count = run.count;
      level = run.level;
      height = height run.count;
    }
    ∷ trees_from (number + 1) (offset + run.count) runs

-- how many units all of them have
abbrev pub units_in : List Run → ℕ
units_in runs = total (λ (run : Run). run.count) runs

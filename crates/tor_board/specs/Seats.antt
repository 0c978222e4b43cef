-- What contracts say of seats and boards.
use Rattle.std.specs.Prelude.{◌≡◌, ◌≢◌, ℕ, ◌+◌, ◌<◌, ◌≤◌, ◌⊎◌, true, List, [], cond, map, Option, Some, None, unwrap_or}
use mathlib.Core.Option.{some}
use lib.ListN.{get_elem?}
use Rattle.tor_board.specs.Weights.{total, times}
use Rattle.tor_plan.specs.declared.forests.Run.{Run}
use Rattle.tor_merkle.specs.Subtree.{height}
pub use Rattle.tor_board.specs.Climb.{run_of}
pub use Rattle.tor_board.specs.Desks.{Has}
use Rattle.tor_board.specs.Desks.{Desk, units_of, in_run, keeping, fresh}
use Rattle.tor_board.specs.Views.{desk_of}
use Rattle.tor_board.specs.declared.board.Board.{Board}
use Rattle.tor_board.specs.declared.seat.Seat.{Seat}

-- what the seat shows of what it knows (profile)
abbrev pub knows : Seat → Desk
knows s = desk_of s.inner.me.0

abbrev pub unit_count : Board → ℕ
unit_count b = b.shape.units

abbrev pub IsSeatOf : Board → Seat → Type 0
IsSeatOf b s = (s.inner.table_id ≡ b.table.shared.table_id) × (s.inner.me.0.units ≡ b.shape.units)

-- the least number of the list (profile)
abbrev pub IsLeastOf : List ℕ → ℕ → Type 0
IsLeastOf xs u = Has xs u × ((x : ℕ) → Has xs x → u ≤ x)

-- the runs of the board's trees
abbrev pub forest_of : Board → List Run
forest_of b = map run_of b.shape.trees.items

-- how many levels its tree has above the unit, which at most one tree has; 0 where none has it
abbrev pub levels_above : Board → ℕ → ℕ
levels_above b u = total (λ run. cond (in_run run u) (height run.count) 0) (forest_of b)

-- of a give that arrived at so many nodes, at so many of them second: without a top it came first to one, where its
-- unit is one of a tree; with a top to none, and the top is that of the unit's tree
abbrev pub IsClimbOf : Board → ℕ → ℕ → ℕ → Option (ℕ × List ℕ) → Type 0
IsClimbOf b u joined arrivals None =
    (joined ≤ arrivals) × ((n : ℕ) (run : Run) → get_elem? (forest_of b) n ≡ some run → in_run run u ≡ true
    → arrivals ≡ joined + 1)
IsClimbOf b u joined arrivals (Some top) =
    (arrivals ≡ joined) × ((run : Run) × (get_elem? (forest_of b) top.0 ≡ some run) × (in_run run u ≡ true))

-- two seats of the board, of which the first keeps what the old one had, but for half its room
abbrev pub IsCut : Board → Seat → Seat → Seat → Type 0
IsCut b old kept new =
    (2 ≤ (knows old).room) × IsSeatOf b kept × IsSeatOf b new × (knows kept ≡ keeping (knows old))
    × (knows new ≡ fresh (knows old))

-- a seat that ended gave each unit below the least failed one once. It holds nothing, and is done or failed a unit; if
-- none failed, it gave each below their number; the unit stands once in its given list (profile)
abbrev pub IsAllGiven : ℕ → Desk → Option ℕ → Type 0
IsAllGiven units d least = d.held ≡ [] → (d.done ≡ true) ⊎ (d.failed ≢ []) →
    (u : ℕ) → u < unwrap_or least units → times u (units_of d.given) ≡ 1

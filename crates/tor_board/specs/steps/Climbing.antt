-- A seat in the middle of a give.
use Rattle.std.specs.Prelude.{◌≡◌, ◌<◌, ℕ, ◌+◌, ◌⊎◌, List, [], ◌∷◌, ◌++◌, Option, Some, None, true}
use Rattle.tor_board.specs.Climb.{Climb}
use Rattle.tor_board.specs.Desks.{GivenUnit}
use Rattle.tor_board.specs.Plays.{Seated}
use Rattle.tor_board.specs.Trees.{slot_at, has_unit}
use Rattle.tor_board.specs.Rule.{IsSide}
use Rattle.tor_board.specs.steps.Row.{IsIn}
use Rattle.tor_board.specs.declared.tree.Tree.{Tree}
use Rattle.tor_board.specs.declared.view.View.{View}

-- the last give, which stands first, arrived second so many times more
abbrev pub joined_by : ℕ → List GivenUnit → List GivenUnit
joined_by n [] = []
joined_by n (g ∷ gs) = record g { joined = g.joined + n } ∷ gs

-- at most one slot is left over, and it is the tree's
abbrev pub AtMostOneSpare : Climb → Type 0
AtMostOneSpare c = (c.spare ≡ []) ⊎ ((o : ℕ) × (y : List ℕ) × (c.spare ≡ (o, y) ∷ []) × IsIn c.tree o)

-- the give that climbs stands first, and its unit is the tree's
abbrev pub LastGiveIsIn : Tree → List GivenUnit → Type 0
LastGiveIsIn t given = (g : GivenUnit) × (gs : List GivenUnit) × (given ≡ g ∷ gs) × (has_unit t g.unit ≡ true)

-- a climb that stands at that spot of the tree
abbrev pub climb_at : Tree → ℕ → ℕ → List ℕ → List (ℕ × List ℕ) → Climb
climb_at t level index hash spare
    = record { tree = t; level = level; index = index; slot = slot_at t level index; hash = hash; spare = spare }

-- the seat has the slot of that spot of the tree, with the hash in it, and perhaps one that is left over
pub record IsClimbing (t : Tree) (level index : ℕ) (hash : List ℕ) (m : Seated) : Type 0 where
  pub spare : List (ℕ × List ℕ)
  pub is : m.0.climb ≡ Some (climb_at t level index hash spare)
  pub carried : m.1 ≡ spare ++ (slot_at t level index, hash) ∷ []
  pub side : IsSide t (slot_at t level index) level index
  pub giving : LastGiveIsIn t m.0.given
  pub left : AtMostOneSpare (climb_at t level index hash spare)

-- the seat has no slot, and is in no climb
abbrev pub IsIdle : Seated → Type 0
IsIdle m = (0 < m.0.room) × (m.0.climb ≡ None) × (m.1 ≡ [])

-- what the seat knows after so many second arrivals
abbrev pub joined_view : ℕ → View → Option Climb → View
joined_view n v climb = record v { given = joined_by n v.given; arrivals = v.arrivals + n; climb = climb }

-- a seat that came first at the next node, or told a top
abbrev pub rested_view : ℕ → View → Seated
rested_view n v = (record v { given = joined_by n v.given; arrivals = v.arrivals + n + 1; climb = None }, [])

abbrev pub topped_view : ℕ → ℕ × List ℕ → View → Seated
topped_view n top v = (
  record v {
    given = joined_by n v.given;
    arrivals = v.arrivals + n;
    climb = None;
    tops = top ∷ v.tops;
  },
  [],
)

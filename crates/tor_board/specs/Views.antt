-- What a seat knows, and how its steps change it: its desk as the event does, and its climb.
use Rattle.std.specs.Prelude.{ℕ, ◌+◌, List, map, cond, Option, None, Some}
use Rattle.tor_board.specs.Weights.{total}
use Rattle.tor_board.specs.Climb.{Climb, way_in, way_of}
use Rattle.tor_board.specs.Desks
use Rattle.tor_board.specs.Desks.{Desk, GivenUnit}
use Rattle.tor_board.specs.declared.view.View.{View}

-- what is known of a board of so many units after so many claims, with that desk and that climb
abbrev pub seen : ℕ → ℕ → Desk → Option Climb → View
seen units claims d climb = record {
  units = units;
  claims = claims;
  room = d.room;
  held = d.held;
  given = d.given;
  failed = d.failed;
  done = d.done;
  looked = d.looked;
  arrivals = d.arrivals;
  climb = climb;
  tops = d.tops;
}

abbrev pub first : ℕ → View
first units = seen units 0 Desks.first None

-- what is left of a seat that was joined to another
abbrev pub spent : View
spent = seen 0 0 Desks.spent None

-- what of it is shown
abbrev pub desk_of : View → Desk
desk_of v = record {
  room = v.room;
  held = v.held;
  given = v.given;
  failed = v.failed;
  done = v.done;
  looked = v.looked;
  arrivals = v.arrivals;
  climb = way_in v.climb;
  tops = v.tops;
}

abbrev pub desks_of : List View → List Desk
desks_of views = map desk_of views

-- the weight of all units that the seat names
abbrev pub named : (ℕ → ℕ) → View → ℕ
named f v = total f v.held + total (λ (g : GivenUnit). f g.unit) v.given + total f v.failed

abbrev pub failures : (ℕ → ℕ) → View → ℕ
failures f v = total f v.failed

-- the room of a seat that is done
abbrev pub stopped : View → ℕ
stopped v = cond v.done v.room 0

-- a look found none failed
abbrev pub looking : View → View
looking v = seen v.units v.claims (Desks.looking (desk_of v)) v.climb

-- a look found that one has
abbrev pub finished : View → View
finished v = seen v.units v.claims (Desks.finished (desk_of v)) v.climb

-- a claim found a unit, or none
abbrev pub holding : View → ℕ → View
holding v u = seen v.units (v.claims + 1) (Desks.holding (desk_of v) u) v.climb

abbrev pub ended : View → View
ended v = seen v.units (v.claims + 1) (Desks.finished (desk_of v)) v.climb

-- the unit is given, and its climb, if any, begins
abbrev pub handed : View → ℕ → List ℕ → Option Climb → View
handed v u hash climb = seen v.units v.claims (Desks.handed (desk_of v) u hash (way_in climb)) climb

-- the first to arrive at a node rests
abbrev pub rested : View → View
rested v = seen v.units v.claims (Desks.rested (desk_of v)) None

-- the second joins the two hashes, and climbs on
abbrev pub joining : View → Climb → View
joining v climb = seen v.units v.claims (Desks.joining (desk_of v) (way_of climb)) (Some climb)

-- a tree's root is told
abbrev pub topped : View → ℕ → List ℕ → View
topped v tree hash = seen v.units v.claims (Desks.topped (desk_of v) tree hash) None

abbrev pub failing : View → ℕ → View
failing v u = seen v.units v.claims (Desks.failing (desk_of v) u) v.climb

abbrev pub keeping : View → View
keeping v = seen v.units v.claims (Desks.keeping (desk_of v)) v.climb

abbrev pub fresh : View → View
fresh v = seen v.units 0 (Desks.fresh (desk_of v)) None

abbrev pub both : View → View → View
both v w = seen v.units (v.claims + w.claims) (Desks.both (desk_of v) (desk_of w)) v.climb

-- What a seat shows of its work.
use Rattle.std.specs.Prelude.{◌<◌, ℕ, ◌+◌, ◌-◌, ◌/◌, ◌||◌, ◌&&◌, ◌==◌, nat_le, nat_lt, Bool, true, false, cond, List}
use Rattle.std.specs.Prelude.{[], ◌∷◌, ◌++◌, map, Option, None, Some}
use Rattle.std.specs.List.{range_with_len}
use Rattle.tor_plan.specs.declared.forests.Run.{Run}
use Rattle.tor_board.specs.Weights.{total, only, times, without}

-- the number stands in the list
abbrev pub Has : List ℕ → ℕ → Type 0
Has xs u = 0 < times u xs

-- a unit, its hash, and at how many nodes that give arrived second (profile)
pub record GivenUnit : Type 0 where
  pub unit : ℕ
  pub hash : List ℕ
  pub joined : ℕ

abbrev pub units_of : List GivenUnit → List ℕ
units_of given = map (λ (g : GivenUnit). g.unit) given

-- the last give, which stands first, arrived second once more
abbrev pub joined_more : List GivenUnit → List GivenUnit
joined_more [] = []
joined_more (g ∷ gs) = record g { joined = g.joined + 1 } ∷ gs

-- the hash that the unit was given with
abbrev pub hash_of : List GivenUnit → ℕ → List ℕ
hash_of [] u = []
hash_of (g ∷ gs) u = cond (g.unit == u) g.hash (hash_of gs u)

-- those of the run's units, in order
abbrev pub unit_hashes : List GivenUnit → Run → List (List ℕ)
unit_hashes given run = map (hash_of given) (range_with_len run.first run.count)

-- the unit is one of the run's
abbrev pub in_run : Run → ℕ → Bool
in_run run u = nat_le run.first u && nat_lt u (run.first + run.count)

-- where a hash is on its way up: the number of its tree, the tree's run, and an index of a level of it
pub record Way : Type 0 where
  pub tree : ℕ
  pub run : Run
  pub level : ℕ
  pub index : ℕ

-- what a seat shows: its room, the units it holds, gave and failed, its arrivals, the roots it told. It also shows
-- whether it is done, and its climb. `looked`: its last event was a look that found none failed; `tops`: of which trees
-- it told the roots (profile)
pub record Desk : Type 0 where
  pub room : ℕ
  pub held : List ℕ
  pub given : List GivenUnit
  pub failed : List ℕ
  pub done : Bool
  pub looked : Bool
  pub arrivals : ℕ
  pub climb : Option Way
  pub tops : List (ℕ × List ℕ)

-- what the first seat shows (profile)
abbrev pub first : Desk
first = record {
  room = 256;
  held = [];
  given = [];
  failed = [];
  done = false;
  looked = false;
  arrivals = 0;
  climb = None;
  tops = [];
}

-- what is left of a seat that was joined to another
abbrev pub spent : Desk
spent = record first { room = 0 }

-- it saw none failed
abbrev pub looking : Desk → Desk
looking d = record d { looked = true }

-- a seat after a claim without a unit, or a look that saw one failed (profile)
abbrev pub finished : Desk → Desk
finished d = record d { done = true; looked = false }

-- a seat after a claim that got this unit (profile)
abbrev pub holding : Desk → ℕ → Desk
holding d u = record d { held = u ∷ d.held; looked = false }

-- the unit is given, and its climb, if any, begins
abbrev pub handed : Desk → ℕ → List ℕ → Option Way → Desk
handed d u hash climb = record d {
  held = without u d.held;
  given = record { unit = u; hash = hash; joined = 0 } ∷ d.given;
  looked = false;
  climb = climb;
}

-- it arrived first at a node, or second, and climbs on
abbrev pub rested : Desk → Desk
rested d = record d { arrivals = d.arrivals + 1; climb = None }

abbrev pub joining : Desk → Way → Desk
joining d way = record d { given = joined_more d.given; arrivals = d.arrivals + 1; climb = Some way }

-- it told a tree's root
abbrev pub topped : Desk → ℕ → List ℕ → Desk
topped d tree root = record d { climb = None; tops = (tree, root) ∷ d.tops }

-- a seat after a failure (profile)
abbrev pub failing : Desk → ℕ → Desk
failing d u = record d { held = without u d.held; failed = u ∷ d.failed; looked = false }

-- the old seat after a split. Half its room, rounded down, goes to a new seat (profile)
abbrev pub keeping : Desk → Desk
keeping d = record d { room = d.room - d.room / 2; looked = false }

-- the new seat after a split (profile)
abbrev pub fresh : Desk → Desk
fresh d = record first { room = d.room / 2; done = d.done }

-- a seat after a join (profile)
abbrev pub both : Desk → Desk → Desk
both d e = record {
  room = d.room + e.room;
  held = d.held ++ e.held;
  given = d.given ++ e.given;
  failed = d.failed ++ e.failed;
  done = d.done || e.done;
  looked = false;
  arrivals = d.arrivals + e.arrivals;
  climb = d.climb;
  tops = d.tops ++ e.tops;
}

-- how often the seat names the unit
abbrev pub names : ℕ → Desk → ℕ
names u d = times u d.held + total (λ (g : GivenUnit). only u g.unit) d.given + times u d.failed

-- what a top tells
abbrev pub told : Option (ℕ × List ℕ) → List (ℕ × List ℕ)
told None = []
told (Some top) = top ∷ []

-- a seat after a give. It arrived at so many nodes, at so many of them second, and perhaps told a top (profile)
abbrev pub after_give : Desk → ℕ → List ℕ → ℕ → ℕ → Option (ℕ × List ℕ) → Desk
after_give d u hash joined arrivals top = record d {
  held = without u d.held;
  given = record { unit = u; hash = hash; joined = joined } ∷ d.given;
  looked = false;
  arrivals = d.arrivals + arrivals;
  climb = None;
  tops = told top ++ d.tops;
}

-- The board as a machine of events, which knows no word and no slot. Law: every legal run ends in a lawful state.
use Rattle.std.specs.Prelude.{◌≡◌, ◌≢◌, ℕ, suc, ◌+◌, ◌-◌, ◌*◌, ◌/◌, ◌%◌, ◌^◌, ◌<◌, ◌≤◌, ◌⊎◌, ◌==◌, ◌&&◌, Bool, true}
use Rattle.std.specs.Prelude.{false, min, List, [], ◌∷◌, ◌++◌, length, cond, nat_lt, Option, None, Some, slice_index_or}
use Rattle.std.specs.Prelude.{slice_set}
use mathlib.Core.Option.{some}
use lib.ListN.{get_elem?}
use Rattle.tor_merkle.specs.Block.{run_at}
use Rattle.tor_merkle.specs.Stack.{padded_root, padded_subtree}
use Rattle.tor_merkle.specs.Subtree.{height}
use Rattle.tor_plan.specs.declared.forests.Run.{Run}
use Rattle.tor_board.specs.Desks.{Desk, GivenUnit, Has, Way, in_run, unit_hashes, names, first, spent, looking}
use Rattle.tor_board.specs.Desks.{finished, holding, handed, rested, joining, topped, failing, keeping, fresh, both}
use Rattle.tor_board.specs.Spots.{middle, Rises}
use Rattle.tor_board.specs.Weights.{total, only, times}

-- a side of a node of a tree, as an index of a level: that of a left side is even
pub record Side : Type 0 where
  pub tree : ℕ
  pub level : ℕ
  pub index : ℕ

-- claims, the least failed unit, the sides that have arrived, and all seats; one of room 0 is what a join left
pub record Machine : Type 0 where
  pub claims : ℕ
  pub least : Option ℕ
  pub arrived : List Side
  pub desks : List Desk

abbrev pub start : Machine
start = record { claims = 0; least = None; arrived = []; desks = first ∷ [] }

-- what a seat does: look, claim, hand, arrive, seal, fail, split, join. It does `join` with the seat of that number
-- (profile)
pub data Event : Type 0 where
  look : Event
  claim : Event
  hand : ℕ → List ℕ → Event
  arrive : Event
  seal : Event
  fail : ℕ → Event
  split : Event
  join : ℕ → Event

abbrev pub desk_at : Machine → ℕ → Desk
desk_at m seat = slice_index_or m.desks seat spent

-- the machine, where one seat shows d
abbrev pub with_desk : Machine → ℕ → Desk → Machine
with_desk m seat d = record m { desks = slice_set m.desks seat d }

-- how often the unit was given
abbrev pub times_given : ℕ → List Desk → ℕ
times_given u desks = total (λ (d : Desk). total (λ (g : GivenUnit). only u g.unit) d.given) desks

abbrev pub all_given : List Desk → List GivenUnit
all_given [] = []
all_given (d ∷ ds) = d.given ++ all_given ds

-- each unit of the run below that spot was given
abbrev pub IsGivenSide : List Desk → Run → ℕ → ℕ → Type 0
IsGivenSide desks run level index =
    (i : ℕ) → index * 2 ^ level ≤ i → i < (index + 1) * 2 ^ level → i < run.count
    → 0 < times_given (run.first + i) desks

-- the root over the hashes of the run's units below that spot, followed by zero subtrees; and over all of them
abbrev pub side_root : List Desk → Run → ℕ → ℕ → List ℕ
side_root desks run level index
    = padded_subtree level run.level (run_at (2 ^ level) (unit_hashes (all_given desks) run) index)

abbrev pub top_root : List Desk → Run → List ℕ
top_root desks run = padded_root run.level (unit_hashes (all_given desks) run)

abbrev pub side_of : Way → Side
side_of w = record { tree = w.tree; level = w.level; index = w.index }

abbrev pub is_side : Side → Side → Bool
is_side a b = a.tree == b.tree && (a.level == b.level && a.index == b.index)

-- how often that side has arrived
abbrev pub times_arrived : Side → List Side → ℕ
times_arrived s sides = total (λ (x : Side). cond (is_side x s) 1 0) sides

-- the other side of the node above
abbrev pub beside : Side → Side
beside s = record s { index = cond (s.index % 2 == 0) (s.index + 1) (2 * (s.index / 2)) }

-- the way stands at a side of a node, or at the top of its tree
abbrev pub IsAtSide : Way → Type 0
IsAtSide w = middle w.level (w.index / 2) < w.run.count

abbrev pub IsAtTop : Way → Type 0
IsAtTop w = (w.level ≡ height w.run.count) × (w.index ≡ 0)

-- it stands where a hash rises to from index i of level l: at the next side of a node, or else at the top
abbrev pub IsNext : Way → ℕ → ℕ → Type 0
IsNext w l i = ((d : ℕ) × Rises w.run.count d l i w.level w.index) × (IsAtSide w ⊎ IsAtTop w)

-- the climb that begins with a unit, if it is one of a tree
abbrev pub IsStart : List Run → ℕ → Option Way → Type 0
IsStart forest u None = (n : ℕ) (run : Run) → get_elem? forest n ≡ some run → in_run run u ≡ false
IsStart forest u (Some w) = (get_elem? forest w.tree ≡ some w.run) × (in_run w.run u ≡ true)
    × IsNext w 0 (u - w.run.first)

-- both sides of the tree's highest node have arrived
abbrev pub IsTopMet : Machine → Way → Type 0
IsTopMet m w = (side : ℕ) → side < 2
    → times_arrived (record { tree = w.tree; level = w.level - 1; index = side }) m.arrived ≡ 1

abbrev pub lesser : Option ℕ → ℕ → ℕ
lesser None u = u
lesser (Some least) u = min least u

-- one event of a seat. It is the seat with that number, which shows d. In a climb it has no event but arrive and seal;
-- one that is done has no look and no claim (BEP 52, "pieces root"; profile)
pub data IsStep (units : ℕ) (forest : List Run) (m : Machine) (seat : ℕ) (d : Desk) : Event → Machine → Type 0 where
  looks : 0 < d.room → d.climb ≡ None → d.done ≡ false → m.least ≡ None
      → IsStep units forest m seat d look (with_desk m seat (looking d))
  sees : (u : ℕ) → 0 < d.room → d.climb ≡ None → d.done ≡ false → m.least ≡ Some u
      → IsStep units forest m seat d look (with_desk m seat (finished d))
  claims : 0 < d.room → d.climb ≡ None → d.done ≡ false → d.looked ≡ true → m.claims < units
      → IsStep units forest m seat d claim (record (with_desk m seat (holding d m.claims)) { claims = m.claims + 1 })
  ends : 0 < d.room → d.climb ≡ None → d.done ≡ false → d.looked ≡ true → units ≤ m.claims
      → IsStep units forest m seat d claim (record (with_desk m seat (finished d)) { claims = m.claims + 1 })
  hands : (u : ℕ) (hash : List ℕ) (climb : Option Way) → 0 < d.room → d.climb ≡ None → Has d.held u
      → IsStart forest u climb
      → IsStep units forest m seat d (hand u hash) (with_desk m seat (handed d u hash climb))
  rests : (w : Way) → 0 < d.room → d.climb ≡ Some w → IsAtSide w → IsGivenSide m.desks w.run w.level w.index
      → times_arrived (side_of w) m.arrived ≡ 0 → times_arrived (beside (side_of w)) m.arrived ≡ 0
      → IsStep units forest m seat d arrive (record (with_desk m seat (rested d)) { arrived = side_of w ∷ m.arrived })
  meets : (w up : Way) → 0 < d.room → d.climb ≡ Some w → IsAtSide w → IsGivenSide m.desks w.run w.level w.index
      → times_arrived (side_of w) m.arrived ≡ 0 → times_arrived (beside (side_of w)) m.arrived ≡ 1
      → up.tree ≡ w.tree → up.run ≡ w.run → IsNext up (suc w.level) (w.index / 2)
      → IsStep units forest m seat d arrive
      (record (with_desk m seat (joining d up)) { arrived = side_of w ∷ m.arrived })
  seals : (w : Way) → 0 < d.room → d.climb ≡ Some w → IsAtTop w → IsTopMet m w
      → IsStep units forest m seat d seal (with_desk m seat (topped d w.tree (top_root m.desks w.run)))
  fails : (u : ℕ) → 0 < d.room → d.climb ≡ None → Has d.held u
      → IsStep units forest m seat d (fail u)
      (record (with_desk m seat (failing d u)) { least = Some (lesser m.least u) })
  splits : 2 ≤ d.room → d.climb ≡ None
      → IsStep units forest m seat d split (record m { desks = slice_set m.desks seat (keeping d) ++ fresh d ∷ [] })
  joins : (other : ℕ) (e : Desk) → 0 < d.room → d.climb ≡ None → 0 < e.room → e.climb ≡ None
      → other ≢ seat → other < length m.desks → desk_at m other ≡ e
      → IsStep units forest m seat d (join other)
      (record m { desks = slice_set (slice_set m.desks seat (both d e)) other spent })

-- a legal run of events from one seat of room 256 on. The last is first, and each is of a seat that is there (profile)
pub data IsLegalRun (units : ℕ) (forest : List Run) : List (ℕ × Event) → Machine → Type 0 where
  begins : IsLegalRun units forest [] start
  goes_on : (events : List (ℕ × Event)) (m n : Machine) (seat : ℕ) (e : Event) → IsLegalRun units forest events m
      → seat < length m.desks
      → IsStep units forest m seat (desk_at m seat) e n → IsLegalRun units forest ((seat, e) ∷ events) n

-- how many of the sides are of node i of level k + 1 of that tree
abbrev pub arrivals_at : List Side → ℕ → ℕ → ℕ → ℕ
arrivals_at sides tree k i = total (λ (s : Side). cond (s.tree == tree && (s.level == k && s.index / 2 == i)) 1 0) sides

-- 1 of a side all of whose units were given, or 0
abbrev pub is_given_side : List Desk → Run → ℕ → ℕ → ℕ → Type 0
is_given_side desks run level index n = (n ≡ 0) ⊎ ((n ≡ 1) × IsGivenSide desks run level index)

abbrev pub times_failed : ℕ → List Desk → ℕ
times_failed u desks = total (λ (d : Desk). times u d.failed) desks

abbrev pub IsLeastFailed : Option ℕ → List Desk → Type 0
IsLeastFailed least desks =
    ((least ≡ None) × ((u : ℕ) → times_failed u desks ≡ 0))
    ⊎ ((u : ℕ) × (least ≡ Some u) × (0 < times_failed u desks) × ((x : ℕ) → x < u → times_failed x desks ≡ 0))

-- seats name each claimed unit once; the least failed is the least; no node has an arrival too many. The units that
-- seats name are distinct, and those below the claims and the number of units; a node has at most as many arrivals as
-- sides all of whose units were given; all arrivals are the seats'. This is said of the number of claims, the least
-- failed unit, the arrivals by tree, level and node, the number of all arrivals, and the seats (profile)
pub record IsLawful (units : ℕ) (forest : List Run) (claims : ℕ) (least : Option ℕ) (arrivals : ℕ → ℕ → ℕ
    → ℕ) (all : ℕ) (desks : List Desk) : Type 0 where
  pub named : (u : ℕ) → total (names u) desks ≡ cond (nat_lt u (min claims units)) 1 0
  pub few : claims ≤ units + 256
  pub failed : IsLeastFailed least desks
  pub nodes : (n : ℕ) (run : Run) → get_elem? forest n ≡ some run → (k i : ℕ) → middle k i < run.count
      → (left : ℕ) × (right : ℕ) × is_given_side desks run k (2 * i) left × is_given_side desks run k (2 * i + 1) right
      × (arrivals n k i ≤ left + right)
  pub seats : all ≡ total (λ (d : Desk). d.arrivals) desks

-- the side is one of a node of a tree, which has units on both
abbrev pub IsNodeSide : List Run → Side → Type 0
IsNodeSide forest s = (run : Run) × (get_elem? forest s.tree ≡ some run) × (middle s.level (s.index / 2) < run.count)

abbrev pub Every : {X : Type 0} → (X → Type 0) → List X → Type 0
Every P [] = Unit {0}
Every P (x ∷ xs) = P x × Every P xs

-- the machine is lawful so, all of its arrivals at nodes (profile)
abbrev pub IsLawfulState : ℕ → List Run → Machine → Type 0
IsLawfulState units forest m =
    IsLawful units forest m.claims m.least (arrivals_at m.arrived) (length m.arrived) m.desks
    × Every (IsNodeSide forest) m.arrived

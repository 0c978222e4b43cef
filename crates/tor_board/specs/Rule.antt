-- The rule of the board's table: claims and failures, each tree, and the whole. Word 0 is the number of claims, word 1
-- the least failed unit.
use Rattle.std.specs.Prelude.{◌≡◌, ◌≢◌, ℕ, zero, ◌+◌, ◌-◌, ◌*◌, ◌/◌, ◌^◌, ◌<◌, ◌≤◌, ◌⊎◌, List, [], ◌∷◌, length}
use Rattle.std.specs.Prelude.{slice_index, min, true, Option, Some, None}
use mathlib.Core.Option.{some, Option as Opt}
use lib.ListN.{get_elem?}
use Rattle.atomic_table.specs.Table.{State}
use Rattle.tor_board.specs.Weights.{total, below, only}
use Rattle.tor_board.specs.Climb.{Climb}
use Rattle.tor_board.specs.Shapes.{IsTreeOf}
use Rattle.tor_board.specs.Trees.{middle, word_of, slot_of, WasGiven, IsRoot, ready, joined_in, pairs}
use Rattle.tor_board.specs.Views.{spent, named, failures, stopped}
use Rattle.tor_board.specs.declared.tree.Tree.{Tree}
use Rattle.tor_board.specs.declared.tree.Shape.{Shape}
use Rattle.tor_board.specs.declared.view.View.{View}

-- what word 1 is while no unit has failed
abbrev pub nobody : ℕ
nobody = 2 ^ 64 - 1

-- of the number of units, the number of claims, the least failed unit, and what all seats know
pub record KeepsClaims (units claims least : ℕ) (views : List View) : Type 0 where
  -- the units that seats name are those that were claimed, each once
  pub once : (f : ℕ → ℕ) → total (named f) views ≡ below f (min claims units)
  -- rooms add up, and a seat without room is what a join left
  pub rooms : total (λ v. v.room) views ≡ 256
  pub gone : (i : ℕ) (v : View) → get_elem? views i ≡ some v → v.room ≡ 0 → v ≡ spent
  -- the claims are the seats'
  pub counted : total (λ v. v.claims) views ≡ claims
  -- of those past the units each was some seat's last
  pub bounded : claims ≤ units + total stopped views
  -- the least failed unit is the least that a seat failed
  pub spared : (u : ℕ) → u < least → total (failures (only u)) views ≡ 0
  pub attained : least < nobody → 0 < total (failures (only least)) views
  pub most : least ≤ nobody
  -- a seat is done for a reason
  pub why : (i : ℕ) (v : View) → get_elem? views i ≡ some v → v.done ≡ true → (least < nobody) ⊎ (units ≤ claims)

abbrev pub climbs_to : ℕ → Option Climb → ℕ
climbs_to slot None = 0
climbs_to slot (Some c) = only slot c.slot

abbrev pub has_out : ℕ → Option Climb → ℕ
has_out slot None = 0
has_out slot (Some c) = only slot c.slot + total (λ (p : ℕ × List ℕ). only slot p.0) c.spare

-- how many seats climb to the slot, and how many have it out
abbrev pub climbing : ℕ → List View → ℕ
climbing slot views = total (λ (v : View). climbs_to slot v.climb) views

abbrev pub out : ℕ → List View → ℕ
out slot views = total (λ (v : View). has_out slot v.climb) views

abbrev pub IsHome : List (Opt (List ℕ)) → ℕ → (List ℕ → Type 0) → Type 0
IsHome homes slot P = (hash : List ℕ) × (get_elem? homes slot ≡ some (some hash)) × P hash

-- the slot is that of index j of level k, whose hash goes to a node
abbrev pub IsNodeSlot : Tree → ℕ → ℕ → ℕ → Type 0
IsNodeSlot t slot k j = (i : ℕ) × (side : ℕ) × (side < 2) × (middle k i < t.count)
    × (slot ≡ slot_of t (middle k i) side) × (j ≡ 2 * i + side)

-- it is that of the whole tree
abbrev pub IsTopSlot : Tree → ℕ → ℕ → ℕ → Type 0
IsTopSlot t slot k j = (slot ≡ slot_of t 0 0) × (k ≡ t.height) × (j ≡ 0)

abbrev pub IsSide : Tree → ℕ → ℕ → ℕ → Type 0
IsSide t slot k j = IsNodeSlot t slot k j ⊎ IsTopSlot t slot k j

-- how often a top of that tree was told
abbrev pub tops_of : ℕ → List (ℕ × List ℕ) → ℕ
tops_of number tops = total (λ (p : ℕ × List ℕ). only number p.0) tops

-- each top of that tree is such a hash
abbrev pub TopsAre : ℕ → (List ℕ → Type 0) → List (ℕ × List ℕ) → Type 0
TopsAre number P [] = Unit {0}
TopsAre number P (top ∷ tops) = (top.0 ≡ number → P top.1) × TopsAre number P tops

pub record KeepsTree (t : Tree) (words : List ℕ) (homes : List (Opt (List ℕ))) (views : List View) : Type 0 where
  -- by slot: 1 where its hash has arrived, or was sealed
  pub arrived : ℕ → ℕ
  pub some_unit : 0 < t.count
  pub tall : t.count ≤ 2 ^ t.height
  pub long : 2 + t.offset + t.count ≤ length words
  pub wide : 2 * (t.offset + t.count) ≤ length homes
  pub once : (i : ℕ) → i < t.count → ready t words views zero i ≤ 1
  -- a node's word counts the arrivals of its two sides
  pub word : (m : ℕ) → 0 < m → m < t.count
      → slice_index words (word_of t m) ≡ arrived (slot_of t m 0) + arrived (slot_of t m 1)
  -- what came together below a side climbs to it or has arrived there
  pub flow : (slot k j : ℕ) → IsSide t slot k j → climbing slot views + arrived slot ≡ ready t words views k j
  -- a slot is out with the seat that climbs to it, or with the second to arrive at its node
  pub outs : (m side : ℕ) → side < 2 → 0 < m → m < t.count
      → out (slot_of t m side) views ≤ climbing (slot_of t m side) views + slice_index words (word_of t m) / 2
  pub out_top : out (slot_of t 0 0) views ≤ climbing (slot_of t 0 0) views
  -- a slot at home has a hash, and where it arrived that is the root of its side; so have those on their way
  pub home : (slot k j : ℕ) → IsSide t slot k j → out slot views ≡ 0
      → IsHome homes slot (λ hash. arrived slot ≡ 1 → IsRoot (WasGiven views) t k j hash)
  pub climb : (id : ℕ) (v : View) (c : Climb) (k j : ℕ) → get_elem? views id ≡ some v → v.climb ≡ Some c
      → IsSide t c.slot k j → IsRoot (WasGiven views) t k j c.hash
  pub left : (id : ℕ) (v : View) (c : Climb) (o : ℕ) (hash : List ℕ) (k j : ℕ) → get_elem? views id ≡ some v
      → v.climb ≡ Some c → c.spare ≡ (o, hash) ∷ [] → IsSide t o k j → IsRoot (WasGiven views) t k j hash
  -- the tree's root is told once it is sealed, and no other is
  pub tops : total (λ (v : View). tops_of t.number v.tops) views ≡ arrived (slot_of t 0 0)
  pub told : (id : ℕ) (v : View) → get_elem? views id ≡ some v
      → TopsAre t.number (IsRoot (WasGiven views) t t.height 0) v.tops

-- a seat knows how many units the board has, and is in a climb of one of its trees or in none
abbrev pub ClimbsIn : Shape → Option Climb → Type 0
ClimbsIn shape None = Unit {0}
ClimbsIn shape (Some c) = IsTreeOf shape c.tree

abbrev pub IsKnown : Shape → View → Type 0
IsKnown shape v = (v.units ≡ shape.units) × ClimbsIn shape v.climb

pub record Keeps (shape : Shape) (s : State (List ℕ) View) : Type 0 where
  pub small : shape.units ≤ 2 ^ 62
  pub long : 1 < length s.words
  pub claims : KeepsClaims shape.units (slice_index s.words 0) (slice_index s.words 1) s.views
  pub trees : (t : Tree) → IsTreeOf shape t → KeepsTree t s.words s.homes s.views
  pub known : (id : ℕ) (v : View) → get_elem? s.views id ≡ some v → 0 < v.room → IsKnown shape v
  -- all arrivals are the seats'
  pub arrivals : total (λ n. n) s.words
      ≡ slice_index s.words 0 + slice_index s.words 1 + total (λ v. v.arrivals) s.views
  -- and no other word counts anything
  pub unused : (i : ℕ) → 1 < i → ((t : Tree) → IsTreeOf shape t → (m : ℕ) → 0 < m → m < t.count → i ≢ word_of t m)
      → slice_index s.words i ≡ 0
  -- at each node of a tree one give came second
  pub joins : (t : Tree) → IsTreeOf shape t → total (λ v. joined_in t v.given) s.views ≡ pairs t s.words

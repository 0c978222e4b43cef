-- The steps of a running board, as events of the machine. What a step tells is in Plays.
use Rattle.std.specs.Prelude.{◌≡◌, ◌≢◌, ℕ, ◌+◌, ◌*◌, ◌%◌, ◌^◌, ◌<◌, ◌≤◌, List, [], ◌∷◌, ◌++◌, min, false, None}
use Rattle.std.specs.Prelude.{Some, slice_index, slice_set}
use mathlib.Core.Option.{some}
use lib.ListN.{get_elem?}
use Rattle.atomic_table.specs.Table.{State, Step, Act, carried_after, stepped as stepped_to}
use Rattle.tor_board.specs.Machine.{Machine, Event, look, claim, hand, arrive, seal, fail, split, join, desk_at}
use Rattle.tor_board.specs.Machine.{times_arrived, side_root, top_root, IsStep, IsLegalRun}
use Rattle.tor_board.specs.Climb.{run_of}
use Rattle.tor_board.specs.Desks.{Desk}
use Rattle.tor_board.specs.Weights.{total}
use Rattle.tor_board.specs.Plays.{Seated, Tells, IsFree, looked, claimed, gave, arrived, sealed, failed}
use Rattle.tor_board.specs.Rule.{Keeps, nobody, climbing, out, tops_of}
use Rattle.tor_board.specs.Running.{least_of, runs_of}
use Rattle.tor_board.specs.Shapes.{IsTreeOf}
use Rattle.tor_board.specs.Trees.{middle, slot_of, has_unit, ready}
use Rattle.tor_board.specs.Views.{desks_of, first, keeping, fresh, both, spent}
use Rattle.tor_board.specs.declared.tree.Tree.{Tree}
use Rattle.tor_board.specs.declared.tree.Shape.{Shape}
use Rattle.tor_board.specs.declared.view.View.{View}

-- the machine stands where the board does. A side has arrived where what has come to it climbs to it no more (BEP 52,
-- "pieces root"; profile)
pub record Shows (shape : Shape) (m : Machine) (s : State (List ℕ) View) : Type 0 where
  pub claims : m.claims ≡ slice_index s.words 0
  pub least : m.least ≡ least_of (slice_index s.words 1)
  pub desks : m.desks ≡ desks_of s.views
  pub sides : (t : Tree) → IsTreeOf shape t → (k i side : ℕ) → side < 2 → middle k i < t.count
      → climbing (slot_of t (middle k i) side) s.views + times_arrived (record {
        tree = t.number;
        level = k;
        index = 2 * i + side;
      }) m.arrived
      ≡ ready t s.words s.views k (2 * i + side)

-- the slot of a side that arrived, unless a seat has it, holds the root over its hashes. So does a tree's own slot,
-- once its top was told, that over all of its; each is followed by zero subtrees. This is where the machine stands (BEP
-- 52, "pieces root"; profile)
pub record AreHome (shape : Shape) (m : Machine) (s : State (List ℕ) View) : Type 0 where
  pub arrived : (t : Tree) → IsTreeOf shape t → (k i side : ℕ) → side < 2 → middle k i < t.count
      → 0 < times_arrived (record { tree = t.number; level = k; index = 2 * i + side }) m.arrived
      → out (slot_of t (middle k i) side) s.views ≡ 0
      → get_elem? s.homes (slot_of t (middle k i) side) ≡ some (some (side_root m.desks (run_of t) k (2 * i + side)))
  pub sealed : (t : Tree) → IsTreeOf shape t → 0 < total (λ (d : Desk). tops_of t.number d.tops) m.desks
      → get_elem? s.homes (slot_of t 0 0) ≡ some (some (top_root m.desks (run_of t)))

-- a step that sets one word, and changes what one seat knows
abbrev pub IsChange : State (List ℕ) View → ℕ → ℕ → ℕ → View → State (List ℕ) View → Type 0
IsChange s word n id w s' = (s'.words ≡ slice_set s.words word n) × (s'.views ≡ slice_set s.views id w)

-- a step of a board by the event of its name: what it sets and tells. It sets its word, and tells what that name's step
-- tells; it is one of the seat with that number, which knows v and has those slots (profile)
pub data IsBoardStep (shape : Shape) (s : State (List ℕ) View) (id : ℕ) (v : View) (has : List (ℕ × List ℕ)) : Event
    → State (List ℕ) View → Type 0 where
  looks : (st : Step (List ℕ)) (after : Seated) (s' : State (List ℕ) View)
      → looked st (v, has) (slice_index s.words 1) after
      → IsChange s 1 (slice_index s.words 1) id after.0 s' → IsBoardStep shape s id v has look s'
  claims : (st : Step (List ℕ)) (after : Seated) (s' : State (List ℕ) View)
      → claimed st (v, has) (slice_index s.words 0) after
      → IsChange s 0 ((slice_index s.words 0 + 1) % 2 ^ 64) id after.0 s' → IsBoardStep shape s id v has claim s'
  hands : (st : Step (List ℕ)) (after : Seated) (s' : State (List ℕ) View) (u : ℕ) (hash : List ℕ)
      → ((t : Tree) → IsTreeOf shape t → has_unit t u ≡ false)
      → gave None u hash st (v, has) (slice_index s.words 0) after
      → IsChange s 0 (slice_index s.words 0) id after.0 s' → IsBoardStep shape s id v has (hand u hash) s'
  begins : (st : Step (List ℕ)) (after : Seated) (s' : State (List ℕ) View) (u : ℕ) (hash : List ℕ) (t : Tree)
      → IsTreeOf shape t
      → gave (Some t) u hash st (v, has) (slice_index s.words 0) after
      → IsChange s 0 (slice_index s.words 0) id after.0 s' → IsBoardStep shape s id v has (hand u hash) s'
  arrives : (st : Step (List ℕ)) (after : Seated) (s' : State (List ℕ) View)
      → arrived st (v, has) (slice_index s.words st.word) after
      → IsChange s st.word ((slice_index s.words st.word + 1) % 2 ^ 64) id after.0 s'
      → IsBoardStep shape s id v has arrive s'
  seals : (st : Step (List ℕ)) (after : Seated) (s' : State (List ℕ) View)
      → sealed st (v, has) (slice_index s.words 0) after
      → IsChange s 0 (slice_index s.words 0) id after.0 s' → IsBoardStep shape s id v has seal s'
  fails : (st : Step (List ℕ)) (after : Seated) (s' : State (List ℕ) View)
      → failed st (v, has) (slice_index s.words 1) after
      → IsChange s 1 (min (slice_index s.words 1) st.first) id after.0 s'
      → IsBoardStep shape s id v has (fail st.first) s'
  splits : (s' : State (List ℕ) View) → 2 ≤ v.room → v.climb ≡ None → s'.words ≡ s.words
      → s'.views ≡ slice_set s.views id (keeping v) ++ fresh v ∷ []
      → IsBoardStep shape s id v has split s'
  joins : (s' : State (List ℕ) View) (other : ℕ) (w : View) → get_elem? s.views other ≡ some w → other ≢ id → IsFree v
      → IsFree w
      → s'.words ≡ s.words → s'.views ≡ slice_set (slice_set s.views id (both v w)) other spent
      → IsBoardStep shape s id v has (join other) s'

-- a step of the table is the board's step of that event, whatever its operation makes of its word. So it is whenever
-- the table takes it, and it tells what `says` does, if the rule holds before and after (profile)
abbrev pub IsStepOf : Shape → Event → Step (List ℕ) → Tells → Type 0
IsStepOf shape e st says =
    (s : State (List ℕ) View) (id n : ℕ) (me : Seated) (w : View) (a : Act (List ℕ))
    → get_elem? s.views id ≡ some me.0 → says st me (slice_index s.words st.word) (w, carried_after me.1 a)
    → Keeps shape s → Keeps shape (stepped_to s st.word n id me.1 w a)
    → IsBoardStep shape s id me.0 me.1 e (stepped_to s st.word n id me.1 w a)

-- a step of the table changes no word and no view. So it is whenever the table takes it (profile)
abbrev pub IsNoStep : Shape → Step (List ℕ) → Tells → Type 0
IsNoStep shape st says =
    (s : State (List ℕ) View) (id n : ℕ) (me : Seated) (w : View) (a : Act (List ℕ))
    → get_elem? s.views id ≡ some me.0 → says st me (slice_index s.words st.word) (w, carried_after me.1 a)
    → Keeps shape s → Keeps shape (stepped_to s st.word n id me.1 w a)
    → (slice_set s.words st.word n ≡ s.words) × (slice_set s.views id w ≡ s.views)

-- what can have happened to a board: it opened, and each step kept the rule. The last is first; one that was no event
-- kept it too (profile)
pub data IsHistory (shape : Shape) : List (ℕ × Event) → State (List ℕ) View → Type 0 where
  opened : (s : State (List ℕ) View) → Keeps shape s → slice_index s.words 0 ≡ 0 → slice_index s.words 1 ≡ nobody
      → ((i : ℕ) → 1 < i → slice_index s.words i ≡ 0) → s.views ≡ first shape.units ∷ [] → IsHistory shape [] s
  stepped : (events : List (ℕ × Event)) (s s' : State (List ℕ) View) (id : ℕ) (v : View) (has : List (ℕ
      × List ℕ)) (e : Event)
      → IsHistory shape events s → get_elem? s.views id ≡ some v → IsBoardStep shape s id v has e s' → Keeps shape s'
      → IsHistory shape ((id, e) ∷ events) s'
  unchanged : (events : List (ℕ × Event)) (s s' : State (List ℕ) View) → IsHistory shape events s → Keeps shape s'
      → s'.words ≡ s.words → s'.views ≡ s.views → IsHistory shape events s'

-- that event of that seat takes the machine to where the board then stands
abbrev pub IsEvent : Shape → Machine → ℕ → Event → State (List ℕ) View → Type 0
IsEvent shape m id e s' = (n : Machine) × IsStep shape.units (runs_of shape) m id (desk_at m id) e n × Shows shape n s'

-- those events are a legal run of the machine, which stands where the board does (profile)
abbrev pub IsRunOf : Shape → List (ℕ × Event) → State (List ℕ) View → Type 0
IsRunOf shape events s = (m : Machine) × IsLegalRun shape.units (runs_of shape) events m × Shows shape m s

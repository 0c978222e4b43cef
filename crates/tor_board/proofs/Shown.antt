-- What the machine shows of a step of one seat.
use Rattle.{std.proofs.Common.subst₂, tor_board.proofs.Names.{Climb, Desk, Event, IsChange, IsEvent, IsStep, IsTreeOf}}
use Rattle.tor_board.proofs.Names.{Keeps, List, Machine, None, Option, Seated, Shape, Shows, Side, State, Tree, View}
use Rattle.tor_board.proofs.Names.{ap, arith, at_map, climbing, climbs_to, desk_of, desks_of, get_elem?, get_or}
use Rattle.tor_board.proofs.Names.{get_or-set_other, get_or-set_same, least_of, map-set, middle, ready, refl, runs_of}
use Rattle.tor_board.proofs.Names.{set, slot_of, some, spent_desk, subst, sym, times_arrived, total, word_of, ℕ, ◌*◌}
use Rattle.tor_board.proofs.{Names.{◌+◌, ◌<◌, ◌∙◌, ◌≡◌, ◌≢◌, ◌≤◌}, Steps.{climbs, gave}, Sums.{read, term_le}}
use Rattle.tor_board.proofs.{Sums.total-set, Trees.{node_flow, node_word, ready_more, split_positive}}
use Rattle.tor_board.specs.Machine.{desk_at}

abbrev pub place_of : Tree → ℕ → ℕ → Side
place_of t k j = record { tree = t.number; level = k; index = j }

-- a seat that knows v takes a step, between two states that keep the rule, from where the machine stands
pub record Moment (shape : Shape) (m : Machine) (s s' : State (List ℕ) View) (id : ℕ) (v : View) : Type 0 where
  pub kept : Keeps shape s
  pub kept' : Keeps shape s'
  pub shows : Shows shape m s
  pub at : get_elem? s.views id ≡ some v

module _ {shape : Shape} {m : Machine} {s s' : State (List ℕ) View} {id : ℕ} {v : View}
    (now : Moment shape m s s' id v) where
  pub shown : get_elem? m.desks id ≡ some (desk_of v)
  shown = rw now.shows.desks (at_map desk_of s.views id v now.at)

  abbrev pub Sides : List Side → Type 0
  Sides arrived = (t : Tree) → IsTreeOf shape t → (k i side : ℕ) → side < 2 → middle k i < t.count
      → climbing (slot_of t (middle k i) side) s'.views + times_arrived (place_of t k (2 * i + side)) arrived
      ≡ ready t s'.words s'.views k (2 * i + side)

  -- what a seat climbs to, nothing has come to
  abbrev pub New : Option Climb → Type 0
  New c = (t : Tree) → IsTreeOf shape t → (k i side : ℕ) → side < 2 → middle k i < t.count
      → climbs_to (slot_of t (middle k i) side) c ≡ 1 → ready t s.words s.views k (2 * i + side) ≡ 0

  -- what a step told of the seat is what it knows
  pub as_told : (i : ℕ) {n n' : ℕ} {after : Seated} {w : View} {slots : List (ℕ × List ℕ)} → after ≡ (w, slots)
      → n ≡ n' → IsChange s i n id after.0 s' → IsChange s i n' id w s'
  as_told i e same change = subst₂ (λ (x : ℕ) (a : Seated). IsChange s i x id a.0 s') same e change

  pub as_seat : {e : Event} {n : Machine} → IsStep shape.units (runs_of shape) m id (desk_of v) e n
      → IsStep shape.units (runs_of shape) m id (desk_at m id) e n
  as_seat {e = e} {n = n} step = subst (λ (x : Desk). IsStep shape.units (runs_of shape) m id x e n)
      (sym (read m.desks id (desk_of v) spent_desk shown)) step

  -- the event of a step at which the seat alone changes
  pub event : (e : Event) (made : ℕ) (least : Option ℕ) (arrived : List Side) (w : View) (d : Desk)
      → IsStep shape.units (runs_of shape) m id (desk_of v) e
      (record { claims = made; least = least; arrived = arrived; desks = set m.desks id d })
      → d ≡ desk_of w → made ≡ get_or s'.words 0 0 → least ≡ least_of (get_or s'.words 1 0)
      → s'.views ≡ set s.views id w → Sides arrived → IsEvent shape m id e s'
  event e made least arrived w d step is c l views sides = let desks = (λ i. set (now.shows.desks i) id (is i))
      ∙ (sym (map-set desk_of s.views id w) ∙ ap desks_of (sym views)) in
      (_, as_seat step, record { claims = c; least = l; desks = desks; sides = sides })

  -- one seat's climb may end and another begin
  module _ (w : View) (views : s'.views ≡ set s.views id w) (gives : (u : ℕ) → gave u v ≤ gave u w) (new : New w.climb)
      (sum : (t : Tree) → IsTreeOf shape t → (n : ℕ) → 0 < n → n < t.count → get_or s'.words (word_of t n) 0
      ≡ get_or s.words (word_of t n) 0 + (climbs (slot_of t n 0) v + climbs (slot_of t n 1) v)) where
    part : (g : View → ℕ) → total g s'.views + g v ≡ total g s.views + g w
    part g = rw views (total-set g s.views id v w now.at)

    no_less : (t : Tree) (is : IsTreeOf shape t) (k i side : ℕ) → side < 2 → middle k i < t.count
        → (now.kept.trees t is).arrived (slot_of t (middle k i) side) + climbs (slot_of t (middle k i) side) v
        ≤ (now.kept'.trees t is).arrived (slot_of t (middle k i) side)
    no_less t is k i side two near = let a = node_flow (now.kept.trees t is) k i side two near in
        let b = node_flow (now.kept'.trees t is) k i side two near in
        grind (arith, term_le (climbs (slot_of t (middle k i) side)) s.views id v now.at, ready_more, part)

    arrived_now : (t : Tree) (is : IsTreeOf shape t) (k i side : ℕ) → side < 2 → middle k i < t.count
        → (now.kept'.trees t is).arrived (slot_of t (middle k i) side)
        ≡ (now.kept.trees t is).arrived (slot_of t (middle k i) side) + climbs (slot_of t (middle k i) side) v
    arrived_now t is k i side two near = let a = no_less t is k i 0 in let b = no_less t is k i 1 in
        let d = node_word (now.kept.trees t is) k i 0 in
        grind (arith, node_word (now.kept'.trees t is) k i 0, sum t is (middle k i) (split_positive k i) near)

    pub moved : (arrived : List Side)
        → ((t : Tree) → IsTreeOf shape t → (k i side : ℕ) → side < 2 → middle k i < t.count
        → times_arrived (place_of t k (2 * i + side)) arrived
        ≡ times_arrived (place_of t k (2 * i + side)) m.arrived + climbs (slot_of t (middle k i) side) v)
        → Sides arrived
    moved arrived times t is k i side two near = grind (arith, arrived_now t is k i side two near)

  -- of a step on the first word, or the second: no word but that one changes
  module _ (i n : ℕ) (low : i < 2) (w : View) (change : IsChange s i n id w s') where
    pub other_word : (k : ℕ) → k ≢ i → get_or s'.words k 0 ≡ get_or s.words k 0
    other_word k ne = rw change.0 (get_or-set_other s.words i k n 0 ne)

    pub this_word : get_or s'.words i 0 ≡ n
    this_word = rw change.0 (get_or-set_same s.words i n 0 (omega (arith, now.kept.long)))

    -- where no side arrives
    pub unarrived : ((u : ℕ) → gave u v ≤ gave u w) → New w.climb
        → ((t : Tree) → IsTreeOf shape t → (n side : ℕ) → side < 2 → 0 < n → n < t.count
        → climbs (slot_of t n side) v ≡ 0) → Sides m.arrived
    unarrived gives new none = moved w change.1 gives new
        (λ t is x pos h. let a = other_word (word_of t x) (λ e. omega arith) in
        let b = none t is x 0 (omega arith) pos h in let d = none t is x 1 (omega arith) pos h in omega arith)
        m.arrived (λ t is k i side two near. omega (arith, none t is (middle k i) side two (split_positive k i) near))

    pub quiet : v.climb ≡ None → w.climb ≡ None → ((u : ℕ) → gave u v ≤ gave u w) → Sides m.arrived
    quiet idle idle' gives = unarrived gives
        (λ t is k i side two near one. omega (arith, ap (climbs_to (slot_of t (middle k i) side)) idle'))
        (λ t is x side two pos h. ap (climbs_to (slot_of t x side)) idle)

  -- the event of a step on the first word, or the second
  pub on_first : (e : Event) (n made : ℕ) (w : View) (d : Desk) → IsChange s 0 n id w s' → Sides m.arrived → made ≡ n
      → d ≡ desk_of w
      → IsStep shape.units (runs_of shape) m id (desk_of v) e (record m { claims = made; desks = set m.desks id d })
      → IsEvent shape m id e s'
  on_first e n made w d change sides is d_is step = event e made m.least m.arrived w d step d_is
      (is ∙ sym (this_word 0 n (omega arith) w change))
      (now.shows.least ∙ ap least_of (sym (other_word 0 n (omega arith) w change 1 (λ e. omega arith)))) change.1 sides

  pub on_second : (e : Event) (n : ℕ) (least : Option ℕ) (w : View) → IsChange s 1 n id w s' → v.climb ≡ None
      → w.climb ≡ None → ((u : ℕ) → gave u v ≤ gave u w) → least ≡ least_of n
      → IsStep shape.units (runs_of shape) m id (desk_of v) e
      (record m { least = least; desks = set m.desks id (desk_of w) }) → IsEvent shape m id e s'
  on_second e n least w change idle idle' gives is step = event e m.claims least m.arrived w (desk_of w) step refl
      (now.shows.claims ∙ sym (other_word 1 n (omega arith) w change 0 (λ e. omega arith)))
      (is ∙ ap least_of (sym (this_word 1 n (omega arith) w change))) change.1
      (quiet 1 n (omega arith) w change idle idle' gives)

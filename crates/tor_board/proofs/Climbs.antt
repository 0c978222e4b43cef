-- A step of a climb is the event of its name.
use Rattle.tor_board.proofs.{Arriving.{found_few, found_other}, Finding.{IsBelow, counted, joined_same, own_side}}
use Rattle.tor_board.proofs.{Finding.{same_tree, some_height, top_node, word_above, word_else}, Going.held_ungiven}
use Rattle.tor_board.proofs.Names.{Bool, Climb, IsAtTop, IsChange, IsEvent, IsGivenSide, IsShape, IsSide, IsStep}
use Rattle.tor_board.proofs.Names.{IsTreeOf, KeepsTree, List, Machine, None, Seated, Shape, Side, Some, State, Tree}
use Rattle.tor_board.proofs.Names.{View, [], ap, arith, arrive, arrived_from, at_map, climb_from, climbed, climbing}
use Rattle.tor_board.proofs.Names.{climbs_to, cond, desk_of, dite, false, gave_told, get_or, hand, handed, hands}
use Rattle.tor_board.proofs.Names.{inr, joining, least_of, length, meets, met, middle, only, other_slot}
use Rattle.tor_board.proofs.Names.{ready, refl, rested, rests, runs_of, seal, sealed_from, seals, set, slot_at, slot_of}
use Rattle.tor_board.proofs.Names.{subst, suc, sym, times_arrived, times_given, top_root, topped, true, way_in, way_of}
use Rattle.tor_board.proofs.Names.{word_of, ℕ, ℕ_discrete, ◌%◌, ◌*◌, ◌+◌, ◌-◌, ◌/◌, ◌<◌, ◌==◌, ◌^◌, ◌∙◌, ◌∷◌, ◌≡◌, ◌≤◌}
use Rattle.tor_board.proofs.{Rising.{goal_of, lands, place_one, rises_ready, side_low, side_one}, Running.ready_given}
use Rattle.tor_board.proofs.{Running.top_is, Shown.{Moment, New, as_told, event, moved, on_first, place_of, unarrived}}
use Rattle.tor_board.proofs.{Steps.{climbs, gave}, Sums.{only-other, only-same}, Trees.{alone_there, has_unit-true}}
use Rattle.tor_board.proofs.Trees.{node_flow, node_inside, node_once, node_word, ready_node, side_of}
use Rattle.tor_board.specs.{Climb.run_of, Desks.topped as topped_desk, Machine.{IsNext, beside, is_side}}
use Rattle.{tor_board.specs.Machine.side_of as side_of_way, tor_merkle.specs.Subtree.height}

same_side : (a b : Side) → a.tree ≡ b.tree → a.level ≡ b.level → a.index ≡ b.index → is_side a b ≡ true
same_side a b e f g = grind arith

other_side : (a b : Side) → (a.tree ≡ b.tree → a.level ≡ b.level → a.index ≡ b.index → ⊥) → is_side a b ≡ false
other_side a b ne = grind arith

-- where a hash rises to is the next side of a node, or the top
next_of : (t : Tree) → 0 < t.count → t.count ≤ 2 ^ t.height → t.height ≡ height t.count → (l i : ℕ) → l ≤ t.height
    → i * 2 ^ l < t.count → (hash : List ℕ) (spare : List (ℕ × List ℕ))
    → IsNext (way_of (climb_from t l i hash spare)) l i
next_of t some_unit tall least l i low inside hash spare
    = grind (arith, lands t some_unit tall l i low inside, goal_of t l i)

module _ {shape : Shape} {m : Machine} {s s' : State (List ℕ) View} {id : ℕ} {v : View}
    (now : Moment shape m s s' id v) {words_count slots_count : ℕ}
    (shaped : IsShape words_count slots_count shape) where
  -- two spots with one slot are one, in one tree
  same_spot : (t u : Tree) → IsTreeOf shape t → IsTreeOf shape u → (slot k j l n : ℕ) → IsSide t slot k j
      → IsSide u slot l n → (t ≡ u) × (k ≡ l) × (j ≡ n)
  same_spot t u is is' slot k j l n a b = dite (ℕ_discrete t.number u.number)
      (λ e. let same = same_tree shape t u is is' e in
      let q = side_one t slot k j l n a (subst (λ (x : Tree). IsSide x slot l n) (sym same) b) in (same, q.0, q.1))
      (λ ne. grind arith)

  -- nothing has come yet to where a spot rises that is not ready
  not_ready : (t : Tree) → IsTreeOf shape t → (l j : ℕ) (hash : List ℕ) (spare : List (ℕ × List ℕ)) → l ≤ t.height
      → j * 2 ^ l < t.count → ready t s.words s.views l j ≡ 0 → New now (Some (climb_from t l j hash spare))
  not_ready t is l j hash spare low inside none u is' k i side two near one =
      let p : ℕ × ℕ = goal_of t l j in let tree = now.kept.trees t is in
      let up = lands t tree.some_unit tree.tall l j low inside in let z : ready t s.words s.views p.0 p.1 ≡ 0
      = rises_ready t s.words s.views up.0.0 l j p.0 p.1 up.0.1 ∙ none in
      dite (ℕ_discrete (slot_at t p.0 p.1) (slot_of u (middle k i) side))
      (λ e. let q = same_spot t u is is' (slot_of u (middle k i) side) p.0 p.1 k (2 * i + side)
      (subst (λ (x : ℕ). IsSide t x p.0 p.1) e up.1) (side_of u k i side two near) in
      (λ n. ready (sym q.0 n) s.words s.views (sym q.1 n) (sym q.2 n)) ∙ z)
      (λ ne. omega (arith, only-other (slot_of u (middle k i) side) (slot_at t p.0 p.1) ne))

  -- ---- an arrival at a node
  module _ (c : Climb) (in_climb : v.climb ≡ Some c) (is : IsTreeOf shape c.tree)
      (near : middle c.level (c.index / 2) < c.tree.count)
      (slot_is : c.slot ≡ slot_of c.tree (middle c.level (c.index / 2)) (c.index % 2)) where
    abbrev tree : KeepsTree c.tree s.words s.homes s.views
    tree = now.kept.trees c.tree is

    abbrev found : ℕ
    found = get_or s.words (word_above c) 0

    below : IsBelow c
    below = let own : IsSide c.tree c.slot c.level c.index = grind arith in
        let le = side_low c.tree tree.tall c.slot c.level c.index own in record {
          slot = slot_is;
          inside = near;
          low = grind arith;
        }

    alone : (climbing c.slot s.views ≡ 1) × (ready c.tree s.words s.views c.level c.index ≡ 1)
        × (tree.arrived c.slot ≡ 0)
    alone = alone_there tree id v c now.at in_climb c.level c.index (own_side c below)

    -- how often a side of this node has arrived, by the machine
    side_times : (b j : ℕ) → b < 2 → j ≡ 2 * (c.index / 2) + b → times_arrived (place_of c.tree c.level j) m.arrived
        ≡ tree.arrived (slot_of c.tree (middle c.level (c.index / 2)) b)
    side_times b j two e = grind arith

    none_here : times_arrived (side_of_way (way_of c)) m.arrived ≡ 0
    none_here = side_times (c.index % 2) c.index (omega arith) (omega arith) ∙ (ap tree.arrived (sym slot_is) ∙ alone.2)

    found_beside : times_arrived (beside (side_of_way (way_of c))) m.arrived ≡ found
    found_beside =
        let place : cond (c.index % 2 == 0) (c.index + 1) (2 * (c.index / 2)) ≡ 2 * (c.index / 2) + (1 - c.index % 2)
        = grind arith in
        side_times (1 - c.index % 2) (cond (c.index % 2 == 0) (c.index + 1) (2 * (c.index / 2))) (omega arith) place
        ∙ sym (found_other c tree below alone.2)

    given_here : IsGivenSide m.desks (run_of c.tree) c.level c.index
    given_here = rw now.shows.desks (ready_given tree c.level c.index (omega (arith, alone.1)))

    -- the side arrives that climbed
    timed : (t : Tree) → IsTreeOf shape t → (k i side : ℕ) → side < 2 → middle k i < t.count
        → times_arrived (place_of t k (2 * i + side)) (side_of_way (way_of c) ∷ m.arrived)
        ≡ times_arrived (place_of t k (2 * i + side)) m.arrived + climbs (slot_of t (middle k i) side) v
    timed t is' k i side two inside = let slot : ℕ = slot_of t (middle k i) side in let own = own_side c below in
        let there = side_of t k i side two inside in
        let mine : climbs slot v ≡ only slot c.slot = ap (climbs_to slot) in_climb in dite (ℕ_discrete c.slot slot)
        (λ e. let q = same_spot c.tree t is is' slot c.level c.index k (2 * i + side)
        (subst (λ (x : ℕ). IsSide c.tree x c.level c.index) e own) there in
        let bit = ap (λ (b : Bool). cond {A = ℕ} b 1 0) (same_side (side_of_way (way_of c))
        (place_of t k (2 * i + side)) (ap (λ (r : Tree). r.number) q.0) q.1 q.2) in
        let one : only slot c.slot ≡ 1 = rw e (only-same slot) in omega arith)
        (λ ne. let bit = ap (λ (b : Bool). cond {A = ℕ} b 1 0)
        (other_side (side_of_way (way_of c)) (place_of t k (2 * i + side)) (λ e f g. ne
        (let same : c.tree ≡ t = same_tree shape c.tree t is is' e in
        place_one c.tree tree.tall c.slot slot c.level c.index own (rw (same, f, g) there)))) in
        omega (arith, only-other slot c.slot ne))

    -- where the word has one more, so has the machine
    arrived_event : (w : View) → IsChange s (word_above c) (found + 1) id w s' → ((u : ℕ) → gave u v ≤ gave u w)
        → New now w.climb → IsStep shape.units (runs_of shape) m id (desk_of v) arrive
        (record m { arrived = side_of_way (way_of c) ∷ m.arrived; desks = set m.desks id (desk_of w) })
        → IsEvent shape m id arrive s'
    arrived_event w change gives new step = let long : word_above c < length s.words = omega (arith, tree.long) in
        let far : (k : ℕ) → k < 2 → get_or s'.words k 0 ≡ get_or s.words k 0
        = λ k low. rw change.0 (word_else c below s.words long k (λ e. omega arith)) in
        let sum : (t : Tree) → IsTreeOf shape t → (n : ℕ) → 0 < n → n < t.count → get_or s'.words (word_of t n) 0
        ≡ get_or s.words (word_of t n) 0 + (climbs (slot_of t n 0) v + climbs (slot_of t n 1) v)
        = λ t is n pos h. let a = ap (λ (l : List ℕ). get_or l (word_of t n) 0) change.0 in
        let b = counted c below s.words long t n in let d = ap (climbs_to (slot_of t n 0)) in_climb in
        let f = ap (climbs_to (slot_of t n 1)) in_climb in omega arith in
        event now arrive m.claims m.least (side_of_way (way_of c) ∷ m.arrived) w (desk_of w) step refl
        (now.shows.claims ∙ sym (far 0 (omega arith)))
        (now.shows.least ∙ ap least_of (sym (far 1 (omega arith)))) change.1
        (moved now w change.1 gives new sum (side_of_way (way_of c) ∷ m.arrived) timed)

    pub arrives_so : 0 < v.room → (has : List (ℕ × List ℕ)) (after : Seated) → arrived_from c (v, has) found after
        → IsChange s (word_above c) ((found + 1) % 2 ^ 64) id after.0 s' → IsEvent shape m id arrive s'
    arrives_so some_room has after t change =
        let few = found_few c tree below alone.2 in let big : (found + 1) % 2 ^ 64 ≡ found + 1 = omega arith in
        dite (ℕ_discrete found 0) (λ e. arrived_event (rested v) (as_told now _ (t.1 e) big change) (λ u. omega arith)
        (λ t is k i side two inside one. omega arith)
        (rests (way_of c) some_room (ap way_in in_climb) near given_here none_here (found_beside ∙ e))) (λ ne.
        let one : found ≡ 1 = omega arith in let r = t.2 one in let w : View = joining v (climbed c r.0) in
        let none : ready c.tree s.words s.views (suc c.level) (c.index / 2) ≡ 0 = grind arith in
        let covers = node_inside c.level (c.index / 2) c.tree.count near in
        let next = next_of c.tree tree.some_unit tree.tall (shaped.fits c.tree is).least (suc c.level) (c.index / 2)
        below.low covers (met (c.index % 2) c.hash r.0) ((other_slot c, r.0) ∷ []) in
        arrived_event w (as_told now _ r.2 big change)
        (λ u. omega (arith, joined_same (λ g. only u g.unit) (λ x h a b. refl) v.given))
        (not_ready c.tree is (suc c.level) (c.index / 2) (met (c.index % 2) c.hash r.0) ((other_slot c, r.0) ∷ [])
        below.low covers none)
        (meets (way_of c) (way_of (climbed c r.0)) some_room (ap way_in in_climb) near given_here none_here
        (found_beside ∙ one) refl refl next))

  -- ---- a unit of a tree is handed in
  pub hands_tree : (t : Tree) → IsTreeOf shape t → (u : ℕ) (hash : List ℕ)
      → (has : List (ℕ × List ℕ)) (after : Seated) (st : _) (n : ℕ) → gave_told (Some t) u hash st (v, has) n after
      → IsChange s 0 (get_or s.words 0 0) id after.0 s' → IsEvent shape m id (hand u hash) s'
  hands_tree t is u hash has after st n told change =
      let k : ℕ = get_or s.words 0 0 in let idle : v.climb ≡ None = told.2.1 in let tree = now.kept.trees t is in
      let in_tree = told.4 in let among = has_unit-true t u in_tree in let i : ℕ = u - t.first in
      let unit : u ≡ t.first + (u - t.first) = omega (arith, among.0) in
      let c : Climb = climb_from t 0 i hash [] in let w : View = handed v u hash (Some c) in
      let changed : IsChange s 0 k id w s' = as_told now _ told.0.1 refl change in
      let ungiven : ready t s.words s.views 0 i ≡ 0 = ap (λ (x : ℕ). times_given x s.views) (sym unit)
      ∙ held_ungiven now.kept.claims id v now.at u told.3 in
      let covers : i * 2 ^ 0 < t.count = omega (arith, among.0, among.1) in
      let next = next_of t tree.some_unit tree.tall (shaped.fits t is).least 0 i (omega arith) covers hash [] in
      on_first now (hand u hash) k m.claims w (desk_of w) changed
      (unarrived now 0 k (omega arith) w changed (λ x. omega arith)
      (not_ready t is 0 i hash [] (omega arith) covers ungiven)
      (λ t is n side two pos h. ap (climbs_to (slot_of t n side)) idle)) now.shows.claims refl
      (hands u hash (Some (way_of c)) told.2.0 (ap way_in idle) told.3
      (at_map run_of shape.trees.items t.number t is, in_tree, next))

  -- ---- a seal
  top_met : (t : Tree) → IsTreeOf shape t → 2 ≤ get_or s.words (word_of t (middle (t.height - 1) 0)) 0
      → (side : ℕ) → side < 2 → times_arrived (place_of t (t.height - 1) side) m.arrived ≡ 1
  top_met t is two side low = let a = top_node shaped t is in
      let b = node_word (now.kept.trees t is) (t.height - 1) 0 side low (top_node shaped t is) in
      let d = node_once (now.kept.trees t is) (t.height - 1) 0 side low (top_node shaped t is) in
      let e = node_once (now.kept.trees t is) (t.height - 1) 0 (1 - side) in
      let f = now.shows.sides t is (t.height - 1) 0 side low (top_node shaped t is) in
      grind (arith, node_flow (now.kept.trees t is) (t.height - 1) 0 side low (top_node shaped t is))

  pub seals_so : 0 < v.room → (c : Climb) → v.climb ≡ Some c → IsTreeOf shape c.tree → IsAtTop c
      → (has : List (ℕ × List ℕ)) (after : Seated) → sealed_from c (v, has) after
      → IsChange s 0 (get_or s.words 0 0) id after.0 s' → IsEvent shape m id seal s'
  seals_so some_room c in_climb is high has after t change =
      let k : ℕ = get_or s.words 0 0 in let tree = now.kept.trees c.tree is in
      let w : View = topped v c.tree.number c.hash in
      let top : IsSide c.tree c.slot c.tree.height 0 = inr (high.2, refl, refl) in
      let changed : IsChange s 0 k id w s' = as_told now _ t refl change in
      let none : (u : Tree) → IsTreeOf shape u → (n side : ℕ) → side < 2 → 0 < n → n < u.count
      → climbs (slot_of u n side) v ≡ 0 = λ u is' n side two pos h. ap (climbs_to (slot_of u n side)) in_climb
      ∙ only-other (slot_of u n side) c.slot (λ e. dite (ℕ_discrete c.tree.number u.number) (λ same. grind arith)
      (λ ne. grind arith)) in let alone = alone_there tree id v c now.at in_climb c.tree.height 0 top in
      let tall : c.tree.height ≡ suc (c.tree.height - 1) = omega (arith, some_height shaped c.tree is) in
      let full : ready c.tree s.words s.views (suc (c.tree.height - 1)) 0 ≡ 1 = grind arith in
      let node = ready_node c.tree s.words s.views (c.tree.height - 1) 0 (top_node shaped c.tree is) in
      let met' = top_met c.tree is (omega arith) in
      let least_is : c.tree.height ≡ height c.tree.count = (shaped.fits c.tree is).least in
      let root : c.hash ≡ top_root m.desks (run_of c.tree) = rw now.shows.desks
      (top_is now.kept c.tree least_is c.hash (tree.climb id v c c.tree.height 0 now.at in_climb top)) in
      on_first now seal k m.claims w (topped_desk (desk_of v) c.tree.number (top_root m.desks (run_of c.tree))) changed
      (unarrived now 0 k (omega arith) w changed (λ x. omega arith) (λ t is k i side two near one. omega arith) none)
      now.shows.claims (ap (topped_desk (desk_of v) c.tree.number) (sym root))
      (seals (way_of c) some_room (ap way_in in_climb) (high.0 ∙ least_is, high.1)
      (λ side two. rw high.0 (met' side two)))

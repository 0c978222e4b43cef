-- Each step of the board is the event of its name, and what happened to it a legal run.
use Rattle.{std.proofs.lemmas.List.map-append, tor_board.proofs.Climbs.{arrives_so, hands_tree, seals_so}}
use Rattle.tor_board.proofs.{Moves.{few_claims, named_below}, Names.{Climb, ClimbsIn, Desk, Event, GivenUnit, IsChange}}
use Rattle.tor_board.proofs.Names.{IsEvent, IsFree, IsShape, IsStep, IsTreeOf, Keeps, List, Machine, None, Run, Seated}
use Rattle.tor_board.proofs.Names.{Shape, Shows, Some, State, Tree, View, [], ap, arith, at_map, begins, both, claim}
use Rattle.tor_board.proofs.Names.{claimed, claims, climbing, climbs_to, dec_le, desk_of, desks_of, dite, ends, fail}
use Rattle.tor_board.proofs.Names.{failing, fails, false, first, fresh, gave_told, get_elem?, get_or, goes_on, hand}
use Rattle.tor_board.proofs.Names.{handed, hands, has_unit, in_run, join, joins, keeping, least_of, lesser, look}
use Rattle.tor_board.proofs.Names.{looked, looks, map-set, middle, min, nobody, only, refl, runs_of, sees, set}
use Rattle.tor_board.proofs.Names.{set_else, slot_of, some, spent, spent_desk, split, splits, start, subst, sym}
use Rattle.tor_board.proofs.Names.{times_given, total, way_in, word_of, ℕ, ℕ_discrete, ◌%◌, ◌*◌, ◌++◌, ◌+◌, ◌/◌, ◌<◌}
use Rattle.tor_board.proofs.{Names.{◌^◌, ◌∙◌, ◌∷◌, ◌≡◌, ◌≢◌, ◌≤◌}, Running.{no_least, some_least, tree_at}}
use Rattle.tor_board.proofs.{Seats.{join_sum, split_sum}, Shown.{Moment, Sides, as_seat, as_told, on_first, on_second}}
use Rattle.tor_board.proofs.{Shown.{quiet, shown}, Steps.{climbs, gave}, Sums.{read, total-append, within}}
use Rattle.tor_board.{proofs.Trees.{node_word, ready_same, side_covers, side_of}, specs.Machine.IsStart}
use Rattle.tor_board.specs.Stepping.{IsBoardStep, IsHistory, IsRunOf, opened, stepped, unchanged}
use Rattle.tor_board.specs.{Plays.failed, Views.{ended, finished, holding, looking}}
use Rattle.tor_board.specs.Stepping as board

-- ---- a step of a seat in no climb

module _ {shape : Shape} {m : Machine} {s s' : State (List ℕ) View} {id : ℕ} {v : View}
    (now : Moment shape m s s' id v) where
  pub looks_so : (has : List (ℕ × List ℕ)) (after : Seated) (st : _) → looked st (v, has) (get_or s.words 1 0) after
      → IsChange s 1 (get_or s.words 1 0) id after.0 s' → IsEvent shape m id look s'
  looks_so has after st told change = let n : ℕ = get_or s.words 1 0 in let idle : v.climb ≡ None = told.3.1 in
      dite (ℕ_discrete n nobody)
      (λ e. on_second now look n m.least (looking v) (as_told now _ (told.0 e).0 refl change) idle idle
      (λ u. omega arith) now.shows.least
      (looks told.3.0 (ap way_in idle) told.4 (now.shows.least ∙ no_least n (omega arith))))
      (λ ne. let least = now.shows.least ∙ some_least n (omega (arith, now.kept.claims.most)) in
      on_second now look n m.least (finished v) (as_told now _ (told.1 ne) refl change) idle idle (λ u. omega arith)
      now.shows.least (sees n told.3.0 (ap way_in idle) told.4 least))

  pub claims_so : (has : List (ℕ × List ℕ)) (after : Seated) (st : _) → claimed st (v, has) (get_or s.words 0 0) after
      → IsChange s 0 ((get_or s.words 0 0 + 1) % 2 ^ 64) id after.0 s' → IsEvent shape m id claim s'
  claims_so has after st told change =
      let n : ℕ = get_or s.words 0 0 in let idle : v.climb ≡ None = told.3.1 in let made = now.shows.claims in
      let of : v.units ≡ shape.units = (now.kept.known id v now.at told.3.0).0 in
      let big : (n + 1) % 2 ^ 64 ≡ n + 1 = omega (arith, few_claims now.kept.claims, now.kept.small) in
      dite (dec_le shape.units n) (λ past. let c = as_told now _ (told.1 (omega arith)) big change in
      on_first now claim (n + 1) (m.claims + 1) (ended v) (desk_of (ended v)) c
      (quiet now 0 (n + 1) (omega arith) (ended v) c idle idle (λ u. omega arith)) (omega arith) refl
      (ends told.3.0 (ap way_in idle) told.4 told.5 (omega arith)))
      (λ more. let c = as_told now _ (told.0 (omega arith)).0 big change in
      on_first now claim (n + 1) (m.claims + 1) (holding v n) (desk_of (holding v m.claims)) c
      (quiet now 0 (n + 1) (omega arith) (holding v n) c idle idle (λ u. omega arith)) (omega arith)
      (ap (λ (x : ℕ). desk_of (holding v x)) made) (claims told.3.0 (ap way_in idle) told.4 told.5 (omega arith)))

  pub fails_so : (has : List (ℕ × List ℕ)) (after : Seated) (st : _) → failed st (v, has) (get_or s.words 1 0) after
      → IsChange s 1 (min (get_or s.words 1 0) st.first) id after.0 s' → IsEvent shape m id (fail st.first) s'
  fails_so has after st told change =
      let u : ℕ = st.first in let n : ℕ = get_or s.words 1 0 in let idle : v.climb ≡ None = told.2.1 in
      let near = named_below now.kept.claims id v now.at u (omega (arith, told.3)) in
      let small : u < nobody = omega (arith, near.1, now.kept.small) in
      let least : Some (lesser m.least u) ≡ least_of (min n u) = dite (ℕ_discrete n nobody) (λ e. grind arith)
      (λ ne. grind arith) in
      on_second now (fail u) (min n u) (Some (lesser m.least u)) (failing v u) (as_told now _ told.0 refl change)
      idle idle (λ x. omega arith) least (fails u told.2.0 (ap way_in idle) told.3)

  -- a unit of no tree is handed in
  pub hands_alone : {words_count slots_count : ℕ} → IsShape words_count slots_count shape → (u : ℕ) (hash : List ℕ)
      → ((t : Tree) → IsTreeOf shape t → has_unit t u ≡ false)
      → (has : List (ℕ × List ℕ)) (after : Seated) (st : _) (n : ℕ) → gave_told None u hash st (v, has) n after
      → IsChange s 0 (get_or s.words 0 0) id after.0 s' → IsEvent shape m id (hand u hash) s'
  hands_alone shaped u hash none has after st n told change =
      let k : ℕ = get_or s.words 0 0 in let idle : v.climb ≡ None = told.2.1 in let w : View = handed v u hash None in
      let c = as_told now _ told.0 refl change in
      let in_none : IsStart (runs_of shape) u None = λ n run e. let t = tree_at now.kept shaped n run e in
      sym (ap (λ (r : Run). in_run r u) t.3) ∙ none t.0 t.1 in on_first now (hand u hash) k m.claims w (desk_of w) c
      (quiet now 0 k (omega arith) w c idle refl (λ x. omega arith)) now.shows.claims refl
      (hands u hash None told.2.0 (ap way_in idle) told.3 in_none)

  -- ---- seats are split and joined
  reseated : (e : Event) (desks : List Desk)
      → IsStep shape.units (runs_of shape) m id (desk_of v) e (record m { desks = desks })
      → s'.words ≡ s.words → desks ≡ desks_of s'.views → ((slot : ℕ) → climbing slot s'.views ≡ climbing slot s.views)
      → ((u : ℕ) → times_given u s'.views ≡ times_given u s.views) → IsEvent shape m id e s'
  reseated e desks step words is still gives =
      let claims = now.shows.claims ∙ ap (λ (l : List ℕ). get_or l 0 0) (sym words) in
      let least = now.shows.least ∙ ap (λ (l : List ℕ). least_of (get_or l 1 0)) (sym words) in
      let sides : Sides now m.arrived = λ t is k i side two near. let slot : ℕ = slot_of t (middle k i) side in
      let covers = side_covers t (now.kept.trees t is).some_unit slot k (2 * i + side) (side_of t k i side two near) in
      let same = ready_same t s.words s'.words s.views s'.views
      (λ x pos h. ap (λ (l : List ℕ). get_or l (word_of t x) 0 / 2) words) (λ j h. gives (t.first + j))
      k (2 * i + side) covers in omega (arith, still slot, now.shows.sides t is k i side two near) in
      (_, as_seat now step, record { claims = claims; least = least; desks = is; sides = sides })

  pub splits_so : 2 ≤ v.room → v.climb ≡ None → s'.words ≡ s.words
      → s'.views ≡ set s.views id (keeping v) ++ fresh v ∷ [] → IsEvent shape m id split s'
  splits_so two idle words views =
      let sum : (g : View → ℕ) → total g s'.views + g v ≡ total g s.views + (g (keeping v) + g (fresh v))
      = λ g. rw views (split_sum shape now.kept id v now.at two g) in
      let a = map-append desk_of (set s.views id (keeping v)) (fresh v ∷ []) in
      let b = map-set desk_of s.views id (keeping v) in
      reseated split _ (splits two (ap way_in idle)) words (rw (now.shows.desks, views, a, b) refl)
      (λ slot. omega (arith, sum (climbs slot))) (λ u. omega (arith, sum (gave u)))

  pub joins_so : (other : ℕ) (w : View) → get_elem? s.views other ≡ some w → other ≢ id → IsFree v → IsFree w
      → s'.words ≡ s.words → s'.views ≡ set (set s.views id (both v w)) other spent → IsEvent shape m id (join other) s'
  joins_so other w at' apart free free' words views =
      let sum : (g : View → ℕ) → total g s'.views + (g w + g v) ≡ total g s.views + (g (both v w) + g spent)
      = λ g. rw views (join_sum shape now.kept id v now.at other w apart
      (set_else s.views id other (both v w) apart ∙ at') free.0 free'.1 g) in
      let there : get_elem? m.desks other ≡ some (desk_of w)
      = rw now.shows.desks (at_map desk_of s.views other w at') in
      let a = map-set desk_of (set s.views id (both v w)) other spent in
      let b = map-set desk_of s.views id (both v w) in
      reseated (join other) _ (joins other (desk_of w) free.0 (ap way_in free.1) free'.0 (ap way_in free'.1) apart
      (within m.desks other (desk_of w) there) (read m.desks other (desk_of w) spent_desk there)) words
      (rw (now.shows.desks, views, a, b) refl) (λ slot. omega (arith, sum (climbs slot), ap (climbs_to slot) free'.1))
      (λ u. omega (arith, sum (gave u), total-append (λ (g : GivenUnit). only u g.unit) v.given w.given))

-- ---- each step, and a history

pub each_step : {shape : Shape} {m : Machine} {s s' : State (List ℕ) View} {id : ℕ} {v : View}
    (now : Moment shape m s s' id v) {words slots : ℕ} → IsShape words slots shape → (has : List (ℕ × List ℕ))
    → (e : Event) → IsBoardStep shape s id v has e s' → IsEvent shape m id e s'
each_step now shaped has e (board.looks st after s'' told change) = looks_so now has after st told change
each_step now shaped has e (board.claims st after s'' told change) = claims_so now has after st told change
each_step {s = s} now shaped has e (board.hands st after s'' u hash none told change)
    = hands_alone now shaped u hash none has after st (get_or s.words 0 0) told change
each_step {s = s} now shaped has e (board.begins st after s'' u hash t is told change)
    = hands_tree now shaped t is u hash has after st (get_or s.words 0 0) told change
each_step {shape = shape} {s = s} {s' = s'} {id = id} {v = v} now shaped has e (board.arrives st after n told change) =
    let c : Climb = told.2 in let in_climb = told.3 in let here = told.0 c in_climb in let node = here.1 in
    let is : IsTreeOf shape c.tree = subst (ClimbsIn shape) in_climb (now.kept.known id v now.at told.1).1 in
    arrives_so now shaped c in_climb is node.0 node.1 told.1 has after (rw (sym node.2) here.0) (rw (sym node.2) change)
each_step {shape = shape} {id = id} {v = v} now shaped has e (board.seals st after s'' told change) =
    let c : Climb = told.3 in let in_climb = told.4 in let here = told.0 c in_climb in
    let is : IsTreeOf shape c.tree = subst (ClimbsIn shape) in_climb (now.kept.known id v now.at told.2).1 in
    seals_so now shaped told.2 c in_climb is here.1 has after here.0 change
each_step now shaped has e (board.fails st after s'' told change) = fails_so now has after st told change
each_step now shaped has e (board.splits s'' two idle same views) = splits_so now two idle same views
each_step now shaped has e (board.joins s'' other w at' apart free free' same views)
    = joins_so now other w at' apart free free' same views

-- a board opens as the machine begins
begins_so : (shape : Shape) (s : State (List ℕ) View) → Keeps shape s → get_or s.words 0 0 ≡ 0
    → get_or s.words 1 0 ≡ nobody → ((i : ℕ) → 1 < i → get_or s.words i 0 ≡ 0) → s.views ≡ first shape.units ∷ []
    → Shows shape start s
begins_so shape s kept none_claimed none_failed zeros views = record {
  claims = sym none_claimed;
  least = sym (no_least (get_or s.words 1 0) (omega arith));
  desks = ap desks_of (sym views);
  sides = λ t is k i side two near. grind (arith, node_word (kept.trees t is) k i side two near);
}

-- what happened to a board keeps the rule, and is a legal run
history_keeps : (shape : Shape) (events : List (ℕ × Event)) (s : State (List ℕ) View) → IsHistory shape events s
    → Keeps shape s
history_keeps shape events s (opened s'' kept none_claimed none_failed zeros views) = kept
history_keeps shape events s (stepped before s' s'' id v has e past at step kept) = kept
history_keeps shape events s (unchanged before s' s'' past kept words views) = kept

pub history_runs : (words slots : ℕ) (shape : Shape) → IsShape words slots shape
    → (events : List (ℕ × Event)) (s : State (List ℕ) View) → IsHistory shape events s → IsRunOf shape events s
history_runs words slots shape shaped events s (opened s'' kept none_claimed none_failed zeros views)
    = (start, begins, begins_so shape s kept none_claimed none_failed zeros views)
history_runs words slots shape shaped events s (stepped before s' s'' id v has e past at step kept) =
    let r = history_runs words slots shape shaped before s' past in let now : Moment shape r.0 s' s id v
    = record { kept = history_keeps shape before s' past; kept' = kept; shows = r.2; at = at } in
    let n = each_step now shaped has e step in
    (n.0, goes_on before r.0 n.0 id e r.1 (within r.0.desks id (desk_of v) (shown now)) n.1, n.2)
history_runs words slots shape shaped events s (unchanged before s' s'' past kept same_words same_views) =
    let r = history_runs words slots shape shaped events s' past in let shows : Shows shape r.0 s' = r.2 in
    let now : Shows shape r.0 s = record {
      claims = shows.claims ∙ ap (λ (l : List ℕ). get_or l 0 0) (sym same_words);
      least = shows.least ∙ ap (λ (l : List ℕ). least_of (get_or l 1 0)) (sym same_words);
      desks = shows.desks ∙ ap desks_of (sym same_views);
      sides = λ t is k i side two near. rw (same_words, same_views) (shows.sides t is k i side two near);
    } in (r.0, r.1, now)

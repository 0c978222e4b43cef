-- The machine alone: every legal run ends lawful.
use Rattle.{atomic_table.proofs.Lists.at_index, std.proofs.lemmas.List.get_or_default}
use Rattle.tor_board.proofs.{Finding.joined_same, Names.{Bool, Desk, Event, GivenUnit, IsGivenSide, IsLeastFailed}}
use Rattle.tor_board.proofs.Names.{IsLegalRun, IsStep, List, Machine, None, Option, Run, Side, Some, Way, [], ap, arith}
use Rattle.tor_board.proofs.Names.{begins, below, claims, cond, ends, fails, finished, get_elem?, get_or}
use Rattle.tor_board.proofs.Names.{get_or-set_other, goes_on, hands, inl, inr, is_given_side, joins, length, length-set}
use Rattle.tor_board.proofs.Names.{lesser, looks, meets, min, names, only, refl, rests, seals, sees, set, side_of, some}
use Rattle.tor_board.proofs.Names.{some-injective, some-ne-none, spent_desk, splits, start, subst, sym, times}
use Rattle.tor_board.proofs.Names.{times_arrived, times_failed, top_root, total, ℕ, ◌*◌, ◌++◌, ◌+◌, ◌-◌, ◌/◌, ◌<◌, ◌∙◌}
use Rattle.tor_board.proofs.{Names.{◌∷◌, ◌≡◌, ◌≤◌}, Seats.{stopped_both, stopped_parts}, Sums.{below-only, below-test}}
use Rattle.tor_board.proofs.Sums.{below_more, cond_le, set_all, snoc_all, total-append, total-set, total-without}
use Rattle.tor_board.{proofs.Sums.total_le, specs.Desks.{both, failing, first, fresh, handed, holding, joining}}
use Rattle.tor_board.specs.{Desks.{keeping, looking, rested, topped}, Machine.{Every, IsLawfulState, IsNodeSide}}
use Rattle.tor_board.specs.Machine.{arrivals_at, times_given}

abbrev pub side_at : ℕ → ℕ → ℕ → Side
side_at n k j = record { tree = n; level = k; index = j }

-- a node's arrivals are those of its sides
pub at_node : (n k i : ℕ) (sides : List Side) → arrivals_at sides n k i
    ≤ times_arrived (side_at n k (2 * i)) sides + times_arrived (side_at n k (2 * i + 1)) sides
at_node n k i [] = omega arith
at_node n k i (s ∷ ss) = grind (arith, at_node n k i ss)

abbrev pub gave : ℕ → Desk → ℕ
gave u d = total (λ (g : GivenUnit). only u g.unit) d.given

abbrev pub failures : ℕ → Desk → ℕ
failures u d = times u d.failed

abbrev pub mark : ℕ → ℕ → ℕ → ℕ
mark units made u = below (only u) (min made units)

-- the room of a seat that is done
abbrev pub stopped : Desk → ℕ
stopped d = cond d.done d.room 0

pub there : {X : Type 0} (l : List X) (i : ℕ) (d : X) → i < length l → get_elem? l i ≡ some (get_or l i d)
there l i d h = at_index l i (get_or l i d) h (get_or_default l i d (get_or l i d) h)

-- what every run keeps
abbrev pub ClimbOk : List Run → Option Way → Type 0
ClimbOk forest None = Unit {0}
ClimbOk forest (Some w) = get_elem? forest w.tree ≡ some w.run

abbrev pub AllOk : List Run → List Desk → Type 0
AllOk forest desks = (j : ℕ) (d : Desk) → get_elem? desks j ≡ some d → ClimbOk forest d.climb

-- where a side arrived, all its units were given
abbrev pub IsWhole : List Run → List Desk → List Side → Type 0
IsWhole forest desks arrived = (n : ℕ) (run : Run) → get_elem? forest n ≡ some run → (k j : ℕ)
    → is_given_side desks run k j (times_arrived (side_at n k j) arrived)

pub record Good (units : ℕ) (forest : List Run) (m : Machine) : Type 0 where
  pub named : (u : ℕ) → total (names u) m.desks ≡ mark units m.claims u
  pub bounded : m.claims ≤ units + total stopped m.desks
  pub rooms : total (λ (d : Desk). d.room) m.desks ≡ 256
  pub least : IsLeastFailed m.least m.desks
  pub whole : IsWhole forest m.desks m.arrived
  pub arrivals : length m.arrived ≡ total (λ (d : Desk). d.arrivals) m.desks
  pub climbs : AllOk forest m.desks
  pub real : Every (IsNodeSide forest) m.arrived

pub lawful : (units : ℕ) (forest : List Run) (m : Machine) → Good units forest m → IsLawfulState units forest m
lawful units forest m g = (
  record {
    named = λ u. g.named u ∙ below-test u (min m.claims units);
    few = omega (arith, g.bounded, g.rooms, total_le stopped (λ (d : Desk). d.room) m.desks (λ d. cond_le d.done _));
    failed = g.least;
    nodes = λ n run is k i inside. let l = times_arrived (side_at n k (2 * i)) m.arrived in
        let r = times_arrived (side_at n k (2 * i + 1)) m.arrived in
        (l, r, g.whole n run is k (2 * i), g.whole n run is k (2 * i + 1), at_node n k i m.arrived);
    seats = g.arrivals;
  },
  g.real,
)

pub begins_good : (units : ℕ) (forest : List Run) → Good units forest start
begins_good units forest = record {
  named = λ u. omega (arith, (below-only u (min 0 units)).1 (omega arith));
  bounded = omega arith;
  rooms = refl;
  least = inl (refl, λ u. refl);
  whole = λ n run is k j. inl refl;
  arrivals = refl;
  climbs = snoc_all (λ (d : Desk). ClimbOk forest d.climb) [] first (λ j d e. absurd (some-ne-none d (sym e))) tt;
  real = tt;
}

pub least_same : (least : Option ℕ) (before after : List Desk)
    → ((u : ℕ) → times_failed u after ≡ times_failed u before) → IsLeastFailed least before → IsLeastFailed least after
least_same least before after same (inl p) = inl (p.0, λ u. same u ∙ p.1 u)
least_same least before after same (inr p) = inr (p.0, p.1, omega (arith, p.2, same p.0), λ x h. same x ∙ p.3 x h)

-- once a unit more has failed
pub fewest : (before after : List Desk) (u : ℕ) → ((x : ℕ) → times_failed x after ≡ times_failed x before + only x u)
    → (l : Option ℕ) → IsLeastFailed l before → IsLeastFailed (Some (lesser l u)) after
fewest before after u now l (inl p) = grind arith
fewest before after u now l (inr p) = grind arith

-- ---- an event keeps that

module _ (units : ℕ) (forest : List Run) (m : Machine) (good : Good units forest m) where
  -- seats that are two or one, and together what they were
  shared : (desks : List Desk) → ((u : ℕ) → total (names u) desks ≡ total (names u) m.desks)
      → total stopped m.desks ≤ total stopped desks
      → total (λ (d : Desk). d.room) desks ≡ total (λ (d : Desk). d.room) m.desks
      → ((u : ℕ) → times_failed u desks ≡ times_failed u m.desks)
      → ((u : ℕ) → times_given u m.desks ≤ times_given u desks)
      → total (λ (d : Desk). d.arrivals) desks ≡ total (λ (d : Desk). d.arrivals) m.desks → AllOk forest desks
      → Good units forest (record m { desks = desks })
  shared desks named stop rooms fails' gives arrivals climbs = record {
    named = λ u. named u ∙ good.named u;
    bounded = omega (arith, good.bounded);
    rooms = rooms ∙ good.rooms;
    least = least_same m.least m.desks desks fails' good.least;
    whole = λ n run is k j. grind arith;
    arrivals = good.arrivals ∙ sym arrivals;
    climbs = climbs;
    real = good.real;
  }

  -- one seat's event
  module _ (seat : ℕ) (here : seat < length m.desks) where
    abbrev old : Desk
    old = get_or m.desks seat spent_desk

    part : (g : Desk → ℕ) (d : Desk) → total g (set m.desks seat d) + g old ≡ total g m.desks + g d
    part g d = total-set g m.desks seat old d (there m.desks seat spent_desk here)

    old_ok : ClimbOk forest old.climb
    old_ok = good.climbs seat old (there m.desks seat spent_desk here)

    set_ok : (d : Desk) → ClimbOk forest d.climb → AllOk forest (set m.desks seat d)
    set_ok d ok = set_all (λ (d : Desk). ClimbOk forest d.climb) m.desks seat d good.climbs ok

    changed : (made : ℕ) (least : Option ℕ) (arrived : List Side) (d : Desk)
        → ((u : ℕ) → names u d + mark units m.claims u ≡ names u old + mark units made u) → d.room ≡ old.room
        → ((s s' : ℕ) → m.claims ≤ units + s → s' + stopped old ≡ s + stopped d → made ≤ units + s')
        → IsLeastFailed least (set m.desks seat d) → IsWhole forest (set m.desks seat d) arrived
        → length arrived + old.arrivals ≡ length m.arrived + d.arrivals → ClimbOk forest d.climb
        → Every (IsNodeSide forest) arrived
        → Good units forest (record { claims = made; least = least; arrived = arrived; desks = set m.desks seat d })
    changed made least arrived d named room bound failed whole arrivals climb real = record {
      named = λ u. omega (arith, part (names u) d, good.named u, named u);
      bounded = bound (total stopped m.desks) (total stopped (set m.desks seat d)) good.bounded (part stopped d);
      rooms = omega (arith, part (λ (d : Desk). d.room) d, good.rooms);
      least = failed;
      whole = whole;
      arrivals = omega (arith, part (λ (d : Desk). d.arrivals) d, good.arrivals);
      climbs = set_ok d climb;
      real = real;
    }

    same_least : (d : Desk) → d.failed ≡ old.failed → IsLeastFailed m.least (set m.desks seat d)
    same_least d same = grind (arith, part)

    same_whole : (d : Desk) → ((u : ℕ) → gave u old ≤ gave u d) → IsWhole forest (set m.desks seat d) m.arrived
    same_whole d more n run is k j = grind (arith, part, more)

    -- once a side more arrived, all of whose units were given
    more_whole : (d : Desk) → ((u : ℕ) → gave u old ≡ gave u d) → (w : Way) → get_elem? forest w.tree ≡ some w.run
        → IsGivenSide m.desks w.run w.level w.index → times_arrived (side_of w) m.arrived ≡ 0
        → IsWhole forest (set m.desks seat d) (side_of w ∷ m.arrived)
    more_whole d same w mine given first' n run is k j = grind (arith, side_at n k j, some-injective, part, same)

    tree_of : (w : Way) → old.climb ≡ Some w → get_elem? forest w.tree ≡ some w.run
    tree_of w is = subst (λ (x : Option Way). ClimbOk forest x) is old_ok

    -- of an event that claims nothing
    quiet : (least : Option ℕ) (arrived : List Side) (d : Desk) → ((u : ℕ) → names u d ≡ names u old)
        → d.room ≡ old.room → stopped old ≤ stopped d → IsLeastFailed least (set m.desks seat d)
        → IsWhole forest (set m.desks seat d) arrived
        → length arrived + old.arrivals ≡ length m.arrived + d.arrivals → ClimbOk forest d.climb
        → Every (IsNodeSide forest) arrived
        → Good units forest (record { claims = m.claims; least = least; arrived = arrived; desks = set m.desks seat d })
    quiet least arrived d named room stop
        = changed m.claims least arrived d (λ u. omega (arith, named u)) room (λ s s' le e. omega arith)

    -- and at which no side arrives, and no unit fails
    calm : (d : Desk) → ((u : ℕ) → names u d ≡ names u old) → d.room ≡ old.room → stopped old ≤ stopped d
        → d.failed ≡ old.failed → ((u : ℕ) → gave u old ≤ gave u d) → d.arrivals ≡ old.arrivals → ClimbOk forest d.climb
        → Good units forest (record m { desks = set m.desks seat d })
    calm d named room stop failed gives arrivals climb = quiet m.least m.arrived d named room stop (same_least d failed)
        (same_whole d gives) (omega arith) climb good.real

    handed_good : (u : ℕ) (hash : List ℕ) (climb : Option Way) → 0 < times u old.held → ClimbOk forest climb
        → Good units forest (record m { desks = set m.desks seat (handed old u hash climb) })
    handed_good u hash climb has ok = calm (handed old u hash climb)
        (λ x. omega (arith, total-without (only x) u old.held has)) refl (omega arith) refl (λ x. omega arith) refl ok

    step_good : (e : Event) (n : Machine) → IsStep units forest m seat old e n → Good units forest n
    step_good e n (looks some_room idle busy none)
        = calm (looking old) (λ u. refl) refl (omega arith) refl (λ u. omega arith) refl old_ok
    step_good e n (sees u some_room idle busy is)
        = calm (finished old) (λ u. refl) refl (cond_le old.done old.room) refl (λ u. omega arith) refl old_ok
    step_good e n (claims some_room idle busy saw more) = let d : Desk = holding old m.claims in
        changed (m.claims + 1) m.least m.arrived d (λ u. grind (arith, below_more (only u) m.claims)) refl
        (λ s s' le e. omega arith) (same_least d refl) (same_whole d (λ u. omega arith)) refl old_ok good.real
    step_good e n (ends some_room idle busy saw past) = let d : Desk = finished old in
        let idle' : stopped old ≡ 0 = ap (λ (b : Bool). cond b old.room 0) busy in
        changed (m.claims + 1) m.least m.arrived d (λ u. grind arith) refl
        (λ s s' le e. omega arith) (same_least d refl) (same_whole d (λ u. omega arith)) refl old_ok good.real
    step_good e n (hands u hash None some_room idle has begin) = handed_good u hash None has tt
    step_good e n (hands u hash (Some w) some_room idle has begin) = handed_good u hash (Some w) has begin.0
    step_good e n (rests w some_room is near given first' beside) =
        let d : Desk = rested old in let tree = tree_of w is in
        quiet m.least (side_of w ∷ m.arrived) d (λ u. refl) refl (omega arith) (same_least d refl)
        (more_whole d (λ u. refl) w tree given first') (omega arith) tt ((w.run, tree, near), good.real)
    step_good e n (meets w up some_room is near given first' beside same_tree same_run next) =
        let d : Desk = joining old up in let tree = tree_of w is in
        let same = λ (u : ℕ). joined_same (λ (g : GivenUnit). only u g.unit) (λ x h a b. refl) old.given in
        quiet m.least (side_of w ∷ m.arrived) d (λ u. omega (arith, same u)) refl (omega arith) (same_least d refl)
        (more_whole d (λ u. sym (same u)) w tree given first') (omega arith) (rw (same_tree, same_run) tree)
        ((w.run, tree, near), good.real)
    step_good e n (seals w some_room is high met') = calm (topped old w.tree (top_root m.desks w.run)) (λ u. refl) refl
        (omega arith) refl (λ u. omega arith) refl tt
    step_good e n (fails u some_room idle has) = let d : Desk = failing old u in
        quiet (Some (lesser m.least u)) m.arrived d (λ x. omega (arith, total-without (only x) u old.held has)) refl
        (omega arith)
        (fewest m.desks (set m.desks seat d) u (λ x. omega (arith, part (failures x) d)) m.least good.least)
        (same_whole d (λ u. omega arith)) refl old_ok good.real
    step_good e n (splits two idle) = let d : Desk = keeping old in let f : Desk = fresh old in
        let two' : (g : Desk → ℕ) → total g (set m.desks seat d ++ f ∷ []) + g old ≡ total g m.desks + g d + g f
        = λ g. omega (arith, part g d, total-append g (set m.desks seat d) (f ∷ [])) in
        let parts = stopped_parts old.done (old.room - old.room / 2) (old.room / 2) old.room (omega arith) in
        shared (set m.desks seat d ++ f ∷ []) (λ u. omega (arith, two' (names u))) (omega (arith, two' stopped))
        (omega (arith, two' (λ (d : Desk). d.room))) (λ u. omega (arith, two' (failures u)))
        (λ u. omega (arith, two' (gave u))) (omega (arith, two' (λ (d : Desk). d.arrivals)))
        (snoc_all (λ (d : Desk). ClimbOk forest d.climb) (set m.desks seat d) f (set_ok d old_ok) tt)
    step_good e n (joins other w some_room idle some_room' idle' apart inside is) =
        let d : Desk = both old w in let l : List Desk = set m.desks seat d in
        let at_other : get_elem? l other ≡ some w = there l other spent_desk (omega (arith, length-set m.desks seat d))
        ∙ ap some (get_or-set_other m.desks seat other d spent_desk apart ∙ is) in let two' : (g : Desk → ℕ)
        → total g (set l other spent_desk) + g w + g old ≡ total g m.desks + g d + g spent_desk
        = λ g. omega (arith, part g d, total-set g l other w spent_desk at_other) in
        let given = λ (u : ℕ). total-append (λ (g : GivenUnit). only u g.unit) old.given w.given in
        let failed = λ (u : ℕ). total-append (only u) old.failed w.failed in shared (set l other spent_desk)
        (λ u. omega (arith, two' (names u), total-append (only u) old.held w.held, given u, failed u))
        (omega (arith, two' stopped, stopped_both old.done w.done old.room w.room))
        (omega (arith, two' (λ (d : Desk). d.room))) (λ u. omega (arith, two' (failures u), failed u))
        (λ u. omega (arith, two' (gave u), given u)) (omega (arith, two' (λ (d : Desk). d.arrivals)))
        (set_all (λ (d : Desk). ClimbOk forest d.climb) l other spent_desk (set_ok d old_ok) tt)

pub run_good : (units : ℕ) (forest : List Run) (events : List (ℕ × Event)) (m : Machine)
    → IsLegalRun units forest events m → Good units forest m
run_good units forest events m (begins) = begins_good units forest
run_good units forest events m (goes_on before m' n seat e run here step)
    = step_good units forest m' (run_good units forest before m' run) seat here e n step

-- Where a climbing seat stands, where it stands after an arrival, and what a give shows.
use Rattle.{std.specs.Prelude.{IfSome, MatchOption}, tor_board.proofs.Finding.{IsBelow, at_number}}
use Rattle.tor_board.proofs.Names.{AtMostOneSpare, Board, Climb, Fits, GivenUnit, IsAtTop, IsClimbing, IsLow, IsShape}
use Rattle.tor_board.proofs.Names.{IsSide, IsTreeOf, LastGiveIsIn, List, None, Option, Run, Seated, Shape, Some, Tree}
use Rattle.tor_board.proofs.Names.{View, [], add-zero, ap, arith, at_map, climb_at, climb_from, desk_of, get_elem?}
use Rattle.tor_board.proofs.Names.{get_or, handed, has_unit, in_run, joined_view, met, node_of, raised, refl, rest}
use Rattle.tor_board.proofs.Names.{run_of, slot_at, some, subst, suc, sym, true, turned, ℕ, ◌*◌, ◌++◌, ◌+◌, ◌-◌, ◌/◌}
use Rattle.tor_board.proofs.Names.{◌<◌, ◌^◌, ◌∙◌, ◌∷◌}
use Rattle.tor_board.proofs.{Names.{◌≡◌, ◌≢◌, ◌≤◌}, Rising.{goal_of, lands, side_low}, Sums.mapped, Trees.has_unit-true}
use Rattle.tor_board.{proofs.Trees.{node_inside, side_covers}, specs.Desks.{after_give, told}, specs.Seats.IsClimbOf}
use Rattle.tor_board.specs.{Seats.forest_of, steps.Climbing.{joined_by, rested_view, topped_view}}

-- the seat knows v, and has those slots
abbrev IsSeat : Seated → View → List (ℕ × List ℕ) → Type 0
IsSeat m v slots = ◌≡◌ {A = Seated} m (v, slots)

-- two hashes are joined in the order of their sides
pub met_left : (side : ℕ) (a b : List ℕ) → side ≡ 0 → node_of a b ≡ met side a b
met_left side a b left = grind arith

pub met_right : (side : ℕ) (a b : List ℕ) → side ≢ 0 → node_of b a ≡ met side a b
met_right side a b right = grind arith

-- the tree is low, and its words and slots are small
pub tree_facts : {words slots : ℕ} {shape : Shape} → IsShape words slots shape → (t : Tree) → IsTreeOf shape t
    → IsLow t × (t.offset ≤ 2 ^ 62)
tree_facts shaped t is = let f = shaped.fits t is in ((f.tall, f.low), omega (arith, f.among, shaped.small))

module _ {units words slots : ℕ} {t : Tree} (fits : Fits units words slots t) where
  some_unit : 0 < t.count
  some_unit = omega (arith, fits.several)

  -- from a spot with a unit a hash rises to a side, or the top
  pub lands_at : (l i : ℕ) → l ≤ t.height → i * 2 ^ l < t.count → (up next : ℕ) → up ≡ (goal_of t l i).0
      → next ≡ (goal_of t l i).1
      → IsSide t (slot_at t up next) up next × (up ≤ t.height) × (next * 2 ^ up < t.count) × (l ≤ up)
  lands_at l i low covers up next up_is next_is =
      let goal = lands t some_unit fits.tall l i low covers in let slot : ℕ = slot_at t up next in
      let side : IsSide t (slot_at t up next) up next = rw (up_is, next_is) goal.1 in
      let covered = side_covers t some_unit slot up next side in
      (side, side_low t fits.tall slot up next side, covered, omega (arith, goal.2))

  -- and the seat climbs there
  pub climbs_on : (l i : ℕ) → l ≤ t.height → i * 2 ^ l < t.count → (hash : List ℕ) (spare : List (ℕ × List ℕ))
      → (up next : ℕ) → up ≡ (goal_of t l i).0 → next ≡ (goal_of t l i).1
      → (top : List ℕ) → top ≡ raised t (t.height - l) l i hash
      → (v : View) → v.climb ≡ Some (climb_from t l i hash spare) → LastGiveIsIn t v.given
      → AtMostOneSpare (climb_at t up next top spare) → (m : Seated)
      → IsSeat m v (spare ++ (slot_at t up next, top) ∷ []) → IsClimbing t up next top m
  climbs_on l i low covers hash spare up next up_is next_is top top_is v in_climb giving left m e =
      let same : climb_from t l i hash spare ≡ climb_at t up next top spare = rw (up_is, next_is, top_is) refl in
      record {
        spare = spare;
        is = ap (λ (m : Seated). m.0.climb) e ∙ (in_climb ∙ ap Some same);
        carried = ap (λ (m : Seated). m.1) e;
        side = (lands_at l i low covers up next up_is next_is).0;
        giving = subst (λ (m : Seated). LastGiveIsIn t m.0.given) (sym e) giving;
        left = left;
      }

  module _ {level index : ℕ} {hash : List ℕ} {m : Seated} (cl : IsClimbing t level index hash m) where
    pub covers_of : (level ≤ t.height) × (index * 2 ^ level < t.count)
    covers_of = let slot : ℕ = slot_at t level index in
        (side_low t fits.tall slot level index cl.side, side_covers t some_unit slot level index cl.side)

    pub below_of : level < t.height → IsBelow (climb_at t level index hash cl.spare)
    below_of low = record {
      slot = grind arith;
      inside = grind arith;
      low = low;
    }

    pub top_of : t.height ≤ level → IsAtTop (climb_at t level index hash cl.spare)
    top_of high = grind (arith, covers_of.0)

    -- a node, one level up
    pub node_place : level < t.height → index / 2 * 2 ^ (level + 1) < t.count
    node_place low = let e : suc level ≡ level + 1 = omega arith in
        subst (λ (x : ℕ). index / 2 * 2 ^ x < t.count) e (node_inside level (index / 2) t.count (below_of low).inside)

    pub next_of : (low : level < t.height) (up next : ℕ) → up ≡ (goal_of t (level + 1) (index / 2)).0
        → next ≡ (goal_of t (level + 1) (index / 2)).1
        → IsSide t (slot_at t up next) up next × (up ≤ t.height) × (next * 2 ^ up < t.count) × (level + 1 ≤ up)
    next_of low = lands_at (level + 1) (index / 2) (omega arith) (node_place low)

-- ---- the slots that a seat has, as it reads one and writes the other

pub turned_seat : {m m' : Seated} {v : View} {o a s : ℕ} {x z y : List ℕ}
    → IsSeat m v ((o, x) ∷ (a, z) ∷ []) → m.1 ≡ (s, y) ∷ rest m.1 → IsSeat m' m.0 (turned ((s, y) ∷ rest m.1))
    → (y ≡ x) × IsSeat m' v ((a, z) ∷ (o, x) ∷ [])
turned_seat {m = m} {s = s} {y = y} e seen turns =
    let same = ap (λ (l : List (ℕ × List ℕ)). (get_or l 0 (s, y)).1) (sym seen ∙ ap (λ (n : Seated). n.1) e) in
    (same, turns ∙ ((λ i. (m.0, turned (sym seen i))) ∙ ap (λ (n : Seated). (n.0, turned n.1)) e))

pub stored_seat : {m m' : Seated} {v : View} {o a k : ℕ} {x z top : List ℕ}
    → IsSeat m v ((a, z) ∷ (o, x) ∷ []) → IsSeat m' m.0 (turned ((k, top) ∷ rest m.1))
    → IsSeat m' v ((o, x) ∷ (k, top) ∷ [])
stored_seat {k = k} {top = top} e stored = stored ∙ ap (λ (n : Seated). (n.0, turned ((k, top) ∷ rest n.1))) e

-- the slot in front has that number
pub at_slot : {m : Seated} {v : View} {a k : ℕ} {z : List ℕ} {l : List (ℕ × List ℕ)}
    → IsSeat m v ((a, z) ∷ l) → a ≡ k → m.1 ≡ (k, z) ∷ rest m.1
at_slot {z = z} e same = ap (λ (n : Seated). n.1) e ∙ (λ i. (same i, z) ∷ rest (sym e i).1)

-- ---- second arrivals, counted

by_zero : (gs : List GivenUnit) → gs ≡ joined_by 0 gs
by_zero [] = refl
by_zero (g ∷ gs) = λ i. record g { joined = sym (add-zero g.joined) i } ∷ gs

pub joined_none : (v : View) → v ≡ joined_view 0 v v.climb
joined_none v = λ i. record v { given = by_zero v.given i; arrivals = sym (add-zero v.arrivals) i }

-- what a seat shows after a give that came first to a node, told a top, or was of a unit of no tree
after_rested : (j : ℕ) (v : View) (u : ℕ) (hash : List ℕ) (c : Option Climb)
    → desk_of (rested_view j (handed v u hash c)).0 ≡ after_give (desk_of v) u hash j (j + 1) None
after_rested j v u hash c =
    let e : 0 + j ≡ j = omega arith in let a : v.arrivals + j + 1 ≡ v.arrivals + (j + 1) = omega arith in
    λ i. record (after_give (desk_of v) u hash j (j + 1) None) {
      given = record { unit = u; hash = hash; joined = e i } ∷ v.given;
      arrivals = a i;
    }

-- a give of no climb
pub given_alone : (v : View) (m : Seated) (u : ℕ) (hash : List ℕ) → IsSeat m (handed v u hash None) []
    → desk_of m.0 ≡ after_give (desk_of v) u hash 0 0 None
given_alone v m u hash is = ap (λ (n : Seated). desk_of n.0) is
    ∙ (λ i. record (desk_of (handed v u hash None)) { arrivals = sym (add-zero v.arrivals) i })

-- what a climb told of the seat, as one fact
pub given_after : (b : Board) (t : Tree) → IsTreeOf b.shape t → (top : Option (ℕ × List ℕ)) (j levels : ℕ)
    → t.height ≤ levels → MatchOption top (j + 1 ≤ t.height) (λ _. j ≤ t.height) → IfSome top (λ p. p.0 ≡ t.number)
    → (v v' : View) (m : Seated) (u : ℕ) (hash : List ℕ) (c : Climb) → t.first ≤ u → u < t.first + t.count
    → v' ≡ handed v u hash (Some c) → MatchOption top (m ≡ rested_view j v') (λ t. m ≡ topped_view j t v')
    → (x : ℕ) × (desk_of m.0 ≡ after_give (desk_of v) u hash j x top) × (x ≤ levels) × IsClimbOf b u j x top
given_after b t of None j levels low few number v v' m u hash c from to is told =
    let shown = ap (λ (n : Seated). desk_of n.0) told
    ∙ (ap (λ (w : View). desk_of (rested_view j w).0) is ∙ after_rested j v u hash (Some c)) in
    (j + 1, shown, omega arith, (omega arith, λ n run there inside. refl))
given_after b t of (Some top) j levels low few number v v' m u hash c from to is told
    = grind (arith, ap (get_elem? (forest_of b)) number ∙ at_map run_of b.shape.trees.items t.number t of)

-- a unit of no tree is in no run of the forest
pub in_no_run : {words slots : ℕ} (b : Board) → IsShape words slots b.shape → (u : ℕ)
    → ((t : Tree) → IsTreeOf b.shape t → (j : ℕ) → j < t.count → u ≢ t.first + j)
    → (n : ℕ) (run : Run) → get_elem? (forest_of b) n ≡ some run → in_run run u ≡ true → ⊥
in_no_run b shaped u none n run there inside = let m = mapped run_of b.shape.trees.items n run there in
    let has : has_unit m.0 u ≡ true = ap (λ (r : Run). in_run r u) m.2 ∙ inside in
    let among = has_unit-true m.0 u has in none m.0 (at_number shaped n m.0 m.1) (u - m.0.first)
    (omega (arith, among.0, among.1)) (omega (arith, among.0))

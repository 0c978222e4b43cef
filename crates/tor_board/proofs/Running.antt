-- The rule makes the words, the slots and the views lawful.
use Rattle.tor_board.proofs.{Closing.{spot_root, whole_root}, Finding.at_number, Moves.few_claims, Names.Desk}
use Rattle.tor_board.proofs.Names.{GivenUnit, IsGivenSide, IsLeastFailed, IsRoot, IsShape, IsSide, IsTreeOf, Keeps}
use Rattle.tor_board.proofs.Names.{KeepsClaims, KeepsTree, List, None, Opt, Run, Shape, Some, State, Tree, View}
use Rattle.tor_board.proofs.Names.{WasGiven, [], ap, arith, cond, dec_le, desk_of, desks_of, dite, drop, failures}
use Rattle.tor_board.proofs.Names.{get_elem?, get_or, inl, inr, is_given_side, le-ltb, least_of, length, middle, min}
use Rattle.tor_board.proofs.Names.{named, names, nobody, only, ready, refl, runs_of, slot_of, some, some-injective}
use Rattle.tor_board.proofs.Names.{some-ne-none, subst, suc, sym, times, times_failed, top_root, total, word_of, zero}
use Rattle.tor_board.proofs.{Names.{ℕ, ℕ_discrete, ◌*◌, ◌+◌, ◌<◌, ◌^◌, ◌∙◌, ◌∷◌, ◌≡◌, ◌≤◌}, Steps.{gave, weight}}
use Rattle.tor_board.proofs.Sums.{below-only, below-test, mapped, total-append, total-map, total_le}
use Rattle.tor_board.proofs.Trees.{arrived_once, node_ready, node_word, ready_chain, ready_node, ready_once, side_of}
use Rattle.tor_board.{proofs.Trees.{side_once, twice, zero_more}, specs.Climb.run_of, specs.Machine.all_given}
use Rattle.tor_board.{proofs.Names.{Machine, Shows, out, tops_of}, specs.Stepping.AreHome}
use Rattle.{tor_board.specs.Running.{IsRunning, IsTreeLawful, arrivals_in, offset_at}, tor_merkle.specs.Subtree.height}

pub some_least : (x : ℕ) → x < nobody → least_of x ≡ Some x
some_least x h = grind arith

pub no_least : (x : ℕ) → nobody ≤ x → least_of x ≡ None
no_least x h = ap (λ b. cond b (Some x) None) (le-ltb x nobody h)

-- the claims and the failures
module _ {units made least : ℕ} {views : List View} (k : KeepsClaims units made least views) (small : units ≤ 2 ^ 62)
  where
    shown_failed : (u : ℕ) → times_failed u (desks_of views) ≡ total (failures (only u)) views
    shown_failed u = total-map (λ (d : Desk). times u d.failed) desk_of views

    none_past : (u : ℕ) → units ≤ u → total (failures (only u)) views ≡ 0
    none_past u past = let a = k.once (only u) in let b = (below-only u (min made units)).1 (omega arith) in
        let d = total_le (failures (only u)) (named (only u)) views (λ v. omega arith) in omega arith

    least_is : IsLeastFailed (least_of least) (desks_of views)
    least_is = dite (dec_le nobody least)
        (λ le. let none : (u : ℕ) → times_failed u (desks_of views) ≡ 0 = λ u. shown_failed u ∙ dite (dec_le least u)
        (λ h. none_past u (omega arith)) (λ h. k.spared u (omega arith)) in inl (no_least least le, none))
        (λ gt. let h : least < nobody = omega arith in
        let spared = λ (x : ℕ) (lt : x < least). shown_failed x ∙ k.spared x lt in
        inr (least, some_least least h, omega (arith, k.attained h, shown_failed least), spared))

module _ {t : Tree} {words : List ℕ} {homes : List (Opt (List ℕ))} {views : List View}
    (kept : KeepsTree t words homes views) where
  -- a spot that is ready has all its units given
  pub ready_given : (k j : ℕ) → 0 < ready t words views k j → IsGivenSide (desks_of views) (run_of t) k j
  ready_given zero j some_ready i low high inside = let e : i ≡ j = omega arith in
      let shown = total-map (λ (d : Desk). total (λ (g : GivenUnit). only (t.first + j) g.unit) d.given) desk_of views
      in rw e (omega arith)
  ready_given (suc k) j some_ready i low high inside = let a = twice k j in let b = twice k (j + 1) in
      let e : 2 * (j + 1) ≡ 2 * j + 1 + 1 = omega arith in let c = ap (λ (x : ℕ). x * 2 ^ k) e in
      dite (dec_le t.count (middle k j))
      (λ le. ready_given k (2 * j) (omega (arith, ready_chain t words views k j le)) i
      (omega arith) (omega arith) inside) (λ gt. let near : middle k j < t.count = omega arith in
      let node = ready_node t words views k j near in let sum = node_ready kept k j near in
      let l = ready_once kept k (2 * j) (omega arith) in let r = ready_once kept k (2 * j + 1) near in
      dite (dec_le ((2 * j + 1) * 2 ^ k) i)
      (λ right. ready_given k (2 * j + 1) (omega arith) i right (omega arith) inside)
      (λ left. ready_given k (2 * j) (omega arith) i (omega arith) (omega arith) inside))

  arrived_given : (slot k j : ℕ) → IsSide t slot k j → kept.arrived slot ≡ 1
      → IsGivenSide (desks_of views) (run_of t) k j
  arrived_given slot k j is one = ready_given k j (omega (arith, kept.flow slot k j is))

  side_given : (slot k j : ℕ) → IsSide t slot k j → is_given_side (desks_of views) (run_of t) k j (kept.arrived slot)
  side_given slot k j is = dite (ℕ_discrete (kept.arrived slot) 0) (λ e. inl e)
      (λ ne. let one : kept.arrived slot ≡ 1 = omega (arith, arrived_once kept slot k j is) in
      inr (one, arrived_given slot k j is one))

  node_given : (k i : ℕ) → middle k i < t.count
      → (left : ℕ) × (right : ℕ) × is_given_side (desks_of views) (run_of t) k (2 * i) left
      × is_given_side (desks_of views) (run_of t) k (2 * i + 1) right
      × (get_or words (word_of t (middle k i)) 0 ≤ left + right)
  node_given k i near = let l : ℕ = slot_of t (middle k i) 0 in let r : ℕ = slot_of t (middle k i) 1 in
      let left = subst (λ (x : ℕ). is_given_side (desks_of views) (run_of t) k x (kept.arrived l))
      (sym (zero_more (2 * i))) (side_given l k (2 * i + 0) (side_of t k i 0 (omega arith) near)) in
      let right = side_given r k (2 * i + 1) (side_of t k i 1 (omega arith) near) in
      (kept.arrived l, kept.arrived r, left, right, omega (arith, node_word kept k i 0 (omega arith) near))

-- the hashes that all seats gave
all_total : (g : GivenUnit → ℕ) (views : List View)
    → total g (all_given (desks_of views)) ≡ total (λ (v : View). total g v.given) views
all_total g [] = refl
all_total g (v ∷ vs) = omega (arith, total-append g v.given (all_given (desks_of vs)), all_total g vs)

module _ {shape : Shape} {s : State (List ℕ) View} (kept : Keeps shape s) where
  abbrev all : List GivenUnit
  all = all_given (desks_of s.views)

  all_weight : (f : ℕ → List ℕ → ℕ) → total (weight f) s.views ≡ total (λ (g : GivenUnit). f g.unit g.hash) all
  all_weight f = sym (all_total (λ (g : GivenUnit). f g.unit g.hash) s.views)

  given_once : (u : ℕ) → total (λ (g : GivenUnit). only u g.unit) all ≤ 1
  given_once u = let a = all_total (λ (g : GivenUnit). only u g.unit) s.views in let b = kept.claims.once (only u) in
      let d = (below-only u (min (get_or s.words 0 0) shape.units)).0 in
      let e = total_le (gave u) (named (only u)) s.views (λ v. omega arith) in omega arith

  tree_lawful : (t : Tree) → IsTreeOf shape t → IsTreeLawful t s
  tree_lawful t is = let k = kept.trees t is in record {
    arrived = k.arrived;
    flow = k.flow;
    word = k.word;
    once = arrived_once k;
    given = arrived_given k;
    home = λ slot l j side one none. let h = k.home slot l j side none in
        grind (arith, spot_root s.views all all_weight given_once t l j h.0 (h.2 one));
    sealed = k.tops;
  }

  -- the root of a whole tree
  pub top_is : (t : Tree) → t.height ≡ height t.count → (hash : List ℕ) → IsRoot (WasGiven s.views) t t.height 0 hash
      → hash ≡ top_root (desks_of s.views) (run_of t)
  top_is = whole_root s.views all all_weight given_once

  word_sum : (ws : List ℕ) → 1 < length ws
      → total (λ (n : ℕ). n) ws ≡ get_or ws 0 0 + get_or ws 1 0 + total (λ (n : ℕ). n) (drop 2 ws)
  word_sum [] long = omega arith
  word_sum (x ∷ []) long = omega arith
  word_sum (x ∷ (y ∷ ws)) long = omega arith

  -- a tree of the shape, by its number
  pub tree_at : {words slots : ℕ} → IsShape words slots shape → (n : ℕ) (run : Run)
      → get_elem? (runs_of shape) n ≡ some run
      → (t : Tree) × IsTreeOf shape t × (t.number ≡ n) × (run_of t ≡ run) × (offset_at shape.trees.items n ≡ t.offset)
  tree_at shaped n run e =
      let m = mapped run_of shape.trees.items n run e in let is = offset_is shape.trees.items n m.0 m.1 in
      (m.0, at_number shaped n m.0 m.1, shaped.numbered n m.0 m.1, m.2, is) where
        offset_is : (l : List Tree) (n : ℕ) (t : Tree) → get_elem? l n ≡ some t → offset_at l n ≡ t.offset
        offset_is [] n t e = absurd (some-ne-none t (sym e))
        offset_is (x ∷ l) zero t e = ap (λ (y : Tree). y.offset) (some-injective x t e)
        offset_is (x ∷ l) (suc n) t e = offset_is l n t e

  nodes : {words slots : ℕ} → IsShape words slots shape → (n : ℕ) (run : Run) → get_elem? (runs_of shape) n ≡ some run
      → (k i : ℕ) → middle k i < run.count
      → (left : ℕ) × (right : ℕ) × is_given_side (desks_of s.views) run k (2 * i) left
      × is_given_side (desks_of s.views) run k (2 * i + 1) right × (arrivals_in shape s.words n k i ≤ left + right)
  nodes shaped n run e k i near = grind (arith, tree_at shaped n run e, node_given)

  pub running : {words slots : ℕ} → IsShape words slots shape → IsRunning shape s
  running shaped = record {
    lawful = record {
      named = λ u. total-map (names u) desk_of s.views ∙ (kept.claims.once (only u) ∙ below-test u _);
      few = few_claims kept.claims;
      failed = least_is kept.claims kept.small;
      nodes = nodes shaped;
      seats = let a = kept.arrivals in let b = word_sum s.words kept.long in
          let e = total-map (λ (d : Desk). d.arrivals) desk_of s.views in omega arith;
    };
    unused = kept.unused;
    slots = tree_lawful;
  }

  -- what has arrived by the machine has arrived at its slot
  pub homes : {words slots : ℕ} → IsShape words slots shape → (m : Machine) → Shows shape m s → AreHome shape m s
  homes shaped m shows = record {
    arrived = λ t is k i side two near come none. let lawful = tree_lawful t is in
        let slot : ℕ = slot_of t (middle k i) side in let there = side_of t k i side two near in
        let a = lawful.flow slot k (2 * i + side) there in let b = shows.sides t is k i side two near in
        let one : lawful.arrived slot ≡ 1 = omega (arith, lawful.once slot k (2 * i + side) there) in
        rw shows.desks (lawful.home slot k (2 * i + side) there one none);
    sealed = λ t is told. let tree = kept.trees t is in let slot : ℕ = slot_of t 0 0 in
        let there : IsSide t slot t.height 0 = inr (refl, refl, refl) in
        let same : total (λ (d : Desk). tops_of t.number d.tops) m.desks
        ≡ total (λ (v : View). tops_of t.number v.tops) s.views
        = rw shows.desks (total-map (λ (d : Desk). tops_of t.number d.tops) desk_of s.views) in
        let one : tree.arrived slot ≡ 1 = omega (arith, same, tree.tops, arrived_once tree slot t.height 0 there) in
        let none : out slot s.views ≡ 0 = omega (
          arith,
          tree.flow slot t.height 0 there,
          side_once tree slot t.height 0 there,
          tree.out_top,
        ) in
        let h = tree.home slot t.height 0 there none in
        let root = top_is t (shaped.fits t is).least h.0 (h.2 one) in
        rw shows.desks (h.1 ∙ ap (λ (x : List ℕ). some (some x)) root);
  }

-- An arrival keeps the whole rule: what was left over from the node below goes home first.
use Rattle.tor_board.proofs.{Arriving.{Arrived, arrived_tree}, Finding.{Apart, IsBelow, above_slot, joined_else}}
use Rattle.tor_board.proofs.Finding.{joined_head, joined_same, node_above, one_more, pairs_once, pairs_same}
use Rattle.tor_board.proofs.{Finding.{same_halves, word_above, word_else, word_now, words-set}, Going.IsWithin}
use Rattle.tor_board.proofs.Going.{climb_within, moved_tree, of_climb, returned_homes, touched, with_spare}
use Rattle.tor_board.proofs.{Moves.calm, Names.{Act, Allows, AtMostOneSpare, Climb, ClimbsIn, GivenUnit, IsIn, IsShape}}
use Rattle.tor_board.proofs.Names.{IsTreeOf, Keeps, KeepsTree, LastGiveIsIn, List, None, Opt, Option, Seated, Shape}
use Rattle.tor_board.proofs.Names.{Some, State, Tree, View, [], ap, arith, arrived_from, carried_after, chain, climbed}
use Rattle.tor_board.proofs.Names.{get_elem?, get_or, gives, has_out, inl, inr, joined_in, joined_more, joining, length}
use Rattle.tor_board.proofs.Names.{length-set, none, only, other_slot, pairs, put_back, refl, rested, set, set-set}
use Rattle.tor_board.proofs.Names.{set_here, slot_of, some, step, subst, suc, takes, total, word_of, ℕ, ◌%◌, ◌++◌, ◌+◌}
use Rattle.tor_board.proofs.{Names.{◌-◌, ◌/◌, ◌<◌, ◌^◌, ◌∙◌, ◌∷◌, ◌≡◌, ◌≤◌}, Resting.{bare, returned}, Rising.lands}
use Rattle.tor_board.proofs.{Steps.{Does, weight}, Sums.within, Trees.{node_inside, side_in, split_positive}}
use Rattle.tor_board.specs.Plays.{IsAtNode, arrived}

-- which slots are a tree's
slot_in : (t : Tree) (n side : ℕ) → side < 2 → n < t.count → IsIn t (slot_of t n side)
slot_in t n side two h = (omega arith, omega arith)

pub other_in : (c : Climb) → IsBelow c → IsIn c.tree (other_slot c)
other_in c below = slot_in c.tree (node_above c) (1 - c.index % 2) (omega arith) below.inside

-- the seat has come to one node more
abbrev went : View → List GivenUnit → Option Climb → View
went v given climb = record v { given = given; arrivals = v.arrivals + 1; climb = climb }

module _ {words_count slots_count : ℕ} {shape : Shape} (shaped : IsShape words_count slots_count shape)
    {s : State (List ℕ) View} (kept : Keeps shape s) (id : ℕ) (v : View) (at : get_elem? s.views id ≡ some v)
    (c : Climb) (in_climb : v.climb ≡ Some c) (is : IsTreeOf shape c.tree) (below : IsBelow c)
    (spare : AtMostOneSpare c) (some_room : 0 < v.room) (head : LastGiveIsIn c.tree v.given) where
  abbrev n : ℕ
  n = get_or s.words (word_above c) 0

  long : word_above c < length s.words
  long = omega (arith, (kept.trees c.tree is).long, below.inside)

  own_in : IsIn c.tree c.slot
  own_in = rw below.slot (slot_in c.tree (node_above c) (c.index % 2) (omega arith) below.inside)

  above_in : IsIn c.tree (above_slot c)
  above_in = let tree = kept.trees c.tree is in
      side_in c.tree tree.some_unit (above_slot c) (climbed c []).level (climbed c []).index
      (lands c.tree tree.some_unit tree.tall (suc c.level) (c.index / 2) below.low
      (node_inside c.level (c.index / 2) c.tree.count below.inside)).1

  moved : (given : List GivenUnit) (climb : Option Climb) (homes' : List (Opt (List ℕ))) → n < 2
      → ClimbsIn shape climb → IsWithin c.tree climb
      → KeepsTree c.tree (one_more s.words (word_above c)) homes' (set s.views id (went v given climb))
      → ((x : ℕ) → (IsIn c.tree x → ⊥) → get_elem? homes' x ≡ get_elem? s.homes x) → length s.homes ≤ length homes'
      → ((f : ℕ → List ℕ → ℕ) → total (λ (g : GivenUnit). f g.unit g.hash) given ≡ weight f v)
      → joined_in c.tree given + pairs c.tree s.words
      ≡ joined_in c.tree v.given + pairs c.tree (one_more s.words (word_above c))
      → ((u : Tree) → Apart u c.tree → joined_in u given ≡ joined_in u v.given) → Keeps shape record {
        words = set s.words (word_above c) ((n + 1) % 2 ^ 64);
        homes = homes';
        views = set s.views id (went v given climb);
      }
  moved given climb homes' few of w_in main homes_else wider same joins joins_else =
      let next : (n + 1) % 2 ^ 64 ≡ n + 1 = omega arith in let w : View = went v given climb in
      let v_in : IsWithin c.tree v.climb = λ x o. ap (has_out x) in_climb ∙ climb_within c.tree c own_in spare x o in
      rw next (moved_tree shaped kept id v at c.tree is (one_more s.words (word_above c)) homes' w
      (λ y. ((kept.known id v at y).0, of)) main
      (λ k o. word_else c below s.words long k (o (node_above c) (split_positive c.level (c.index / 2)) below.inside))
      (omega (arith, length-set s.words (word_above c) (n + 1))) homes_else wider (λ k ne. refl) (λ k P ne are. are)
      (omega (arith, words-set s.words (word_above c) (n + 1) long)) joins joins_else v_in w_in
      (λ f. omega (arith, same f)) (λ u o. same (λ y h. only u y))
      (calm kept.claims id v at some_room w (λ f. omega (arith, same (λ y h. f y)))
      (refl, refl, refl, refl)))

  -- the step, and what it tells
  arrives_all : Does shape s (put_back s.homes c.spare) id (word_above c) ((n + 1) % 2 ^ 64) ((c.slot, c.hash) ∷ [])
      (arrived_from c (v, []) n)
  arrives_all = let t : Tree = c.tree in let words' : List ℕ = one_more s.words (word_above c) in
      let h0 : List (Opt (List ℕ)) = put_back s.homes c.spare in
      let h1 : List (Opt (List ℕ)) = set h0 c.slot (some c.hash) in let back = returned_homes c s.homes spare in
      let h1_else : (x : ℕ) → (IsIn t x → ⊥) → get_elem? h1 x ≡ get_elem? s.homes x
      = λ x o. touched t h0 c.slot (some c.hash) own_in x o ∙ back.0 x o in
      let h1_long : length s.homes ≤ length h1 = omega (arith, back.1, length-set h0 c.slot (some c.hash)) in
      let vs : List View = set s.views id (bare v c) in
      let after = subst (λ (after : View → List View). Arrived s.words h0 v c after)
      (λ i w. set-set s.views id (bare v c) w i)
      (arrived_tree c (returned c (kept.trees t is) id v at in_climb spare) id v
      (set_here s.views id (bare v c) (within s.views id v at)) below) in let now = word_now c below s.words long in
      elim after [
        | inl r ↦ let same = pairs_same t s.words words' (λ m h. same_halves c below s.words long r.0 m) in
            let whole = moved v.given None h1 (omega (arith, r.0)) tt (λ x o. refl) r.1 h1_else h1_long (λ f. refl)
            (omega (arith, same)) (λ u a. refl) in
            (rested v, gives, tt, whole, (omega (arith, r.0), (λ e. refl), λ e. absurd (omega (arith, r.0))))
        | inr r ↦ let up : Climb = climbed c r.1.0 in let h2 : List (Opt (List ℕ)) = set h1 (above_slot c) none in
            let act : Act (List ℕ) = chain gives (chain (takes (above_slot c) r.1.1) (takes (other_slot c) r.1.0)) in
            let head' = joined_head t v.given head in
            let pairs = pairs_once t s.words words' (node_above c) (split_positive c.level (c.index / 2)) below.inside
            (omega (arith, r.0)) (λ m ne. ap (λ (x : ℕ). x / 2)
            (word_else c below s.words long (word_of t m) (λ e. ne (omega arith)))) in
            let whole = moved (joined_more v.given) (Some up) (set h2 (other_slot c) none) (omega (arith, r.0)) is
            (climb_within t up above_in (inr (other_slot c, r.1.0, refl, other_in c below))) r.1.4
            (λ x o. touched t h2 (other_slot c) none (other_in c below) x o
            ∙ (touched t h1 (above_slot c) none above_in x o ∙ h1_else x o))
            (omega (arith, length-set h1 (above_slot c) none, length-set h2 (other_slot c) none))
            (λ f. joined_same (λ (g : GivenUnit). f g.unit g.hash) (λ u h a b. refl) v.given)
            (omega (arith, pairs)) (λ u a. joined_else t u a v.given head) in (
              joining v up,
              act,
              (tt, (r.1.2, r.1.3)),
              whole,
              (omega (arith, r.0), (λ e. absurd (omega (arith, r.0))), λ e. (r.1.0, r.1.1, refl)),
            )
      ]

pub arrives : {words_count slots_count : ℕ} {shape : Shape} → IsShape words_count slots_count shape
    → (slots id : ℕ) (m : Seated) (c : Climb) → m.0.climb ≡ Some c → m.1 ≡ c.spare ++ (c.slot, c.hash) ∷ []
    → IsTreeOf shape c.tree → IsBelow c → AtMostOneSpare c → 0 < m.0.room → LastGiveIsIn c.tree m.0.given
    → Allows (Keeps shape) slots id m (word_above c) (λ n. (n + 1) % 2 ^ 64)
    (arrived (step slots (word_above c) 1 0 none) m)
arrives {shape = shape} shaped slots id m c in_climb carried is below spare some_room head s kept homes at small =
    let n : ℕ = get_or s.words (word_above c) 0 in
    let here : IsAtNode c (word_above c) = (below.inside, below.slot, refl) in
    let r = arrives_all shaped kept id m.0 at c in_climb is below spare some_room head in
    let after : Seated = (r.0, carried_after ((c.slot, c.hash) ∷ []) r.1) in
    let At : Climb → Type 0 = λ x. arrived_from x m n after × IsAtNode x (word_above c) in
    with_spare shape s id (word_above c) ((n + 1) % 2 ^ 64) c m.1 (arrived (step slots (word_above c) 1 0 none) m n)
    carried spare (r.0, r.1, r.2, r.3, (of_climb At m.0 c in_climb (r.4, here), some_room, c, in_climb, refl))

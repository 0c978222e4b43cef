-- An arrival at a node: one more in its word, and what comes of it.
use Rattle.tor_board.proofs.Finding.{IsBelow, above_slot, counted, node_above, one_more, own_side, same_halves}
use Rattle.tor_board.proofs.{Finding.{word_above, word_else, word_now}, Names.{Climb, IsRoot, IsSide, KeepsTree, List}}
use Rattle.tor_board.proofs.Names.{Opt, Tree, View, WasGiven, [], ap, arith, climbed, climbing, dite, get_elem?, get_or}
use Rattle.tor_board.proofs.Names.{inl, inr, joining, length, length-set, met, middle, none, only, other_slot, out}
use Rattle.tor_board.proofs.Names.{ready, refl, rested, set, set_else, set_here, slot_of, some, suc, sym, word_of, zero}
use Rattle.tor_board.proofs.{Names.{ℕ, ℕ_discrete, ◌%◌, ◌*◌, ◌+◌, ◌-◌, ◌/◌, ◌<◌, ◌∙◌, ◌∷◌, ◌≡◌, ◌≢◌, ◌⊎◌}, Resting.bare}
use Rattle.tor_board.proofs.{Resting.{cleared, comes_home}, Rising.{Lands, goal_of, lands, ready_from, ready_grown}}
use Rattle.tor_board.proofs.{Rising.{rises_ready, rooted_at, split_one}, Steps.{SeatStep, SpareRooted, gave}}
use Rattle.tor_board.proofs.{Steps.{keeps_step, old_seat, outs, put_home, seat_rooted, weight}, Sums.only-other}
use Rattle.tor_board.proofs.{Sums.{only-same, term_le, total-set}, Trees.{alone_there, empty_home, node_flow}}
use Rattle.tor_board.proofs.Trees.{node_inside, node_once, node_word, ready_node, side_of, side_once, split_positive}
use Rattle.tor_board.proofs.Trees.{zero_more}

module _ {words : List ℕ} {homes : List (Opt (List ℕ))} {views : List View} (c : Climb)
    (kept : KeepsTree c.tree words homes views) (below : IsBelow c) (unarrived : kept.arrived c.slot ≡ 0) where
  -- those that came before a hash came from the other side
  pub found_other : get_or words (word_above c) 0
      ≡ kept.arrived (slot_of c.tree (middle c.level (c.index / 2)) (1 - c.index % 2))
  found_other = grind (arith, node_word kept c.level (c.index / 2) (c.index % 2), ap kept.arrived below.slot)

  pub found_few : get_or words (word_above c) 0 < 2
  found_few = omega (
    arith,
    found_other,
    node_once kept c.level (c.index / 2) (1 - c.index % 2) (omega arith) below.inside,
  )

met_root : (t : Tree) (G : ℕ → List ℕ → Type 0) (k i side : ℕ) (a b : List ℕ) → side < 2
    → IsRoot G t k (2 * i + side) a → IsRoot G t k (2 * i + (1 - side)) b → IsRoot G t (suc k) i (met side a b)
met_root t G k i zero a b two x y = (a, b, rw (zero_more (2 * i)) x, y, refl)
met_root t G k i (suc zero) a b two x y = (b, a, rw (zero_more (2 * i)) y, x, refl)
met_root t G k i (suc (suc n)) a b two x y = absurd (omega arith)

-- what a second arrival makes of its tree, where `after` has what all seats know, once this one knows that
abbrev pub Met : List ℕ → List (Opt (List ℕ)) → View → Climb → (View → List View) → Type 0
Met words homes v c after = let homes' = set homes c.slot (some c.hash) in
    (x : List ℕ) × (z : List ℕ) × (get_elem? homes' (above_slot c) ≡ some (some z))
    × (get_elem? (set homes' (above_slot c) none) (other_slot c) ≡ some (some x))
    × KeepsTree c.tree (one_more words (word_above c)) (set (set homes' (above_slot c) none) (other_slot c) none)
    (after (joining v (climbed c x)))

-- and any
abbrev pub Arrived : List ℕ → List (Opt (List ℕ)) → View → Climb → (View → List View) → Type 0
Arrived words homes v c after = ((get_or words (word_above c) 0 ≡ 0)
    × KeepsTree c.tree (one_more words (word_above c)) (set homes c.slot (some c.hash)) (after (rested v)))
    ⊎ ((get_or words (word_above c) 0 ≡ 1) × Met words homes v c after)

module _ {words : List ℕ} {homes : List (Opt (List ℕ))} {views : List View} (c : Climb)
    (kept : KeepsTree c.tree words homes views) (id : ℕ) (v : View) (at : get_elem? views id ≡ some (bare v c))
    (below : IsBelow c) where
  abbrev n : ℕ
  n = get_or words (word_above c) 0

  abbrev other : ℕ
  other = slot_of c.tree (middle c.level (c.index / 2)) (1 - c.index % 2)

  long : word_above c < length words
  long = omega (arith, kept.long, below.inside)

  alone : (climbing c.slot views ≡ 1) × (ready c.tree words views c.level c.index ≡ 1) × (kept.arrived c.slot ≡ 0)
  alone = alone_there kept id (bare v c) (cleared c) at refl c.level c.index (own_side c below)

  found : n ≡ kept.arrived other
  found = found_other c kept below alone.2

  not_top : only (slot_of c.tree 0 0) c.slot ≡ 0
  not_top = grind (arith, below.slot, split_positive c.level (c.index / 2))

  first : n ≡ 0 → KeepsTree c.tree (one_more words (word_above c)) (set homes c.slot (some c.hash))
      (set views id (rested v))
  first none_there = comes_home c kept id v at c.level c.index (own_side c below) (one_more words (word_above c))
      (v.arrivals + 1) v.tops (omega (arith, length-set words (word_above c) (n + 1)))
      (same_halves c below words long none_there) (λ m pos. counted c below words long c.tree m)
      (omega (arith, not_top)) (seat_rooted kept id (bare v c) at).1

  -- the second takes the slot above, to which nothing has come, and that of the other side, whose hash was there
  module _ (one : n ≡ 1) where
    abbrev up : ℕ × ℕ
    up = goal_of c.tree (suc c.level) (c.index / 2)

    landed : Lands c.tree (c.tree.height - suc c.level) (suc c.level) (c.index / 2) up
    landed = lands c.tree kept.some_unit kept.tall (suc c.level) (c.index / 2) below.low
        (node_inside c.level (c.index / 2) c.tree.count below.inside)

    above_side : IsSide c.tree (above_slot c) up.0 up.1
    above_side = landed.1

    unready : ready c.tree words views (suc c.level) (c.index / 2) ≡ 0
    unready = omega (arith, ready_node c.tree words views c.level (c.index / 2) below.inside)

    above_unready : ready c.tree words views up.0 up.1 ≡ 0
    above_unready = rises_ready c.tree words views landed.0.0 (suc c.level) (c.index / 2) up.0 up.1 landed.0.1 ∙ unready

    above_empty : (climbing (above_slot c) views ≡ 0) × (kept.arrived (above_slot c) ≡ 0)
    above_empty = grind (arith, kept.flow (above_slot c) up.0 up.1 above_side, above_unready)

    other_side : IsSide c.tree other c.level (2 * (c.index / 2) + (1 - c.index % 2))
    other_side = side_of c.tree c.level (c.index / 2) (1 - c.index % 2) (omega arith) below.inside

    other_out : out other views ≡ 0
    other_out = let flow = node_flow kept c.level (c.index / 2) (1 - c.index % 2) (omega arith) below.inside in
        let once = side_once kept other c.level (2 * (c.index / 2) + (1 - c.index % 2)) other_side in
        let o = kept.outs (node_above c) (1 - c.index % 2) (omega arith) (split_positive c.level (c.index / 2))
        below.inside in omega (arith, found)

    -- and climbs on
    joined : (x : List ℕ) → IsRoot (WasGiven views) c.tree c.level (2 * (c.index / 2) + (1 - c.index % 2)) x
        → KeepsTree c.tree (one_more words (word_above c))
        (set (set (set homes c.slot (some c.hash)) (above_slot c) none) other none)
        (set views id (joining v (climbed c x)))
    joined x x_root =
        let t : Tree = c.tree in let w : View = joining v (climbed c x) in let vs : List View = set views id w in
        let words' : List ℕ = one_more words (word_above c) in
        let homes1 : List (Opt (List ℕ)) = set homes c.slot (some c.hash) in
        let homes2 : List (Opt (List ℕ)) = set homes1 (above_slot c) none in
        let homes3 : List (Opt (List ℕ)) = set homes2 other none in let has = seat_rooted kept id (bare v c) at in
        let now = word_now c below words long in let sum = λ (g : View → ℕ). total-set g views id (bare v c) w at in
        let given : (f : ℕ → List ℕ → ℕ) → weight f w ≡ weight f v = λ f. grind arith in
        let same : (u : ℕ) → gave u w ≡ gave u v = λ u. given (λ y h. only u y) in
        let two : c.index % 2 < 2 = omega arith in let root = landed.3 (WasGiven views) (met (c.index % 2) c.hash x)
        (met_root t (WasGiven views) c.level (c.index / 2) (c.index % 2) c.hash x two
        (has.0.0 c.level (2 * (c.index / 2) + c.index % 2)
        (inl (c.index / 2, c.index % 2, two, below.inside, below.slot, refl))) x_root) in
        let grown = ready_from t words words' views vs (suc c.level) (c.index / 2)
        (λ i. inl (omega (arith, sum (gave (t.first + i)), same (t.first + i))))
        (λ k j near. dite (ℕ_discrete (middle k j) (node_above c))
        (λ e. let q = split_one c.level (c.index / 2) k j (sym e) in inr (ap suc q.0, q.1))
        (λ ne. inl (word_else c below words long (word_of t (middle k j)) (λ e. ne (omega arith))))) in
        let full : ready t words' vs (suc c.level) (c.index / 2) ≡ 1 = grind arith in
        let step : SeatStep t words words' homes homes3 views kept.arrived id (bare v c) w (λ s. only s c.slot)
        = record {
          sum = sum;
          long = omega (arith, length-set words (word_above c) (n + 1));
          wide = let d = length-set homes c.slot (some c.hash) in let p = length-set homes1 (above_slot c) none in
              let r = length-set homes2 other none in omega arith;
          given = λ f. omega (arith, given f);
          once = λ j h. omega (arith, sum (gave (t.first + j)), same (t.first + j), kept.once j h);
          word = λ m pos h. counted c below words long t m;
          flow = λ s k j is. let more = ready_grown t kept.tall words words' views vs (suc c.level) (c.index / 2)
              (above_slot c) up.0 up.1 landed.0.0 above_side landed.0.1 unready full grown s k j is in omega arith;
          sides_out = λ m side two pos h. grind (arith, word_else, only-other);
          out_top = grind (arith, split_positive c.level (c.index / 2));
          home = λ s k j is none_out. let mine = term_le (outs s) views id (bare v c) at in let all = sum (outs s) in
              let not_other : s ≢ other = λ e. let o : only s other ≡ 1 = rw e (only-same other) in omega arith in
              let not_above : s ≢ above_slot c = λ e.
              let o : only s (above_slot c) ≡ 1 = rw e (only-same (above_slot c)) in omega arith in
              let through : get_elem? homes3 s ≡ get_elem? homes1 s = set_else homes2 other s none not_other
              ∙ set_else homes1 (above_slot c) s none not_above in
              put_home kept homes3 (λ y. only y c.slot) c.slot c.hash has.0.0 s k j is
              (λ e. let inside : c.slot < length homes = omega (arith, kept.wide, below.slot, below.inside) in
              through ∙ rw e (set_here homes c.slot (some c.hash) inside))
              (λ ne. let z = only-other s c.slot (λ e. ne (sym e)) in
              (omega arith, through ∙ set_else homes c.slot s (some c.hash) ne, z));
          seats = let a = rooted_at (WasGiven views) t (above_slot c) up.0 up.1 (climbed c x).hash above_side root in
              let j : ℕ = 2 * (c.index / 2) + (1 - c.index % 2) in
              let b = rooted_at (WasGiven views) t other c.level j x other_side x_root in
              let left : SpareRooted (WasGiven views) t ((other, x) ∷ []) = λ o hash e. grind (arith, b) in
              old_seat kept id w ((a, left), has.1);
          tops = omega (arith, not_top);
        } in keeps_step kept step

    second : Met words homes v c (set views id)
    second = let h = kept.home other c.level (2 * (c.index / 2) + (1 - c.index % 2)) other_side other_out in
        let q = kept.home (above_slot c) up.0 up.1 above_side
        (empty_home kept (above_slot c) up.0 up.1 above_side above_unready) in
        let homes1 : List (Opt (List ℕ)) = set homes c.slot (some c.hash) in
        let z = set_else homes c.slot (above_slot c) (some c.hash)
        (λ e. omega (arith, ap (λ (s : ℕ). climbing s views) e, above_empty.0, alone.0)) ∙ q.1 in
        let x = set_else homes1 (above_slot c) other none (λ e. omega (arith, ap kept.arrived e, found, above_empty.1))
        ∙ (set_else homes c.slot other (some c.hash) (λ e. omega (arith, ap kept.arrived e, found, alone.2)) ∙ h.1) in
        (h.0, q.0, z, x, joined h.0 (h.2 (sym found ∙ one)))

  pub arrived_tree : Arrived words homes v c (set views id)
  arrived_tree = dite (ℕ_discrete n 0) (λ none_there. inl (none_there, first none_there))
      (λ some_there. let one : n ≡ 1 = omega (arith, found_few c kept below alone.2) in inr (one, second one))

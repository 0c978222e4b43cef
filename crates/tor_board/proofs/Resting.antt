-- A slot goes home, or is taken for a unit that is handed in: that keeps the rule of its tree.
use Rattle.tor_board.proofs.Names.{AtMostOneSpare, Climb, IsRoot, IsSide, KeepsTree, List, None, Opt, Some, TopsAre}
use Rattle.tor_board.proofs.Names.{Tree, View, WasGiven, [], ap, arith, climb_from, climbs_to, dite, get_elem?, get_or}
use Rattle.tor_board.proofs.Names.{handed, has_out, inl, inr, length, length-set, none, only, put_back, ready, refl}
use Rattle.tor_board.proofs.Names.{set, set_again, set_else, set_here, slot_of, some, subst, sym, times_given, topped}
use Rattle.tor_board.proofs.Names.{tops_of, total, word_of, ℕ, ℕ_discrete, ◌*◌, ◌+◌, ◌-◌, ◌/◌, ◌<◌, ◌^◌, ◌∙◌, ◌∷◌, ◌≡◌}
use Rattle.tor_board.proofs.{Names.{◌≢◌, ◌≤◌}, Rising.{lands, ready_from, ready_grown, rises_ready, rooted_at}}
use Rattle.tor_board.proofs.Steps.{ClimbRooted, SeatStep, climbs, gave, keeps_step, new_seat, old_home, old_seat, outs}
use Rattle.tor_board.proofs.{Steps.{put_home, seat_more, seat_rooted, tops_at, weight}, Sums.{only-other, only-same}}
use Rattle.tor_board.proofs.{Sums.total-set, Trees.{empty_home, ready_same, side_covers, side_in}}

-- ---- a slot that was left over, and a hash that comes to rest

-- the climb, and the seat in it, once nothing is left over
abbrev pub cleared : Climb → Climb
cleared c = record c { spare = [] }

abbrev pub bare : View → Climb → View
bare v c = record v { climb = Some (cleared c) }

module _ {words : List ℕ} {homes : List (Opt (List ℕ))} {views : List View} (c : Climb)
    (kept : KeepsTree c.tree words homes views) (id : ℕ) (v : View) (at : get_elem? views id ≡ some v)
    (in_climb : v.climb ≡ Some c) where
  puts_back : (o : ℕ) (z : List ℕ) → c.spare ≡ (o, z) ∷ [] → o < length homes
      → KeepsTree c.tree words (set homes o (some z)) (set views id (bare v c))
  puts_back o z one inside = let has = seat_rooted kept id v at in
      let roots : ClimbRooted (WasGiven views) c.tree (Some c) = grind arith in
      let had : (s : ℕ) → (climbs s v ≡ only s c.slot) × (outs s v ≡ only s c.slot + only s o)
      = λ s. let left = ap (total (λ (p : ℕ × List ℕ). only s p.0)) one in
      (ap (climbs_to s) in_climb, omega (arith, ap (has_out s) in_climb)) in
      let sum = λ (g : View → ℕ). total-set g views id v (bare v c) at in
      let step : SeatStep c.tree words words homes (set homes o (some z)) views kept.arrived id v (bare v c) (λ s. 0)
      = record {
        sum = sum;
        long = omega arith;
        wide = omega (arith, length-set homes o (some z));
        given = λ f. omega arith;
        once = λ j h. omega (arith, sum (gave (c.tree.first + j)), kept.once j h);
        word = λ m pos h. omega arith;
        flow = λ s k j is. let same = ready_same c.tree words words views (set views id (bare v c)) (λ m pos h. refl)
            (λ i h. omega (arith, sum (gave (c.tree.first + i)))) k j (side_covers c.tree kept.some_unit s k j is) in
            omega (arith, (had s).0);
        sides_out = λ m side two pos h. let e = had (slot_of c.tree m side) in omega (arith, e.0, e.1);
        out_top = let e = had (slot_of c.tree 0 0) in omega (arith, e.0, e.1);
        home = λ s k j is none. put_home kept (set homes o (some z)) (λ x. 0) o z
            (roots.1 o z one) s k j is
            (λ e. rw e (set_here homes o (some z) inside)) (λ ne. let away = only-other s o (λ e. ne (sym e)) in
            (omega (arith, sum (outs s), (had s).1), set_else homes o s (some z) ne, refl));
        seats = old_seat kept id (bare v c) ((roots.0, λ o hash e. cc), has.1);
        tops = omega arith;
      } in keeps_step kept step

  -- of a climb with at most one slot left over
  pub returned : AtMostOneSpare c → KeepsTree c.tree words (put_back homes c.spare) (set views id (bare v c))
  returned spare = let After : List (ℕ × List ℕ) → Type 0
      = λ l. KeepsTree c.tree words (put_back homes l) (set views id (bare v c)) in elim spare [
        | inl e ↦ let is : Some (cleared c) ≡ v.climb
            = ap (λ (l : List (ℕ × List ℕ)). Some (record c { spare = l })) (sym e) ∙ sym in_climb in
            let same : bare v c ≡ v = λ i. record v { climb = is i } in
            subst After (sym e) (subst (λ (l : List View). KeepsTree c.tree words homes l)
            (sym (ap (set views id) same ∙ set_again views id v at)) kept)
        | inr p ↦ subst After (sym p.2) (puts_back p.0 p.1 p.2 (omega (arith, p.3.1, kept.wide)))
      ]

module _ {words : List ℕ} {homes : List (Opt (List ℕ))} {views : List View} (c : Climb)
    (kept : KeepsTree c.tree words homes views) (id : ℕ) (v : View) (at : get_elem? views id ≡ some (bare v c)) where
  pub comes_home : (k j : ℕ) → IsSide c.tree c.slot k j → (words' : List ℕ) (made : ℕ) (tops : List (ℕ × List ℕ))
      → length words ≤ length words'
      → ((m : ℕ) → get_or words' (word_of c.tree m) 0 / 2 ≡ get_or words (word_of c.tree m) 0 / 2)
      → ((m : ℕ) → 0 < m → get_or words' (word_of c.tree m) 0 ≡ get_or words (word_of c.tree m) 0
      + (only (slot_of c.tree m 0) c.slot + only (slot_of c.tree m 1) c.slot))
      → tops_of c.tree.number tops ≡ tops_at c.tree v + only (slot_of c.tree 0 0) c.slot
      → TopsAre c.tree.number (IsRoot (WasGiven views) c.tree c.tree.height 0) tops
      → KeepsTree c.tree words' (set homes c.slot (some c.hash))
      (set views id (record v { arrivals = made; climb = None; tops = tops }))
  comes_home k1 j1 own words' made tops longer halves counted topped_once told =
      let w : View = record v { arrivals = made; climb = None; tops = tops } in
      let has = seat_rooted kept id (bare v c) at in let in_ = side_in c.tree kept.some_unit c.slot k1 j1 own in
      let sum = λ (g : View → ℕ). total-set g views id (bare v c) w at in
      let step : SeatStep c.tree words words' homes (set homes c.slot (some c.hash)) views kept.arrived id (bare v c) w
      (λ s. only s c.slot) = record {
        sum = sum;
        long = longer;
        wide = omega (arith, length-set homes c.slot (some c.hash));
        given = λ f. omega arith;
        once = λ j h. omega (arith, sum (gave (c.tree.first + j)), kept.once j h);
        word = λ m pos h. counted m pos;
        flow = λ s k j is. let same = ready_same c.tree words words' views (set views id w) (λ m pos h. halves m)
            (λ i h. omega (arith, sum (gave (c.tree.first + i)))) k j (side_covers c.tree kept.some_unit s k j is) in
            omega arith;
        sides_out = λ m side two pos h. omega (arith, halves m);
        out_top = omega arith;
        home = λ s k j is none. put_home kept (set homes c.slot (some c.hash)) (λ x. only x c.slot) c.slot c.hash
            has.0.0 s k j is (λ e. rw e (set_here homes c.slot (some c.hash) (omega (arith, in_.1, kept.wide))))
            (λ ne. let z = only-other s c.slot (λ e. ne (sym e)) in
            (omega (arith, sum (outs s)), set_else homes c.slot s (some c.hash) ne, z));
        seats = old_seat kept id w (tt, told);
        tops = topped_once;
      } in keeps_step kept step

  pub sealed_tree : c.slot ≡ slot_of c.tree 0 0
      → KeepsTree c.tree words (set homes c.slot (some c.hash)) (set views id (topped v c.tree.number c.hash))
  sealed_tree here = let top : IsSide c.tree c.slot c.tree.height 0 = inr (here, refl, refl) in
      let has = seat_rooted kept id (bare v c) at in let own : only (slot_of c.tree 0 0) c.slot ≡ 1 = grind arith in
      comes_home c.tree.height 0 top words v.arrivals ((c.tree.number, c.hash) ∷ v.tops) (omega arith) (λ m. refl)
      (λ m pos. grind arith) (omega (arith, only-same c.tree.number)) ((λ e. has.0.0 c.tree.height 0 top), has.1)

-- ---- a unit is handed in

module _ {t : Tree} {words : List ℕ} {homes : List (Opt (List ℕ))} {views : List View}
    (kept : KeepsTree t words homes views) (id : ℕ) (v : View) (at : get_elem? views id ≡ some v)
    (idle : v.climb ≡ None) (u : ℕ) (hash : List ℕ) (low : t.first ≤ u) (high : u < t.first + t.count)
    (ungiven : times_given u views ≡ 0) where
  abbrev c : Climb
  c = climb_from t 0 (u - t.first) hash []

  abbrev w : View
  w = handed v u hash (Some c)

  -- its climb takes the slot to which its hash rises
  pub handed_over : (z : List ℕ) × (get_elem? homes c.slot ≡ some (some z))
      × KeepsTree t words (set homes c.slot none) (set views id w)
  handed_over =
      let i : ℕ = u - t.first in let unit : t.first + i ≡ u = omega arith in let vs : List View = set views id w in
      let covers : i * 2 ^ 0 < t.count = omega arith in
      let up = lands t kept.some_unit kept.tall 0 i (omega arith) covers in
      let sum : (g : View → ℕ) → total g vs + g v ≡ total g views + g w = λ g. total-set g views id v w at in
      let unready : ready t words views 0 i ≡ 0 = ap (λ (x : ℕ). times_given x views) unit ∙ ungiven in
      let full : ready t words vs 0 i ≡ 1 = grind arith in
      let above = rises_ready t words views up.0.0 0 i c.level c.index up.0.1 ∙ unready in
      let h = kept.home c.slot c.level c.index up.1 (empty_home kept c.slot c.level c.index up.1 above) in
      let else_ : (n : ℕ) → i ≢ n → times_given (t.first + n) vs ≡ times_given (t.first + n) views
      = λ n ne. omega (arith, sum (gave (t.first + n)), only-other (t.first + n) u (λ e. ne (omega arith))) in
      let grown = ready_from t words words views vs 0 i
      (λ n. dite (ℕ_discrete i n) (λ e. inr (refl, e)) (λ ne. inl (else_ n ne))) (λ k j near. inl refl) in
      let stands : WasGiven vs (t.first + i) hash = λ f. omega (arith, sum (weight f), ap (λ (x : ℕ). f x hash) unit) in
      let root = up.3 (WasGiven vs) hash (inl (omega arith, stands)) in
      let step : SeatStep t words words homes (set homes c.slot none) views kept.arrived id v w (λ s. 0) = record {
        sum = sum;
        long = omega arith;
        wide = omega (arith, length-set homes c.slot none);
        given = λ f. omega arith;
        once = λ j h. dite (ℕ_discrete i j)
            (λ e. let one : times_given (t.first + j) vs ≡ 1 = rw (sym e) full in omega arith)
            (λ ne. omega (arith, else_ j ne, kept.once j h));
        word = λ m pos h. omega arith;
        flow = λ s k j is. let more = ready_grown t kept.tall words words views vs 0 i c.slot c.level c.index up.0.0
            up.1 up.0.1 unready full grown s k j is in omega (arith, ap (climbs_to s) idle);
        sides_out = λ m side two pos h. omega (arith, ap (climbs_to (slot_of t m side)) idle);
        out_top = omega (arith, ap (climbs_to (slot_of t 0 0)) idle);
        home = λ s k j is none_out. let all = sum (outs s) in let mine = ap (has_out s) idle in
            let apart : s ≢ c.slot = λ e. let o : only s c.slot ≡ 1 = rw e (only-same c.slot) in omega arith in
            old_home kept (set homes c.slot none) (λ x. 0) s k j is (omega arith)
            (set_else homes c.slot s none apart) refl;
        seats = λ stand. let had = seat_more t (WasGiven views) (WasGiven vs) stand v (seat_rooted kept id v at) in
            let own = rooted_at (WasGiven vs) t c.slot c.level c.index c.hash up.1 root in
            new_seat kept id w ((own, λ o hash e. cc), had.1) stand;
        tops = omega arith;
      } in (h.0, h.1, keeps_step kept step)

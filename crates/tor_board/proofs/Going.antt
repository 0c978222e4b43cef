-- A step of a climb keeps the whole rule, among them a hand and a seal.
use Rattle.tor_board.proofs.{Finding.{Apart, apart, not_joined, pairs_same, same_tree}, Moves.calm, Names.Allows}
use Rattle.tor_board.proofs.Names.{AtMostOneSpare, Climb, IsAtTop, IsIn, IsKnown, IsShape, IsTreeOf, Keeps, KeepsClaims}
use Rattle.tor_board.proofs.Names.{KeepsTree, List, None, Opt, Option, Seated, Shape, Some, State, TopsAre, Tree, View}
use Rattle.tor_board.proofs.Names.{WasGiven, [], ap, arith, chain, climb_from, dite, gave_told, get_elem?, get_or}
use Rattle.tor_board.proofs.Names.{gives, handed, has_out, inl, inr, joined_in, length, length-set, min, named, none}
use Rattle.tor_board.proofs.Names.{only, pairs, put_back, refl, sealed_from, set, set-get_or, set-set, set_else}
use Rattle.tor_board.proofs.Names.{set_here, some, step, subst, sym, takes, times, times_given, topped, tops_of, total}
use Rattle.tor_board.proofs.Names.{word_of, ℕ, ℕ_discrete, ◌++◌, ◌+◌, ◌-◌, ◌/◌, ◌<◌, ◌∙◌, ◌∷◌, ◌≡◌, ◌≢◌, ◌≤◌, ◌⊎◌}
use Rattle.tor_board.proofs.{Resting.{bare, handed_over, returned, sealed_tree}, Rising.lands, Steps.Does}
use Rattle.tor_board.proofs.{Steps.{away_rooted, gave, unmoved_seat, weight}, Sums.{below-only, only-other, set_all}}
use Rattle.tor_board.proofs.{Sums.{total-set, total-without, total_le, within}, Trees.{has_unit-within, side_in}}
use Rattle.tor_board.specs.Plays.{sealed}

-- no slot but the tree's is out with that climb
abbrev pub IsWithin : Tree → Option Climb → Type 0
IsWithin t c = (x : ℕ) → (IsIn t x → ⊥) → has_out x c ≡ 0

module _ {words_count slots_count : ℕ} {shape : Shape} (shaped : IsShape words_count slots_count shape)
    {s : State (List ℕ) View} (kept : Keeps shape s) (id : ℕ) (v : View) (at : get_elem? s.views id ≡ some v) (t : Tree)
    (is : IsTreeOf shape t) where
  -- the step touches that tree alone
  pub moved_tree : (words' : List ℕ) (homes' : List (Opt (List ℕ))) (w : View) → (0 < w.room → IsKnown shape w)
      → KeepsTree t words' homes' (set s.views id w)
      → ((k : ℕ) → ((m : ℕ) → 0 < m → m < t.count → k ≢ word_of t m) → get_or words' k 0 ≡ get_or s.words k 0)
      → length s.words ≤ length words' → ((x : ℕ) → (IsIn t x → ⊥) → get_elem? homes' x ≡ get_elem? s.homes x)
      → length s.homes ≤ length homes'
      → ((number : ℕ) → number ≢ t.number → tops_of number w.tops ≡ tops_of number v.tops)
      → ((number : ℕ) (P : List ℕ → Type 0) → number ≢ t.number → TopsAre number P v.tops → TopsAre number P w.tops)
      → total (λ (x : ℕ). x) words' + v.arrivals ≡ total (λ (x : ℕ). x) s.words + w.arrivals
      → joined_in t w.given + pairs t s.words ≡ joined_in t v.given + pairs t words'
      → ((u : Tree) → Apart u t → joined_in u w.given ≡ joined_in u v.given) → IsWithin t v.climb → IsWithin t w.climb
      → ((f : ℕ → List ℕ → ℕ) → weight f v ≤ weight f w)
      → ((u : ℕ) → ((m : ℕ) → m < t.count → u ≢ t.first + m) → gave u w ≡ gave u v)
      → KeepsClaims shape.units (get_or s.words 0 0) (get_or s.words 1 0) (set s.views id w)
      → Keeps shape record { words = words'; homes = homes'; views = set s.views id w }
  moved_tree words' homes' w now main same_words longer same_homes wider tops told arrivals joins joins_else v_in w_in
      more same claims =
      let first_two : (k : ℕ) → k < 2 → get_or words' k 0 ≡ get_or s.words k 0 = λ k low. grind arith in
      let sum = λ (g : View → ℕ). total-set g s.views id v w at in record {
        small = kept.small;
        known = set_all (λ (u : View). 0 < u.room → IsKnown shape u) s.views id w kept.known now;
        long = omega (arith, kept.long);
        unused = λ j big free. same_words j (λ m pos h. free t is m pos h) ∙ kept.unused j big free;
        arrivals = grind arith;
        joins = λ u there. dite (ℕ_discrete u.number t.number) (λ e. grind arith)
            (λ ne. let a = apart shaped u t there is ne in let same_pairs = pairs_same u s.words words'
            (λ m h. ap (λ (x : ℕ). x / 2) (same_words (word_of u m) (λ n pos k. a.words m n h k))) in
            omega (arith, kept.joins u there, sum (λ (x : View). joined_in u x.given), joins_else u a));
        claims = rw (first_two 0 (omega arith), first_two 1 (omega arith)) claims;
        trees = λ u there. dite (ℕ_discrete u.number t.number)
            (λ e. rw (sym (same_tree shape t u is there (sym e))) main)
            (λ ne. let a = apart shaped u t there is ne in let tree = kept.trees u there in
            let w_away : (x : ℕ) → IsIn u x → has_out x w.climb ≡ 0 = λ x h. w_in x (λ k. a.slots x h k) in
            unmoved_seat tree words' homes' (λ m h. same_words (word_of u m) (λ n pos k. a.words m n h k)) longer
            (λ x h. same_homes x (λ k. a.slots x h k)) wider id v w at (tops u.number ne)
            (away_rooted (WasGiven s.views) u tree.some_unit w.climb w_away, told u.number _ ne (tree.told id v at))
            (λ x h. v_in x (λ k. a.slots x h k)) w_away more (λ j h. same (u.first + j) (λ m k. a.units j m h k)));
      }

-- a slot of the tree changes
pub touched : (t : Tree) (l : List (Opt (List ℕ))) (k : ℕ) (y : Opt (List ℕ)) → IsIn t k → (x : ℕ) → (IsIn t x → ⊥)
    → get_elem? (set l k y) x ≡ get_elem? l x
touched t l k y there x out_ = set_else l k x y (λ e. out_ (rw e there))

-- only those slots are out with a climb
pub climb_within : (t : Tree) (c : Climb) → IsIn t c.slot
    → ((c.spare ≡ []) ⊎ ((o : ℕ) × (y : List ℕ) × (c.spare ≡ (o, y) ∷ []) × IsIn t o)) → IsWithin t (Some c)
climb_within t c here spare x out_ = grind arith

-- the homes, once what was left over is back: the tree's alone change
pub returned_homes : (c : Climb) (homes : List (Opt (List ℕ))) → AtMostOneSpare c
    → ((x : ℕ) → (IsIn c.tree x → ⊥) → get_elem? (put_back homes c.spare) x ≡ get_elem? homes x)
    × (length (put_back homes c.spare) ≡ length homes)
returned_homes c homes spare = let Same : List (ℕ × List ℕ) → Type 0
    = λ l. ((x : ℕ) → (IsIn c.tree x → ⊥) → get_elem? (put_back homes l) x ≡ get_elem? homes x)
    × (length (put_back homes l) ≡ length homes) in elim spare [
      | inl e ↦ subst Same (sym e) ((λ x o. refl), refl)
      | inr p ↦ subst Same (sym p.2) (touched c.tree homes p.0 (some p.1) p.3, length-set homes p.0 (some p.1))
    ]

-- what is so of the seat's climb, said of any
pub of_climb : (P : Climb → Type 0) (v : View) (c : Climb) → v.climb ≡ Some c → P c
    → (d : Climb) → v.climb ≡ Some d → P d
of_climb P v c is p d e = let same : c ≡ d = cc in subst P same p

-- a step first gives back what was left over
pub with_spare : (shape : Shape) (s : State (List ℕ) View) (id i f : ℕ) (c : Climb) (held : List (ℕ × List ℕ))
    (P : Seated → Type 0) → held ≡ c.spare ++ (c.slot, c.hash) ∷ [] → AtMostOneSpare c
    → Does shape s (put_back s.homes c.spare) id i f ((c.slot, c.hash) ∷ []) P → Does shape s s.homes id i f held P
with_spare shape s id i f c held P carried spare done = let own : List (ℕ × List ℕ) = (c.slot, c.hash) ∷ [] in
    let Before : List (ℕ × List ℕ) → Type 0 = λ l. Does shape s (put_back s.homes l) id i f own P in
    let Goal : List (ℕ × List ℕ) → Type 0 = λ l. Does shape s s.homes id i f l P in
    let held_is = λ (l : List (ℕ × List ℕ)) (e : c.spare ≡ l). carried ∙ ap (λ (l : List (ℕ × List ℕ)). l ++ own) e in
    elim spare [
      | inl e ↦ subst Goal (sym (held_is [] e)) (subst Before e done)
      | inr p ↦ let r = subst Before p.2 done in
          subst Goal (sym (held_is ((p.0, p.1) ∷ []) p.2)) (r.0, chain gives r.1, (tt, r.2), r.3, r.4)
    ]

-- ---- a hand and a seal

-- a unit that a seat holds was never given
pub held_ungiven : {units claims least : ℕ} {views : List View} → KeepsClaims units claims least views
    → (id : ℕ) (v : View) → get_elem? views id ≡ some v → (u : ℕ) → 0 < times u v.held → times_given u views ≡ 0
held_ungiven {units = units} {claims = claims} {views = views} k id v at u has =
    -- as if it held none
    let w : View = record v { held = [] } in
    let rest = total_le (gave u) (named (only u)) (set views id w) (λ (x : View). omega arith) in
    let b = (below-only u (min claims units)).0 in let d = k.once (only u) in
    let g = total-set (gave u) views id v w at in let h = total-set (named (only u)) views id v w at in omega arith

module _ {words_count slots_count : ℕ} {shape : Shape} (shaped : IsShape words_count slots_count shape) where
  pub hands : (slots id : ℕ) (m : Seated) (t : Tree) (u : ℕ) (hash : List ℕ) → 0 < m.0.room → m.0.climb ≡ None
      → m.1 ≡ [] → 0 < times u m.0.held → IsTreeOf shape t → t.first ≤ u → u < t.first + t.count
      → Allows (Keeps shape) slots id m 0 (λ n. n) (gave_told (Some t) u hash (step slots 0 0 0 none) m)
  hands slots id m t u hash some_room idle empty has is low high s kept homes at small =
      let v : View = m.0 in let n : ℕ = get_or s.words 0 0 in let tree = kept.trees t is in
      let c : Climb = climb_from t 0 (u - t.first) hash [] in let w : View = handed v u hash (Some c) in
      let taken = handed_over tree id v at idle u hash low high (held_ungiven kept.claims id v at u has) in
      let up = lands t tree.some_unit tree.tall 0 (u - t.first) (omega arith) (omega arith) in
      let slot_in = side_in t tree.some_unit c.slot c.level c.index up.1 in
      let h1 : List (Opt (List ℕ)) = set s.homes c.slot none in
      let whole : Keeps shape record { words = set s.words 0 n; homes = h1; views = set s.views id w }
      = rw (set-get_or s.words 0 0) (moved_tree shaped kept id v at t is s.words h1 w
      (λ y. ((kept.known id v at y).0, is)) taken.2 (λ x o. refl) (omega arith)
      (touched t s.homes c.slot none slot_in) (omega (arith, length-set s.homes c.slot none)) (λ k ne. refl)
      (λ k P ne are. are) (omega arith) (omega (arith, not_joined t u)) (λ x a. omega (arith, not_joined x u))
      (λ x o. ap (has_out x) idle) (climb_within t c slot_in (inl refl)) (λ f. omega arith)
      (λ x o. omega (arith, only-other x u (λ e. o (u - t.first) (omega arith) (omega arith))))
      (calm kept.claims id v at some_room w (λ f. omega (arith, total-without f u v.held has))
      (refl, refl, refl, refl))) in
      let Goal : List (ℕ × List ℕ) → Type 0
      = λ l. Does shape s s.homes id 0 n l (gave_told (Some t) u hash (step slots 0 0 0 none) (v, l) n) in
      let within = has_unit-within t u low high in subst Goal (sym empty)
      (w, takes c.slot taken.0, taken.1, whole, ((taken.0, refl), refl, (some_room, idle), has, within))

  pub seals : (slots id : ℕ) (m : Seated) (c : Climb) → m.0.climb ≡ Some c → m.1 ≡ c.spare ++ (c.slot, c.hash) ∷ []
      → IsTreeOf shape c.tree → IsAtTop c → AtMostOneSpare c → 0 < m.0.room
      → Allows (Keeps shape) slots id m 0 (λ n. n) (sealed (step slots 0 0 0 none) m)
  seals slots id m c in_climb carried is top spare some_room s kept homes at small =
      let v : View = m.0 in let n : ℕ = get_or s.words 0 0 in let t : Tree = c.tree in let tree = kept.trees t is in
      let w : View = topped v t.number c.hash in
      let slot_in : IsIn t c.slot = rw top.2 (omega arith, omega (arith, tree.some_unit)) in
      let h0 : List (Opt (List ℕ)) = put_back s.homes c.spare in
      let h1 : List (Opt (List ℕ)) = set h0 c.slot (some c.hash) in let back = returned_homes c s.homes spare in
      let main : KeepsTree t s.words h1 (set s.views id w)
      = rw (sym (set-set s.views id (bare v c) w)) (sealed_tree c (returned c tree id v at in_climb spare) id v
      (set_here s.views id (bare v c) (within s.views id v at)) top.2) in
      let whole : Keeps shape record { words = set s.words 0 n; homes = h1; views = set s.views id w }
      = rw (set-get_or s.words 0 0) (moved_tree shaped kept id v at t is s.words h1 w
      (λ y. ((kept.known id v at y).0, tt)) main (λ x o. refl) (omega arith)
      (λ x o. touched t h0 c.slot (some c.hash) slot_in x o ∙ back.0 x o)
      (omega (arith, back.1, length-set h0 c.slot (some c.hash)))
      (λ k ne. omega (arith, only-other k t.number (λ e. ne (sym e)))) (λ k P ne are. ((λ e. absurd (ne (sym e))), are))
      (omega arith) (omega arith) (λ x a. refl)
      (λ x o. ap (has_out x) in_climb ∙ climb_within t c slot_in spare x o) (λ x o. refl) (λ f. omega arith)
      (λ u o. refl) (calm kept.claims id v at some_room w (λ f. refl) (refl, refl, refl, refl))) in
      let each = of_climb (λ (x : Climb). sealed_from x m (w, []) × IsAtTop x) v c in_climb (refl, top) in
      with_spare shape s id 0 n c m.1 (sealed (step slots 0 0 0 none) m n) carried spare
      (w, gives, tt, whole, (each, refl, some_room, c, in_climb))

-- The table's own steps are the board's: the rule before and after a step leaves its operation no choice.
use Rattle.tor_board.proofs.Names.{Act, Bool, Climb, ClimbsIn, IsSide, IsTreeOf, Keeps, KeepsClaims, List, None, Opt}
use Rattle.tor_board.proofs.Names.{Option, Seated, Shape, Some, State, Tree, View, [], ap, arith, arrive, carried_after}
use Rattle.tor_board.proofs.Names.{claim, claimed, climb_from, dec_le, dite, fail, failures, false, first, gave_told}
use Rattle.tor_board.proofs.Names.{get_elem?, get_or, get_or-set_other, get_or-set_same, hand, handed, has_unit, inl}
use Rattle.tor_board.proofs.Names.{inr, length, look, looked, middle, min, nobody, only, refl, seal, set, set-get_or}
use Rattle.tor_board.proofs.Names.{set_again, set_here, slot_of, some, subst, suc, times, tops_of, total, true, word_of}
use Rattle.tor_board.proofs.Names.{zero, ℕ, ℕ_discrete, ◌%◌, ◌*◌, ◌+◌, ◌-◌, ◌/◌, ◌<◌, ◌^◌, ◌∙◌, ◌∷◌, ◌≡◌, ◌≤◌}
use Rattle.tor_board.proofs.{Finding.words-set, Going.held_ungiven, Moves.{few_claims, named_below}}
use Rattle.tor_board.proofs.{Resting.handed_over, Rising.lands, Steps.{climbs, gave}}
use Rattle.tor_board.proofs.Sums.{only-same, only-other, total-set, within}
use Rattle.tor_board.proofs.Trees.{has_unit-true, node_word, ready_same, side_covers, side_of}
use Rattle.atomic_table.specs.Table.{Step, homes_after}
use Rattle.tor_board.specs.{Plays.{arrived, failed, sealed}, Stepping.{IsHistory, IsNoStep, IsStepOf}}
use Rattle.tor_board.specs.Stepping as board
use Rattle.tor_board.specs.steps.Merging.{merged}

-- the table after a step that sets one word, and changes what one seat knows
abbrev moved : State (List ℕ) View → List (Opt (List ℕ)) → ℕ → ℕ → ℕ → View → State (List ℕ) View
moved s homes i n id w = record { words = set s.words i n; homes = homes; views = set s.views id w }

-- ---- what the rule says of the words once the seats are known

-- the least number that T has
same_least : (n x : ℕ) (T : ℕ → ℕ) → ((u : ℕ) → u < n → T u ≡ 0) → (n < nobody → 0 < T n) → n ≤ nobody
    → ((u : ℕ) → u < x → T u ≡ 0) → (x < nobody → 0 < T x) → x ≤ nobody → x ≡ n
same_least n x T below there most below' there' most' = grind (arith, below x, below' n)

module _ {shape : Shape} {s : State (List ℕ) View} (kept : Keeps shape s) (id : ℕ) (v w : View)
    (at : get_elem? s.views id ≡ some v) (i n : ℕ) (homes : List (Opt (List ℕ))) where
  abbrev after : State (List ℕ) View
  after = moved s homes i n id w

  -- the first word counts the claims
  pub claims_are : i ≡ 0 → Keeps shape after → n + v.claims ≡ get_or s.words 0 0 + w.claims
  claims_are e kept' = let here = get_or-set_same s.words 0 n 0 (omega (arith, kept.long)) in
      let a = subst (λ (j : ℕ). total (λ (u : View). u.claims) (set s.views id w) ≡ get_or (set s.words j n) 0 0) e
      kept'.claims.counted in
      omega (arith, kept.claims.counted, total-set (λ (u : View). u.claims) s.views id v w at)

  -- the second is the least failed unit
  pub least_is : (x : ℕ) → i ≡ 1 → Keeps shape after
      → ((u : ℕ) → u < x → total (failures (only u)) (set s.views id w) ≡ 0)
      → (x < nobody → 0 < total (failures (only x)) (set s.views id w)) → x ≤ nobody → n ≡ x
  least_is x e kept' below there most = let here = get_or-set_same s.words 1 n 0 kept.long in
      let k = subst (λ (j : ℕ). KeepsClaims shape.units (get_or (set s.words j n) 0 0) (get_or (set s.words j n) 1 0)
      (set s.views id w)) e kept'.claims in
      let k' = subst (λ (y : ℕ). KeepsClaims shape.units (get_or (set s.words 1 n) 0 0) y (set s.views id w)) here k in
      same_least x n (λ (u : ℕ). total (failures (only u)) (set s.views id w)) below there most k'.spared k'.attained
      k'.most

  -- the others count the arrivals
  pub arrivals_are : 1 < i → i < length s.words → Keeps shape after → n + v.arrivals ≡ get_or s.words i 0 + w.arrivals
  arrivals_are big inside kept' = let a = get_or-set_other s.words i 0 n 0 (λ e. omega arith) in
      let b = get_or-set_other s.words i 1 n 0 (λ e. omega arith) in
      omega (
        arith,
        kept.arrivals,
        kept'.arrivals,
        words-set s.words i n inside,
        total-set (λ (u : View). u.arrivals) s.views id v w at,
      )

-- ---- the steps

abbrev seat_after : Seated → View → Act (List ℕ) → Seated
seat_after me w a = (w, carried_after me.1 a)

-- no unit fails at a look
pub look_is : (shape : Shape) (st : Step (List ℕ)) → IsStepOf shape look st looked
look_is shape st s id n me w a at told kept kept' =
    let e = told.2 in let k = kept.claims in let old : ℕ = get_or s.words 1 0 in let after = seat_after me w a in
    let told' = subst (λ (i : ℕ). looked st me (get_or s.words i 0) after) e told in
    let failed : w.failed ≡ me.0.failed = dite (ℕ_discrete old nobody)
    (λ y. ap (λ (m : Seated). m.0.failed) (told'.0 y).0) (λ ne. ap (λ (m : Seated). m.0.failed) (told'.1 ne)) in
    let same : (u : ℕ) → total (failures (only u)) (set s.views id w) ≡ total (failures (only u)) s.views
    = λ u. omega (arith, total-set (failures (only u)) s.views id me.0 w at, ap (total (only u)) failed) in
    let is : n ≡ old = least_is kept id me.0 w at st.word n _ old e kept' (λ u h. omega (arith, same u, k.spared u h))
    (λ h. omega (arith, same old, k.attained h)) k.most in
    board.looks st after _ told' ((λ j. set s.words (e j) (is j)), refl)

-- a claim is one claim more
pub claim_is : (shape : Shape) (st : Step (List ℕ)) → IsStepOf shape claim st claimed
claim_is shape st s id n me w a at told kept kept' =
    let e = told.2 in let old : ℕ = get_or s.words 0 0 in let after = seat_after me w a in
    let told' = subst (λ (i : ℕ). claimed st me (get_or s.words i 0) after) e told in
    let more : w.claims ≡ me.0.claims + 1 = dite (dec_le me.0.units old)
    (λ past. ap (λ (m : Seated). m.0.claims) (told'.1 past))
    (λ more. ap (λ (m : Seated). m.0.claims) (told'.0 (omega arith)).0) in
    let is : n ≡ (old + 1) % 2 ^ 64
    = omega (arith, claims_are kept id me.0 w at st.word n _ e kept', few_claims kept.claims, kept.small) in
    board.claims st after _ told' ((λ j. set s.words (e j) (is j)), refl)

-- an arrival is one more
pub arrive_is : (shape : Shape) (st : Step (List ℕ)) → IsStepOf shape arrive st arrived
arrive_is shape st s id n me w a at told kept kept' =
    let c : Climb = told.2 in let here = told.0 c told.3 in let after = seat_after me w a in
    let is_tree : IsTreeOf shape c.tree = subst (ClimbsIn shape) told.3 (kept.known id me.0 at told.1).1 in
    let long = (kept.trees c.tree is_tree).long in let node = here.1 in
    let big : 1 < st.word = omega (arith, node.2) in
    let inside : st.word < length s.words = omega (arith, node.0, node.2) in
    let old : ℕ = get_or s.words st.word 0 in
    let more : w.arrivals ≡ me.0.arrivals + 1 = dite (ℕ_discrete old 0)
    (λ none. ap (λ (m : Seated). m.0.arrivals) (here.0.1 none))
    (λ ne. ap (λ (m : Seated). m.0.arrivals) (here.0.2 (omega (arith, here.0.0))).2) in
    let is : n ≡ (old + 1) % 2 ^ 64
    = omega (arith, arrivals_are kept id me.0 w at st.word n _ big inside kept', here.0.0) in
    board.arrives st after _ told (ap (set s.words st.word) is, refl)

-- no claim is made at a load of the first word
loads : {shape : Shape} {s : State (List ℕ) View} → Keeps shape s → (id : ℕ) (v w : View)
    → get_elem? s.views id ≡ some v → (i n : ℕ) (homes : List (Opt (List ℕ))) → i ≡ 0 → w.claims ≡ v.claims
    → Keeps shape (moved s homes i n id w)
    → n ≡ get_or s.words 0 0
loads kept id v w at i n homes e same kept' = omega (arith, claims_are kept id v w at i n homes e kept')

pub seal_is : (shape : Shape) (st : Step (List ℕ)) → IsStepOf shape seal st sealed
seal_is shape st s id n me w a at told kept kept' =
    let e = told.1 in let after = seat_after me w a in let c = told.3 in
    let told' = subst (λ (i : ℕ). sealed st me (get_or s.words i 0) after) e told in
    let same : w.claims ≡ me.0.claims = ap (λ (m : Seated). m.0.claims) (told.0 c told.4).0 in
    let is = loads kept id me.0 w at st.word n _ e same kept' in
    board.seals st after _ told' ((λ j. set s.words (e j) (is j)), refl)

-- at a failure the least failed unit is the lesser
pub fail_is : (shape : Shape) (st : Step (List ℕ)) → IsStepOf shape (fail st.first) st failed
fail_is shape st s id n me w a at told kept kept' =
    let e = told.1 in let k = kept.claims in let old : ℕ = get_or s.words 1 0 in let after = seat_after me w a in
    let told' = subst (λ (i : ℕ). failed st me (get_or s.words i 0) after) e told in
    let u : ℕ = st.first in let more : w.failed ≡ u ∷ me.0.failed = ap (λ (m : Seated). m.0.failed) told.0 in
    let near = named_below k id me.0 at u (omega (arith, told.3)) in
    let grown : (x : ℕ) → total (failures (only x)) (set s.views id w) ≡ total (failures (only x)) s.views + only x u
    = λ x. omega (arith, total-set (failures (only x)) s.views id me.0 w at, ap (total (only x)) more) in
    let is : n ≡ min old u = least_is kept id me.0 w at st.word n _ (min old u) e kept'
    (λ x h. omega (arith, grown x, k.spared x (omega arith), only-other x u (λ e. omega arith))) (λ h. grind arith)
    (omega (arith, k.most)) in
    board.fails st after _ told' ((λ j. set s.words (e j) (is j)), refl)

-- ---- a hand

module _ {shape : Shape} {s : State (List ℕ) View} (kept : Keeps shape s) (id : ℕ) (v : View)
    (at : get_elem? s.views id ≡ some v) (idle : v.climb ≡ None) (u : ℕ) (hash : List ℕ) (has : 0 < times u v.held)
    (n : ℕ) (homes : List (Opt (List ℕ)))
    (kept' : Keeps shape (moved s homes 0 n id (handed v u hash None)))
    (t : Tree) (is : IsTreeOf shape t) (low : t.first ≤ u) (high : u < t.first + t.count) where
  abbrev climb : Climb
  climb = climb_from t 0 (u - t.first) hash []

  abbrev without_climb : List View
  without_climb = set s.views id (handed v u hash None)

  abbrev with_climb : List View
  with_climb = set s.views id (handed v u hash (Some climb))

  -- a unit of the tree that is handed in has to climb, or its arrival would be counted where none was
  must_climb : ⊥
  must_climb = let tree = kept.trees t is in
      let right = (handed_over tree id v at idle u hash low high (held_ungiven kept.claims id v at u has)).2 in
      let wrong = kept'.trees t is in let up = (lands t tree.some_unit tree.tall 0 (u - t.first) (omega arith)
      (omega arith)).1 in
      let sum : (g : View → ℕ) → total g without_climb + g (handed v u hash (Some climb))
      ≡ total g with_climb + g (handed v u hash None)
      = λ g. omega (
        arith,
        total-set g s.views id v (handed v u hash None) at,
        total-set g s.views id v (handed v u hash (Some climb)) at,
      ) in
      let far : (m : ℕ) → get_or (set s.words 0 n) (word_of t m) 0 ≡ get_or s.words (word_of t m) 0
      = λ m. get_or-set_other s.words 0 (word_of t m) n 0 (λ e. omega arith) in
      let more : (slot k j : ℕ) → IsSide t slot k j → wrong.arrived slot ≡ right.arrived slot + only slot climb.slot
      = λ slot k j side. omega (
        arith,
        wrong.flow slot k j side,
        right.flow slot k j side,
        sum (climbs slot),
        ready_same t s.words (set s.words 0 n) with_climb without_climb (λ m pos h. ap (λ (x : ℕ). x / 2) (far m))
            (λ j h. omega (arith, sum (gave (t.first + j)))) k j (side_covers t tree.some_unit slot k j side),
      ) in elim up [
        | inl p ↦ let k : ℕ = climb.level in let i : ℕ = p.0 in let side : ℕ = p.1 in let m : ℕ = middle k i in
            let here = more (slot_of t m side) k (2 * i + side) (side_of t k i side p.2 p.3) in
            let beside = more (slot_of t m (1 - side)) k (2 * i + (1 - side))
            (side_of t k i (1 - side) (omega arith) p.3) in
            let one : only (slot_of t m side) climb.slot ≡ 1
            = ap (only (slot_of t m side)) p.4 ∙ only-same (slot_of t m side) in
            omega (arith, node_word wrong k i side p.2 p.3, node_word right k i side p.2 p.3, far m)
        | inr p ↦ let here = more (slot_of t 0 0) t.height 0 (inr (refl, refl, refl)) in
            let one : only (slot_of t 0 0) climb.slot ≡ 1 = ap (only (slot_of t 0 0)) p.0 ∙ only-same (slot_of t 0 0) in
            omega (arith, wrong.tops, right.tops, sum (λ (x : View). tops_of t.number x.tops))
      ]

pub hand_is : (shape : Shape) (st : Step (List ℕ)) (tree : Option Tree) (u : ℕ) (hash : List ℕ)
    → IsStepOf shape (hand u hash) st (gave_told tree u hash)
hand_is shape st None u hash s id n me w a at told kept kept' =
    let e = told.1 in let after = seat_after me w a in let v : View = me.0 in
    let told' = subst (λ (i : ℕ). gave_told None u hash st me (get_or s.words i 0) after) e told in
    let same : w.claims ≡ v.claims = ap (λ (m : Seated). m.0.claims) told.0 in
    let is = loads kept id v w at st.word n _ e same kept' in
    let new : w ≡ handed v u hash None = ap (λ (m : Seated). m.0) told.0 in
    let homes : List (Opt (List ℕ)) = homes_after s.homes me.1 a in
    let kept'' : Keeps shape (moved s homes 0 n id (handed v u hash None))
    = subst (λ (x : ℕ × View). Keeps shape (moved s homes x.0 n id x.1)) (λ j. (e j, new j)) kept' in
    board.hands st after _ u hash (λ t is_tree. out_of t is_tree (has_unit t u) refl kept'') told'
    ((λ j. set s.words (e j) (is j)), refl) where
      out_of : (t : Tree) → IsTreeOf shape t → (b : Bool) → has_unit t u ≡ b
          → Keeps shape (moved s (homes_after s.homes me.1 a) 0 n id (handed me.0 u hash None)) → has_unit t u ≡ false
      out_of t is_tree false is kept'' = is
      out_of t is_tree true in_tree kept'' = let range = has_unit-true t u in_tree in
          absurd (must_climb kept id me.0 at told.2.1 u hash told.3 n _ kept'' t is_tree range.0 range.1)
hand_is shape st (Some t) u hash s id n me w a at told kept kept' =
    let e = told.1 in let after = seat_after me w a in
    let told' = subst (λ (i : ℕ). gave_told (Some t) u hash st me (get_or s.words i 0) after) e told in
    let same : w.claims ≡ me.0.claims = ap (λ (m : Seated). m.0.claims) told.0.1 in
    let is = loads kept id me.0 w at st.word n _ e same kept' in
    let room : w.room ≡ me.0.room = ap (λ (m : Seated). m.0.room) told.0.1 in
    let c : Climb = climb_from t 0 (u - t.first) hash [] in
    let in_climb : w.climb ≡ Some c = ap (λ (m : Seated). m.0.climb) told.0.1 in
    let known = kept'.known id w (set_here s.views id w (within s.views id me.0 at)) (omega (arith, told.2.0)) in
    let is_tree : IsTreeOf shape t = subst (ClimbsIn shape) in_climb known.1 in
    board.begins st after _ u hash t is_tree told' ((λ j. set s.words (e j) (is j)), refl)

-- ---- the load after a join, and the beginning

pub merge_is : (shape : Shape) (st : Step (List ℕ)) → IsNoStep shape st merged
merge_is shape st s id n me w a at told kept kept' =
    let e = told.0 in let same : w ≡ me.0 = ap (λ (m : Seated). m.0) told.1 in
    let is = loads kept id me.0 w at st.word n _ e (ap (λ (v : View). v.claims) same) kept' in
    ((λ j. set s.words (e j) (is j)) ∙ set-get_or s.words 0 0, ap (set s.views id) same ∙ set_again s.views id me.0 at)

one_of : (ws : List ℕ) (i : ℕ) → get_or ws i 0 ≤ total (λ (x : ℕ). x) ws
one_of [] i = omega arith
one_of (x ∷ xs) zero = omega arith
one_of (x ∷ xs) (suc i) = omega (arith, one_of xs i)

third_of : (ws : List ℕ) (i : ℕ) → 1 < i
    → get_or ws 0 0 + get_or ws 1 0 + get_or ws i 0 ≤ total (λ (x : ℕ). x) ws
third_of ws zero big = absurd (omega arith)
third_of ws (suc zero) big = absurd (omega arith)
third_of [] (suc (suc i)) big = omega arith
third_of (x ∷ []) (suc (suc i)) big = omega arith
third_of (x ∷ y ∷ xs) (suc (suc i)) big = omega (arith, one_of xs i)

-- with a first seat alone, a table that keeps the rule has just opened
pub opens_so : (shape : Shape) (s : State (List ℕ) View) → Keeps shape s → s.views ≡ first shape.units ∷ []
    → IsHistory shape [] s
opens_so shape s kept views =
    let sum : (g : View → ℕ) → total g s.views ≡ g (first shape.units) + 0 = λ g. ap (total g) views in
    let least : ℕ = get_or s.words 1 0 in let k = kept.claims in
    board.opened s kept (omega (arith, k.counted, sum (λ (v : View). v.claims)))
    (dite (ℕ_discrete least nobody) (λ e. e)
    (λ ne. absurd (omega (arith, k.attained (omega (arith, k.most)), sum (failures (only least))))))
    (λ i big. omega (arith, third_of s.words i big, kept.arrivals, sum (λ (v : View). v.arrivals))) views

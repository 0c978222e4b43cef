-- Claims and failures: the part of the rule on them, and each step on the first two words, which keeps the whole.
use Rattle.{atomic_table.specs.Table.keeps, tor_board.proofs.Finding.words-set, tor_board.proofs.Names.{Allows, Bool}}
use Rattle.tor_board.proofs.Names.{ClimbsIn, GivenUnit, IsFree, IsKnown, IsLeastOf, IsTreeOf, Keeps, KeepsClaims, List}
use Rattle.tor_board.proofs.Names.{None, Seated, Shape, State, Tree, View, WasGiven, [], ap, arith, below, claimed}
use Rattle.tor_board.proofs.Names.{cond, dec_le, dite, failing, failures, false, gave_told, get_elem?, get_or}
use Rattle.tor_board.proofs.Names.{get_or-set_other, get_or-set_same, handed, has_out, inl, inr, joined_in, length-set}
use Rattle.tor_board.proofs.Names.{looked, min, named, nobody, none, only, refl, set, set_again, some, spent, step}
use Rattle.tor_board.proofs.Names.{stopped, subst, sym, times, tops_of, total, true, units_of, word_of, ℕ, ℕ_discrete}
use Rattle.tor_board.proofs.{Names.{◌%◌, ◌+◌, ◌<◌, ◌^◌, ◌∙◌, ◌∷◌, ◌≡◌, ◌≢◌, ◌≤◌, ◌⊎◌}, Steps.{Does, IsAway}}
use Rattle.tor_board.proofs.{Steps.{away_rooted, gave, seat_rooted, unmoved_seat, weight}, Sums.{alone, below-only}}
use Rattle.tor_board.proofs.Sums.{below_more, cond_le, only-other, only-same, set_all, term_le, total-map, total-set}
use Rattle.tor_board.{proofs.Sums.{total-without, total_le}, proofs.Trees.by_sides, specs.Plays.failed}
use Rattle.tor_board.specs.steps.Merging.{merged}

-- the claims are at most 256 more than the units
pub few_claims : {units claims least : ℕ} {views : List View} → KeepsClaims units claims least views
    → claims ≤ units + 256
few_claims {views = views} k
    = omega (arith, k.bounded, k.rooms, total_le stopped (λ (v : View). v.room) views (λ u. cond_le u.done u.room))

module _ {units claims least : ℕ} {views : List View} (k : KeepsClaims units claims least views) (id : ℕ) (v : View)
    (at : get_elem? views id ≡ some v) where
  -- a unit that a seat names was claimed
  pub named_below : (u : ℕ) → 0 < named (only u) v → (u < claims) × (u < units)
  named_below u has = grind (arith, term_le (named (only u)) views id v at, below-only u (min claims units))

  -- no seat has failed a unit below the least
  pub least_le : (u : ℕ) → 0 < failures (only u) v → least ≤ u
  least_le u has = grind (arith, term_le (failures (only u)) views id v at, k.spared u)

  -- and none while the least is nobody
  pub none_failed : units ≤ 2 ^ 62 → least ≡ nobody → v.failed ≡ []
  none_failed small no_one = by_list v.failed refl where
    by_list : (xs : List ℕ) → v.failed ≡ xs → v.failed ≡ []
    by_list [] is = is
    by_list (x ∷ xs) is = let one : 0 < failures (only x) v = omega (arith, ap (total (only x)) is, only-same x) in
        let low = least_le x one in let near = named_below x (omega arith) in absurd (omega arith)

module _ {units claims least : ℕ} {views : List View} (k : KeepsClaims units claims least views) (id : ℕ) (v : View)
    (at : get_elem? views id ≡ some v) (some_room : 0 < v.room) (claims' : ℕ) (w : View)
    (names : (f : ℕ → ℕ) → named f w + below f (min claims units) ≡ named f v + below f (min claims' units))
    (room : w.room ≡ v.room) (counts : w.claims + claims ≡ v.claims + claims')
    (bound : (s s' : ℕ) → claims ≤ units + s → s' + stopped v ≡ s + stopped w → claims' ≤ units + s') where
  -- the words and the seat change, and no other view does
  pub changed : (least' : ℕ) → ((u : ℕ) → u < least' → total (failures (only u)) (set views id w) ≡ 0)
      → (least' < nobody → 0 < total (failures (only least')) (set views id w)) → least' ≤ least → claims ≤ claims'
      → (w.done ≡ true → (v.done ≡ true) ⊎ ((least' < nobody) ⊎ (units ≤ claims')))
      → KeepsClaims units claims' least' (set views id w)
  changed least' spared attained lower more done =
      let still : (least < nobody) ⊎ (units ≤ claims) → (least' < nobody) ⊎ (units ≤ claims') = λ t. grind arith in
      record {
        once = λ f. omega (arith, total-set (named f) views id v w at, k.once f, names f);
        rooms = omega (arith, total-set (λ (u : View). u.room) views id v w at, k.rooms);
        gone = set_all (λ (u : View). u.room ≡ 0 → u ≡ spent) views id w k.gone (λ no_one. absurd (omega arith));
        counted = omega (arith, total-set (λ (u : View). u.claims) views id v w at, k.counted, counts);
        bounded = bound (total stopped views) (total stopped (set views id w)) k.bounded
            (total-set stopped views id v w at);
        spared = spared;
        attained = attained;
        most = omega (arith, k.most);
        why = set_all (λ (u : View). u.done ≡ true → (least' < nobody) ⊎ (units ≤ claims')) views id w
            (λ i u e yes. still (k.why i u e yes))
            (λ yes. elim (done yes) [ inl was ↦ still (k.why id v at was) | inr now ↦ now ]);
      }

  -- the failed units of the seat stay, and so does the least
  pub steady : w.failed ≡ v.failed → claims ≤ claims'
      → (w.done ≡ true → (v.done ≡ true) ⊎ ((least < nobody) ⊎ (units ≤ claims')))
      → KeepsClaims units claims' least (set views id w)
  steady same more done =
      let moved : (u : ℕ) → total (failures (only u)) (set views id w) ≡ total (failures (only u)) views
      = λ u. omega (arith, total-set (failures (only u)) views id v w at, ap (λ l. total (only u) l) same) in
      changed least (λ u h. omega (arith, moved u, k.spared u h))
      (λ h. omega (arith, moved least, k.attained h)) (omega arith) more done

-- no unit is claimed or failed, and the seat has its room and is done as before
pub calm : {units claims least : ℕ} {views : List View} → KeepsClaims units claims least views → (id : ℕ) (v : View)
    → get_elem? views id ≡ some v → 0 < v.room → (w : View) → ((f : ℕ → ℕ) → named f w ≡ named f v)
    → (w.room ≡ v.room) × (w.failed ≡ v.failed) × (w.done ≡ v.done) × (w.claims ≡ v.claims)
    → KeepsClaims units claims least (set views id w)
calm {claims = claims} k id v at some_room w names same =
    let still : stopped w ≡ stopped v = λ i. cond (same.2 i) (same.0 i) 0 in
    steady k id v at some_room claims w (λ f. omega (arith, names f)) same.0 (omega (arith, same.3))
    (λ t t' h e. omega arith) same.1 (omega arith) (λ e. inl (sym same.2 ∙ e))

module _ {units claims least : ℕ} {views : List View} (k : KeepsClaims units claims least views) (id : ℕ) (v : View)
    (at : get_elem? views id ≡ some v) (whole : v.room ≡ 256) where
  -- the others have nothing
  pub only_one : (g : View → ℕ) → g spent ≡ 0 → total g views ≡ g v
  only_one g no_one = alone g (λ (u : View). u.room) views id v at (k.rooms ∙ sym whole)
      (λ i w e z. ap g (k.gone i w e z) ∙ no_one)

  pub least_failed : least ≢ nobody → IsLeastOf v.failed least
  least_failed ne = let whole = only_one (failures (only least)) refl in
      (omega (arith, k.attained (omega (arith, k.most))), λ x has. least_le k id v at x has)

  pub all_given : units ≤ 2 ^ 62 → (limit : ℕ) → (least ≢ nobody → limit ≡ least) → (least ≡ nobody → limit ≡ units)
      → v.held ≡ [] → (v.done ≡ true) ⊎ (v.failed ≢ []) → (u : ℕ) → u < limit → times u (units_of v.given) ≡ 1
  all_given small limit some_is none_is held done u near =
      let end : u < min claims units → u < least → times u (units_of v.given) ≡ 1 = λ inside under.
      let one = only_one (named (only u)) refl in let part = term_le (failures (only u)) views id v at in
      let here = (below-only u (min claims units)).2 inside in
      let given = total-map (only u) (λ (g : GivenUnit). g.unit) v.given in
      omega (arith, k.once (only u), k.spared u under, ap (total (only u)) held) in dite (ℕ_discrete least nobody)
      (λ no_one. let over : units ≤ claims = elim done [
        | inl y ↦ elim (k.why id v at y) [ inl h ↦ omega arith | inr h ↦ h ]
        | inr n ↦ absurd (n (none_failed k id v at small no_one))
      ] in end (omega (arith, none_is no_one)) (omega (arith, none_is no_one)))
      (λ ne. grind (arith, least_failed ne, named_below k id v at least, (least_failed ne).0, some_is ne))

-- ---- the rule of every tree, where the seat is in no climb

-- it is in no climb, its room, arrivals and tops stay, and it gives none of the trees' units
abbrev pub IsAlike : Shape → View → View → Type 0
IsAlike shape v w = (w.climb ≡ None) × (w.tops ≡ v.tops) × (w.arrivals ≡ v.arrivals) × (w.units ≡ v.units)
    × (w.room ≡ v.room) × ((t : Tree) → joined_in t w.given ≡ joined_in t v.given)
    × ((f : ℕ → List ℕ → ℕ) → weight f v ≤ weight f w)
    × ((t : Tree) → IsTreeOf shape t → (j : ℕ) → j < t.count → gave (t.first + j) w ≡ gave (t.first + j) v)

alike : (shape : Shape) (v : View) → v.climb ≡ None → IsAlike shape v v
alike shape v idle = (idle, refl, refl, refl, refl, (λ t. refl), (λ f. omega arith), λ t is j h. refl)

module _ {shape : Shape} {s : State (List ℕ) View} (kept : Keeps shape s) (id : ℕ) (v : View)
    (at : get_elem? s.views id ≡ some v) (idle : v.climb ≡ None) where
  steady_all : (i n : ℕ) → i < 2 → (w : View) → IsAlike shape v w
      → KeepsClaims shape.units (get_or (set s.words i n) 0 0) (get_or (set s.words i n) 1 0) (set s.views id w)
      → Keeps shape record { words = set s.words i n; homes = s.homes; views = set s.views id w }
  steady_all i n low w like claims = let sum = λ (g : View → ℕ). total-set g s.views id v w at in
      let far : (t : Tree) (m : ℕ) → get_or (set s.words i n) (word_of t m) 0 ≡ get_or s.words (word_of t m) 0
      = λ t m. get_or-set_other s.words i (word_of t m) n 0 (λ e. omega arith) in
      let first_two = by_sides (λ (b : ℕ). get_or (set s.words b n) 0 0 + get_or (set s.words b n) 1 0
      + get_or s.words b 0 ≡ get_or s.words 0 0 + get_or s.words 1 0 + n)
      (let a = get_or-set_same s.words 0 n 0 (omega (arith, kept.long)) in
      let d = get_or-set_other s.words 0 1 n 0 (omega arith) in omega arith)
      (omega (arith, get_or-set_same s.words 1 n 0 kept.long, get_or-set_other s.words 1 0 n 0 (omega arith))) i low in
      record {
        small = kept.small;
        long = omega (arith, length-set s.words i n, kept.long);
        unused = λ j big free. rw (get_or-set_other s.words i j n 0 (λ e. omega arith)) (kept.unused j big free);
        claims = claims;
        known = set_all (λ (u : View). 0 < u.room → IsKnown shape u) s.views id w kept.known (λ some_room.
            let known = kept.known id v at (omega (arith, like.4)) in
            (like.3 ∙ known.0, subst (ClimbsIn shape) (sym like.0) tt));
        arrivals = grind (arith, words-set s.words i n, kept.arrivals, kept.long, like.2);
        joins = λ t is. grind (arith, kept.joins t is, like.5 t);
        trees = λ t is. let tree = kept.trees t is in let w_away : IsAway t w.climb = λ x h. ap (has_out x) like.0 in
            unmoved_seat tree (set s.words i n) s.homes (λ m h. far t m) (omega (arith, length-set s.words i n))
            (λ x h. refl) (omega arith) id v w at (ap (tops_of t.number) like.1)
            (away_rooted (WasGiven s.views) t tree.some_unit w.climb w_away, rw like.1 (seat_rooted tree id v at).1)
            (λ x h. ap (has_out x) idle) w_away like.6 (like.7 t is);
      }

  -- the first word becomes n, or the second
  pub steady_first : (n : ℕ) (w : View) → IsAlike shape v w
      → KeepsClaims shape.units n (get_or s.words 1 0) (set s.views id w)
      → Keeps shape record { words = set s.words 0 n; homes = s.homes; views = set s.views id w }
  steady_first n w like claims = steady_all 0 n (omega arith) w like
      (let here = get_or-set_same s.words 0 n 0 (omega (arith, kept.long)) in
      rw (here, get_or-set_other s.words 0 1 n 0 (omega arith)) claims)

  pub steady_second : (n : ℕ) (w : View) → IsAlike shape v w
      → KeepsClaims shape.units (get_or s.words 0 0) n (set s.views id w)
      → Keeps shape record { words = set s.words 1 n; homes = s.homes; views = set s.views id w }
  steady_second n w like claims = steady_all 1 n (omega arith) w like
      (rw (get_or-set_same s.words 1 n 0 kept.long, get_or-set_other s.words 1 0 n 0 (omega arith)) claims)

-- ---- the steps

pub looks : (shape : Shape) (slots id : ℕ) (m : Seated) → 0 < m.0.room → m.0.climb ≡ None → m.0.done ≡ false
    → Allows (Keeps shape) slots id m 1 (λ n. n) (looked (step slots 1 0 0 none) m)
looks shape slots id m some_room idle not_done s kept homes at small =
    let n : ℕ = get_or s.words 1 0 in let c : ℕ = get_or s.words 0 0 in let k = kept.claims in
    let free : IsFree m.0 = (some_room, idle) in let change : (d l : Bool) → stopped m.0 ≤ cond d m.0.room 0
    → (d ≡ true → (m.0.done ≡ true) ⊎ ((n < nobody) ⊎ (shape.units ≤ c)))
    → looked (step slots 1 0 0 none) m n (record m.0 { done = d; looked = l }, m.1)
    → Does shape s s.homes id 1 n m.1 (looked (step slots 1 0 0 none) m n)
    = λ d l room why told. let w : View = record m.0 { done = d; looked = l } in
    let claims = steady k id m.0 at some_room c w (λ f. refl) refl refl (λ t t' h e. omega arith) refl (omega arith)
    why in
    (w, keeps, tt, steady_second kept id m.0 at idle n w (alike shape m.0 idle) claims, told) in
    dite (ℕ_discrete n nobody) (λ none-yet. change m.0.done true (omega arith) (λ e. inl e)
    ((λ e. (refl, none_failed k id m.0 at kept.small e)), (λ ne. absurd (ne none-yet)), refl, free, not_done))
    (λ some-failed. change true false (cond_le m.0.done m.0.room) (λ e. inr (inl (omega (arith, k.most))))
    ((λ e. absurd (some-failed e)), (λ ne. refl), refl, free, not_done))

pub claims : (shape : Shape) (slots id : ℕ) (m : Seated) → 0 < m.0.room → m.0.climb ≡ None → m.0.done ≡ false
    → m.0.looked ≡ true → m.0.units ≡ shape.units
    → Allows (Keeps shape) slots id m 0 (λ n. (n + 1) % 2 ^ 64) (claimed (step slots 0 1 0 none) m)
claims shape slots id m some_room idle not_done saw of s kept homes at small =
    let units : ℕ = shape.units in let n : ℕ = get_or s.words 0 0 in let k = kept.claims in
    let free : IsFree m.0 = (some_room, idle) in
    let next : (n + 1) % 2 ^ 64 ≡ n + 1 = omega (arith, few_claims k, kept.small) in
    let waiting : stopped m.0 ≡ 0 = ap (λ b. cond b m.0.room 0) not_done in let change : (held : List ℕ) (d : Bool)
    → ((f : ℕ → ℕ) → total f held + below f (min n units) ≡ total f m.0.held + below f (min (n + 1) units))
    → ((s s' : ℕ) → n ≤ units + s → s' + stopped m.0 ≡ s + cond d m.0.room 0 → n + 1 ≤ units + s')
    → (d ≡ true → (m.0.done ≡ true) ⊎ ((get_or s.words 1 0 < nobody) ⊎ (units ≤ n + 1)))
    → claimed (step slots 0 1 0 none) m n
    (record m.0 { held = held; done = d; looked = false; claims = m.0.claims + 1 }, m.1)
    → Does shape s s.homes id 0 ((n + 1) % 2 ^ 64) m.1 (claimed (step slots 0 1 0 none) m n)
    = λ held d names bound why told.
    let w : View = record m.0 { held = held; done = d; looked = false; claims = m.0.claims + 1 } in
    let claims = steady k id m.0 at some_room (n + 1) w (λ f. omega (arith, names f)) refl (omega arith) bound refl
    (omega arith) why in
    (w, keeps, tt, rw next (steady_first kept id m.0 at idle (n + 1) w (alike shape m.0 idle) claims), told) in
    dite (dec_le units n) (λ over. change m.0.held true
    (λ f. let e : min n units ≡ units = omega arith in let e' : min (n + 1) units ≡ units = omega arith in
    rw (e, e') refl) (λ t t' h e. omega arith) (λ e. inr (inr (omega arith)))
    ((λ h. absurd (omega arith)), (λ h. refl), refl, free, not_done, saw, refl)) (λ under.
    let unnamed : named (only n) m.0 ≡ 0 = let z = (below-only n (min n units)).1 (omega arith) in
    omega (arith, term_le (named (only n)) s.views id m.0 at, k.once (only n)) in change (n ∷ m.0.held) m.0.done
    (λ f. grind (arith, below_more f n)) (λ t t' h e. omega arith) (λ e. inl e)
    ((λ h. (refl, unnamed)), (λ h. absurd (omega arith)), refl, free, not_done, saw, refl))

-- a unit of no tree is given
pub hands_alone : (shape : Shape) (slots id : ℕ) (m : Seated) (u : ℕ) (hash : List ℕ) → 0 < m.0.room → m.0.climb ≡ None
    → 0 < times u m.0.held → ((t : Tree) → IsTreeOf shape t → (j : ℕ) → j < t.count → u ≢ t.first + j)
    → Allows (Keeps shape) slots id m 0 (λ n. n) (gave_told None u hash (step slots 0 0 0 none) m)
hands_alone shape slots id m u hash some_room idle has alone s kept homes at small =
    let n : ℕ = get_or s.words 0 0 in let w : View = handed m.0 u hash None in
    let other = λ (t : Tree) (is : IsTreeOf shape t) (j : ℕ) (h : j < t.count).
    only-other (t.first + j) u (alone t is j h) in let like : IsAlike shape m.0 w = grind arith in
    let whole = steady_first kept id m.0 at idle n w like
    (calm kept.claims id m.0 at some_room w (λ f. omega (arith, total-without f u m.0.held has))
    (refl, refl, refl, refl)) in
    (w, keeps, tt, whole, (refl, refl, (some_room, idle), has))

pub fails : (shape : Shape) (slots id : ℕ) (m : Seated) (u : ℕ) → 0 < m.0.room → m.0.climb ≡ None → 0 < times u m.0.held
    → Allows (Keeps shape) slots id m 1 (λ n. min n u) (failed (step slots 1 u 0 none) m)
fails shape slots id m u some_room idle has s kept homes at small =
    let c : ℕ = get_or s.words 0 0 in let least : ℕ = get_or s.words 1 0 in let k = kept.claims in
    let w : View = failing m.0 u in
    let grown : (x : ℕ) → total (failures (only x)) (set s.views id w) ≡ total (failures (only x)) s.views + only x u
    = λ x. omega (arith, total-set (failures (only x)) s.views id m.0 w at) in
    let claims = changed k id m.0 at some_room c w (λ f. omega (arith, total-without f u m.0.held has)) refl refl
    (λ t t' h e. omega arith) (min least u)
    (λ x h. omega (arith, grown x, k.spared x (omega arith), only-other x u (λ e. omega arith))) (λ h. grind arith)
    (omega arith) (omega arith) (λ e. inl e) in
    let whole = steady_second kept id m.0 at idle (min least u) w (alike shape m.0 idle) claims in
    (w, keeps, tt, whole, (refl, refl, (some_room, idle), has))

pub merges : (shape : Shape) (slots id : ℕ) (m : Seated) → m.0.climb ≡ None
    → Allows (Keeps shape) slots id m 0 (λ n. n) (merged (step slots 0 0 0 none) m)
merges shape slots id m idle s kept homes at small = let n : ℕ = get_or s.words 0 0 in let k = kept.claims in
    let one : (u : ℕ) → named (only u) m.0 ≤ 1 = λ u. let a = (below-only u (min n shape.units)).0 in
    let b = term_le (named (only u)) s.views id m.0 at in omega (arith, k.once (only u)) in
    let whole = steady_first kept id m.0 at idle n m.0 (alike shape m.0 idle) (rw (set_again s.views id m.0 at) k) in
    (m.0, keeps, tt, whole, (refl, refl, omega (arith, term_le (λ (v : View). v.room) s.views id m.0 at, k.rooms), one))

-- Splitting and joining seats keeps the rule.
use Rattle.tor_board.proofs.Names.{Bool, GivenUnit, IsKnown, IsRoot, Keeps, List, None, Shape, State, View, WasGiven}
use Rattle.tor_board.proofs.Names.{[], ap, arith, both, climbs_to, cond, failures, fresh, get_elem?, get_or, has_out}
use Rattle.tor_board.proofs.Names.{has_unit, joined_in, keeping, named, nobody, only, refl, set, set_else, some, spent}
use Rattle.tor_board.proofs.Names.{stopped, sym, total, true, ℕ, ◌++◌, ◌+◌, ◌-◌, ◌/◌, ◌<◌, ◌||◌, ◌∙◌, ◌∷◌, ◌≡◌, ◌≢◌}
use Rattle.tor_board.proofs.{Names.{◌≤◌, ◌⊎◌}, Steps.{SeatRooted, seat_more, seat_rooted, unmoved}, Sums.set_all}
use Rattle.tor_board.proofs.{Sums.{snoc_all, total-append, total-set}, Trees.told_append}

pub stopped_parts : (b : Bool) (a c n : ℕ) → a + c ≡ n → cond b a 0 + cond b c 0 ≡ cond b n 0
stopped_parts b a c n e = grind arith

pub stopped_both : (b c : Bool) (n m : ℕ) → cond b n 0 + cond c m 0 ≤ cond (b || c) (n + m) 0
stopped_both b c n m = grind arith

-- ---- a seat is split

module _ (shape : Shape) {s : State (List ℕ) View} (kept : Keeps shape s) (id : ℕ) (v : View)
    (at : get_elem? s.views id ≡ some v) (two : 2 ≤ v.room) where
  abbrev split_views : List View
  split_views = set s.views id (keeping v) ++ fresh v ∷ []

  pub split_sum : (g : View → ℕ) → total g split_views + g v ≡ total g s.views + (g (keeping v) + g (fresh v))
  split_sum g = let a = total-append g (set s.views id (keeping v)) (fresh v ∷ []) in
      let b = total-set g s.views id v (keeping v) at in omega arith

  split_all : (P : View → Type 0) → ((j : ℕ) (u : View) → get_elem? s.views j ≡ some u → P u) → P (keeping v)
      → P (fresh v) → (j : ℕ) (u : View) → get_elem? split_views j ≡ some u → P u
  split_all P all mine new
      = snoc_all P (set s.views id (keeping v)) (fresh v) (set_all P s.views id (keeping v) all mine) new

  pub split_keeps : Keeps shape record { words = s.words; homes = s.homes; views = split_views }
  split_keeps = record {
    small = kept.small;
    long = kept.long;
    unused = kept.unused;
    known = let mine = kept.known id v at (omega arith) in
        split_all (λ (u : View). 0 < u.room → IsKnown shape u) kept.known (λ _. mine) (λ _. (mine.0, tt));
    arrivals = omega (arith, kept.arrivals, split_sum (λ (u : View). u.arrivals));
    joins = λ t is. omega (arith, kept.joins t is, split_sum (λ (u : View). joined_in t u.given));
    claims = let k = kept.claims in let least : ℕ = get_or s.words 1 0 in record {
      once = λ f. omega (arith, split_sum (named f), k.once f);
      rooms = omega (arith, split_sum (λ (u : View). u.room), k.rooms);
      counted = omega (arith, split_sum (λ (u : View). u.claims), k.counted);
      gone = split_all (λ (u : View). u.room ≡ 0 → u ≡ spent) k.gone (λ none. absurd (omega arith))
          (λ none. absurd (omega arith));
      bounded = let d = stopped_parts v.done (v.room - v.room / 2) (v.room / 2) v.room (omega arith) in
          omega (arith, split_sum stopped, k.bounded);
      spared = λ u h. omega (arith, split_sum (failures (only u)), k.spared u h);
      attained = λ h. omega (arith, split_sum (failures (only least)), k.attained h);
      most = k.most;
      why = split_all (λ (u : View). u.done ≡ true → (least < nobody) ⊎ (shape.units ≤ get_or s.words 0 0))
          k.why (k.why id v at) (k.why id v at);
    };
    trees = λ t is. let tree = kept.trees t is in
        unmoved tree s.words s.homes (λ m h. refl) (omega arith) (λ x h. refl) (omega arith) split_views (λ g. g v)
        (λ g. g (keeping v) + g (fresh v)) split_sum (λ f. omega arith) (λ j h. omega arith)
        (λ x h. (omega arith, omega arith)) (omega arith)
        (λ stand. let old = λ (u : View) (has : SeatRooted (WasGiven s.views) t u).
        seat_more t (WasGiven s.views) (WasGiven split_views) stand u has in
        split_all (SeatRooted (WasGiven split_views) t) (λ j u e. old u (seat_rooted tree j u e))
        (old v (seat_rooted tree id v at)) (tt, tt));
  }

-- ---- two seats are joined

module _ (shape : Shape) {s : State (List ℕ) View} (kept : Keeps shape s) (id : ℕ) (v : View)
    (at : get_elem? s.views id ≡ some v) (other : ℕ) (w : View) (apart : other ≢ id)
    (there : get_elem? (set s.views id (both v w)) other ≡ some w) (some_room : 0 < v.room)
    (idle' : w.climb ≡ None) where
  abbrev join_views : List View
  join_views = set (set s.views id (both v w)) other spent

  pub join_sum : (g : View → ℕ) → total g join_views + (g w + g v) ≡ total g s.views + (g (both v w) + g spent)
  join_sum g = let a = total-set g (set s.views id (both v w)) other w spent there in
      let b = total-set g s.views id v (both v w) at in omega arith

  join_all : (P : View → Type 0) → ((j : ℕ) (u : View) → get_elem? s.views j ≡ some u → P u) → P (both v w) → P spent
      → (j : ℕ) (u : View) → get_elem? join_views j ≡ some u → P u
  join_all P all mine gone
      = set_all P (set s.views id (both v w)) other spent (set_all P s.views id (both v w) all mine) gone

  before : get_elem? s.views other ≡ some w
  before = sym (set_else s.views id other (both v w) apart) ∙ there

  pub join_keeps : Keeps shape record { words = s.words; homes = s.homes; views = join_views }
  join_keeps = record {
    small = kept.small;
    long = kept.long;
    unused = kept.unused;
    known = join_all (λ (u : View). 0 < u.room → IsKnown shape u) kept.known (λ _. kept.known id v at some_room)
        (λ y. omega arith);
    arrivals = omega (arith, kept.arrivals, join_sum (λ (u : View). u.arrivals));
    joins = λ t is. let a = kept.joins t is in let b = join_sum (λ (u : View). joined_in t u.given) in
        omega (arith, total-append (λ (g : GivenUnit). cond (has_unit t g.unit) g.joined 0) v.given w.given);
    claims = let k = kept.claims in let least : ℕ = get_or s.words 1 0 in
        let more = λ (u : ℕ). total-append (only u) v.failed w.failed in record {
          once = λ f. let a = total-append f v.held w.held in let b = total-append f v.failed w.failed in
              omega (arith, join_sum (named f), k.once f, total-append (λ (g : GivenUnit). f g.unit) v.given w.given);
          rooms = omega (arith, join_sum (λ (u : View). u.room), k.rooms);
          counted = omega (arith, join_sum (λ (u : View). u.claims), k.counted);
          gone = join_all (λ (u : View). u.room ≡ 0 → u ≡ spent) k.gone (λ none. absurd (omega arith)) (λ none. refl);
          bounded = omega (arith, join_sum stopped, k.bounded, stopped_both v.done w.done v.room w.room);
          spared = λ u h. omega (arith, join_sum (failures (only u)), more u, k.spared u h);
          attained = λ h. omega (arith, join_sum (failures (only least)), more least, k.attained h);
          most = k.most;
          why = join_all (λ (u : View). u.done ≡ true → (least < nobody) ⊎ (shape.units ≤ get_or s.words 0 0))
              k.why (λ yes. grind (arith, k.why id v at, k.why other w before)) (λ yes. cc);
        };
    trees = λ t is. let tree = kept.trees t is in
        unmoved tree s.words s.homes (λ m h. refl) (omega arith) (λ x h. refl) (omega arith) join_views
        (λ g. g w + g v) (λ g. g (both v w) + g spent) join_sum
        (λ f. omega (arith, total-append (λ (g : GivenUnit). f g.unit g.hash) v.given w.given))
        (λ j h. omega (arith, total-append (λ (g : GivenUnit). only (t.first + j) g.unit) v.given w.given))
        (λ x h. (omega (arith, ap (climbs_to x) idle'), omega (arith, ap (has_out x) idle')))
        (omega (arith, total-append (λ (p : ℕ × List ℕ). only t.number p.0) v.tops w.tops))
        (λ stand. let old = λ (u : View) (has : SeatRooted (WasGiven s.views) t u).
        seat_more t (WasGiven s.views) (WasGiven join_views) stand u has in
        let mine = old v (seat_rooted tree id v at) in let theirs = old w (seat_rooted tree other w before) in
        join_all (SeatRooted (WasGiven join_views) t) (λ j u e. old u (seat_rooted tree j u e))
        (mine.0, told_append t.number (IsRoot (WasGiven join_views) t t.height 0) v.tops w.tops mine.1 theirs.1)
        (tt, tt));
  }

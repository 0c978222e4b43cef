-- A step keeps the rule of a tree where it shows what it changes of it; a tree of which it touches nothing keeps it.
use Rattle.{atomic_table.specs.Table.{Valid, homes_after}, tor_board.proofs.Names.{Act, Climb, GivenUnit, IsIn, IsRoot}}
use Rattle.tor_board.proofs.Names.{IsSide, Keeps, KeepsTree, List, None, Opt, Option, Seated, Shape, Some, State}
use Rattle.tor_board.proofs.Names.{TopsAre, Tree, View, WasGiven, [], ap, arith, carried_after, climbs_to, dite}
use Rattle.tor_board.proofs.Names.{get_elem?, get_or, has_out, length, only, out, ready, refl, set, slot_of, some}
use Rattle.tor_board.proofs.Names.{subst, sym, times_given, tops_of, total, word_of, ℕ, ℕ_discrete, ◌+◌, ◌/◌, ◌<◌, ◌∷◌}
use Rattle.tor_board.proofs.{Names.{◌≡◌, ◌≢◌, ◌≤◌}, Sums.{only-same, set_all, total-set}, Trees.{ready_same, root_more}}
use Rattle.tor_board.{proofs.Trees.{side_covers, side_in, told_more}, specs.Rule.IsHome}

-- what a seat adds to the sums of the rule
abbrev pub climbs : ℕ → View → ℕ
climbs slot v = climbs_to slot v.climb

abbrev pub outs : ℕ → View → ℕ
outs slot v = has_out slot v.climb

abbrev pub weight : (ℕ → List ℕ → ℕ) → View → ℕ
weight f v = total (λ (g : GivenUnit). f g.unit g.hash) v.given

abbrev pub gave : ℕ → View → ℕ
gave u v = total (λ (g : GivenUnit). only u g.unit) v.given

abbrev pub tops_at : Tree → View → ℕ
tops_at t v = tops_of t.number v.tops

-- ---- what a seat knows of a tree's roots

abbrev pub Rooted : (ℕ → List ℕ → Type 0) → Tree → ℕ → List ℕ → Type 0
Rooted G t slot hash = (k j : ℕ) → IsSide t slot k j → IsRoot G t k j hash

abbrev pub SpareRooted : (ℕ → List ℕ → Type 0) → Tree → List (ℕ × List ℕ) → Type 0
SpareRooted G t l = (o : ℕ) (hash : List ℕ) → l ≡ (o, hash) ∷ [] → Rooted G t o hash

abbrev pub ClimbRooted : (ℕ → List ℕ → Type 0) → Tree → Option Climb → Type 0
ClimbRooted G t None = Unit {0}
ClimbRooted G t (Some c) = Rooted G t c.slot c.hash × SpareRooted G t c.spare

abbrev pub SeatRooted : (ℕ → List ℕ → Type 0) → Tree → View → Type 0
SeatRooted G t v = ClimbRooted G t v.climb × TopsAre t.number (IsRoot G t t.height 0) v.tops

module _ (t : Tree) (G H : ℕ → List ℕ → Type 0) (more : (u : ℕ) (x : List ℕ) → G u x → H u x) where
  climb_more : (c : Option Climb) → ClimbRooted G t c → ClimbRooted H t c
  climb_more None has = tt
  climb_more (Some c) has = let stays = root_more t G H more in
      ((λ k j to. stays k j c.hash (has.0 k j to)), λ o hash e k j to. stays k j hash (has.1 o hash e k j to))

  pub seat_more : (v : View) → SeatRooted G t v → SeatRooted H t v
  seat_more v has = (climb_more v.climb has.0, told_more t.number _ _ (root_more t G H more t.height 0) v.tops has.1)

module _ {t : Tree} {words : List ℕ} {homes : List (Opt (List ℕ))} {views : List View}
    (kept : KeepsTree t words homes views) where
  pub seat_rooted : (id : ℕ) (v : View) → get_elem? views id ≡ some v → SeatRooted (WasGiven views) t v
  seat_rooted id v at = (climb v.climb refl, kept.told id v at) where
    climb : (o : Option Climb) → v.climb ≡ o → ClimbRooted (WasGiven views) t o
    climb None is = tt
    climb (Some c) is
        = ((λ k j to. kept.climb id v c k j at is to), λ o hash e k j to. kept.left id v c o hash k j at is e to)

-- ---- the step

-- of all seats, `less` is what they lose, and `more` what they gain; `grow` is what arrives
pub record TreeStep (t : Tree) (words words' : List ℕ) (homes homes' : List (Opt (List ℕ))) (views views' : List View)
    (arrived : ℕ → ℕ) (less more : (View → ℕ) → ℕ) (grow : ℕ → ℕ) : Type 0 where
  pub sum : (g : View → ℕ) → total g views' + less g ≡ total g views + more g
  pub long : length words ≤ length words'
  pub wide : length homes ≤ length homes'
  pub given : (f : ℕ → List ℕ → ℕ) → less (weight f) ≤ more (weight f)
  pub once : (j : ℕ) → j < t.count → times_given (t.first + j) views' ≤ 1
  pub word : (m : ℕ) → 0 < m → m < t.count → get_or words' (word_of t m) 0
      ≡ get_or words (word_of t m) 0 + (grow (slot_of t m 0) + grow (slot_of t m 1))
  pub flow : (s k j : ℕ) → IsSide t s k j
      → more (climbs s) + grow s + ready t words views k j ≡ less (climbs s) + ready t words' views' k j
  pub sides_out : (m side : ℕ) → side < 2 → 0 < m → m < t.count
      → more (outs (slot_of t m side)) + less (climbs (slot_of t m side)) + get_or words (word_of t m) 0 / 2
      ≤ less (outs (slot_of t m side)) + more (climbs (slot_of t m side)) + get_or words' (word_of t m) 0 / 2
  pub out_top : more (outs (slot_of t 0 0)) + less (climbs (slot_of t 0 0))
      ≤ less (outs (slot_of t 0 0)) + more (climbs (slot_of t 0 0))
  pub home : (s k j : ℕ) → IsSide t s k j → out s views' ≡ 0
      → IsHome homes' s (λ hash. arrived s + grow s ≡ 1 → IsRoot (WasGiven views) t k j hash)
  pub seats : ((u : ℕ) (x : List ℕ) → WasGiven views u x → WasGiven views' u x)
      → (j : ℕ) (u : View) → get_elem? views' j ≡ some u → SeatRooted (WasGiven views') t u
  pub tops : more (tops_at t) ≡ less (tops_at t) + grow (slot_of t 0 0)

pub keeps_step : {t : Tree} {words words' : List ℕ} {homes homes' : List (Opt (List ℕ))} {views views' : List View}
    {less more : (View → ℕ) → ℕ} {grow : ℕ → ℕ} (kept : KeepsTree t words homes views)
    → TreeStep t words words' homes homes' views views' kept.arrived less more grow → KeepsTree t words' homes' views'
keeps_step {t = t} {views = views} {views' = views'} {less = less} {more = more} {grow = grow} kept step =
    let stand : (u : ℕ) (x : List ℕ) → WasGiven views u x → WasGiven views' u x
    = λ u x s f. omega (arith, step.sum (weight f), step.given f, s f) in record {
      arrived = λ s. kept.arrived s + grow s;
      some_unit = kept.some_unit;
      tall = kept.tall;
      long = omega (arith, kept.long, step.long);
      wide = omega (arith, kept.wide, step.wide);
      once = step.once;
      word = λ m pos h. omega (arith, kept.word m pos h, step.word m pos h);
      flow = λ s k j is. omega (arith, kept.flow s k j is, step.flow s k j is, step.sum (climbs s));
      outs = λ m side two pos h. grind (arith, step.sides_out m side two pos h);
      out_top = grind arith;
      home = λ s k j is none. let h = step.home s k j is none in
          (h.0, h.1, λ yes. root_more t (WasGiven views) (WasGiven views') stand k j h.0 (h.2 yes));
      climb = λ id v c k j e is to. (subst (ClimbRooted (WasGiven views') t) is (step.seats stand id v e).0).0 k j to;
      left = λ id v c o x k j e is one.
          (subst (ClimbRooted (WasGiven views') t) is (step.seats stand id v e).0).1 o x one k j;
      tops = omega (arith, kept.tops, step.tops, step.sum (tops_at t));
      told = λ id v e. (step.seats stand id v e).1;
    }

-- ---- one seat

-- the seat of that number knows w
abbrev pub SeatStep : Tree → List ℕ → List ℕ → List (Opt (List ℕ)) → List (Opt (List ℕ)) → List View → (ℕ → ℕ) → ℕ
    → View → View → (ℕ → ℕ) → Type 0
SeatStep t words words' homes homes' views arrived id v w grow
    = TreeStep t words words' homes homes' views (set views id w) arrived (λ g. g v) (λ g. g w) grow

module _ {t : Tree} {words : List ℕ} {homes : List (Opt (List ℕ))} {views : List View}
    (kept : KeepsTree t words homes views) where
  -- the other seats' roots stay
  pub new_seat : (id : ℕ) (w : View) → SeatRooted (WasGiven (set views id w)) t w
      → ((u : ℕ) (x : List ℕ) → WasGiven views u x → WasGiven (set views id w) u x)
      → (j : ℕ) (u : View) → get_elem? (set views id w) j ≡ some u → SeatRooted (WasGiven (set views id w)) t u
  new_seat id w now stand = set_all (SeatRooted (WasGiven (set views id w)) t) views id w
      (λ j u e. seat_more t (WasGiven views) (WasGiven (set views id w)) stand u (seat_rooted kept j u e)) now

  pub old_seat : (id : ℕ) (w : View) → SeatRooted (WasGiven views) t w
      → ((u : ℕ) (x : List ℕ) → WasGiven views u x → WasGiven (set views id w) u x)
      → (j : ℕ) (u : View) → get_elem? (set views id w) j ≡ some u → SeatRooted (WasGiven (set views id w)) t u
  old_seat id w has stand = new_seat id w (seat_more t (WasGiven views) (WasGiven (set views id w)) stand w has) stand

  -- a slot that the step leaves at home
  pub old_home : (homes' : List (Opt (List ℕ))) (grow : ℕ → ℕ) (s k j : ℕ) → IsSide t s k j → out s views ≡ 0
      → get_elem? homes' s ≡ get_elem? homes s → grow s ≡ 0
      → IsHome homes' s (λ hash. kept.arrived s + grow s ≡ 1 → IsRoot (WasGiven views) t k j hash)
  old_home homes' grow s k j is none same still = grind (arith, kept.home s k j is none)

  -- or to which it brings a hash
  pub put_home : (homes' : List (Opt (List ℕ))) (grow : ℕ → ℕ) (put : ℕ) (hash : List ℕ)
      → Rooted (WasGiven views) t put hash → (s k j : ℕ) → IsSide t s k j
      → (s ≡ put → get_elem? homes' s ≡ some (some hash))
      → (s ≢ put → (out s views ≡ 0) × (get_elem? homes' s ≡ get_elem? homes s) × (grow s ≡ 0))
      → IsHome homes' s (λ hash. kept.arrived s + grow s ≡ 1 → IsRoot (WasGiven views) t k j hash)
  put_home homes' grow put hash root s k j is here else_ = dite (ℕ_discrete s put)
      (λ e. (hash, here e, λ yes. root k j (rw (sym e) is)))
      (λ ne. let q = else_ ne in old_home homes' grow s k j is q.0 q.1 q.2)

-- ---- the whole step

-- a view and an act of the seat, where those are at home and it has these slots, by which the rule stays and P is told
abbrev pub Does : Shape → State (List ℕ) View → List (Opt (List ℕ)) → ℕ → ℕ → ℕ → List (ℕ × List ℕ)
    → (Seated → Type 0) → Type 0
Does shape s homes id i f slots P = (w : View) × (a : Act (List ℕ)) × Valid homes slots a
    × Keeps shape record { words = set s.words i f; homes = homes_after homes slots a; views = set s.views id w }
    × P (w, carried_after slots a)

-- ---- a tree of which a step touches nothing

-- no slot of the tree is out with that climb
abbrev pub IsAway : Tree → Option Climb → Type 0
IsAway t c = (s : ℕ) → IsIn t s → has_out s c ≡ 0

pub away_climbs : (t : Tree) (c : Option Climb) → IsAway t c → (s : ℕ) → IsIn t s → climbs_to s c ≡ 0
away_climbs t c away s is = grind (arith, away s is)

pub away_rooted : (G : ℕ → List ℕ → Type 0) (t : Tree) → 0 < t.count → (c : Option Climb) → IsAway t c
    → ClimbRooted G t c
away_rooted G t some_unit None away = tt
away_rooted G t some_unit (Some c) away = (
  (λ k j to. absurd (omega (arith, away c.slot (side_in t some_unit c.slot k j to), only-same c.slot))),
  λ o hash e k j to. let one = ap (λ (l : List (ℕ × List ℕ)). total (λ (p : ℕ × List ℕ). only o p.0) l) e in
      absurd (omega (arith, away o (side_in t some_unit o k j to), only-same o)),
)

module _ {t : Tree} {words : List ℕ} {homes : List (Opt (List ℕ))} {views : List View}
    (kept : KeepsTree t words homes views) (words' : List ℕ) (homes' : List (Opt (List ℕ)))
    (same_words : (m : ℕ) → m < t.count → get_or words' (word_of t m) 0 ≡ get_or words (word_of t m) 0)
    (longer : length words ≤ length words')
    (same_homes : (s : ℕ) → IsIn t s → get_elem? homes' s ≡ get_elem? homes s)
    (wider : length homes ≤ length homes') where
  pub unmoved : (views' : List View) (less more : (View → ℕ) → ℕ)
      → ((g : View → ℕ) → total g views' + less g ≡ total g views + more g)
      → ((f : ℕ → List ℕ → ℕ) → less (weight f) ≤ more (weight f))
      → ((j : ℕ) → j < t.count → more (gave (t.first + j)) ≡ less (gave (t.first + j)))
      → ((s : ℕ) → IsIn t s → (more (climbs s) ≡ less (climbs s)) × (more (outs s) ≡ less (outs s)))
      → more (tops_at t) ≡ less (tops_at t) → (((u : ℕ) (x : List ℕ) → WasGiven views u x → WasGiven views' u x)
      → (j : ℕ) (u : View) → get_elem? views' j ≡ some u → SeatRooted (WasGiven views') t u)
      → KeepsTree t words' homes' views'
  unmoved views' less more sum given gives still tops seats =
      let slot_in : (m side : ℕ) → side < 2 → m < t.count → IsIn t (slot_of t m side)
      = λ m side two h. (omega arith, omega arith) in keeps_step kept record {
        sum = sum;
        long = longer;
        wide = wider;
        given = given;
        once = λ j h. omega (arith, sum (gave (t.first + j)), gives j h, kept.once j h);
        word = λ m pos h. omega (arith, same_words m h);
        flow = λ s k j is. let e = still s (side_in t kept.some_unit s k j is) in
            let same = ready_same t words words' views views' (λ m pos h. omega (arith, same_words m h))
            (λ i h. omega (arith, sum (gave (t.first + i)), gives i h)) k j (side_covers t kept.some_unit s k j is) in
            omega (arith, e.0);
        sides_out = λ m side two pos h. let e = still (slot_of t m side) (slot_in m side two h) in
            omega (arith, e.0, e.1, same_words m h);
        out_top = let e = still (slot_of t 0 0) (slot_in 0 0 (omega arith) kept.some_unit) in omega (arith, e.0, e.1);
        home = λ s k j is none. let in_ = side_in t kept.some_unit s k j is in
            old_home kept homes' (λ x. 0) s k j is (omega (arith, (still s in_).1, sum (outs s)))
            (same_homes s in_) refl;
        seats = seats;
        tops = omega arith;
      }

  -- one seat changes, of which the tree knows nothing
  pub unmoved_seat : (id : ℕ) (v w : View) → get_elem? views id ≡ some v → tops_at t w ≡ tops_at t v
      → SeatRooted (WasGiven views) t w → IsAway t v.climb → IsAway t w.climb
      → ((f : ℕ → List ℕ → ℕ) → weight f v ≤ weight f w)
      → ((j : ℕ) → j < t.count → gave (t.first + j) w ≡ gave (t.first + j) v)
      → KeepsTree t words' homes' (set views id w)
  unmoved_seat id v w at tops has v_away w_away more same =
      unmoved (set views id w) (λ g. g v) (λ g. g w) (λ g. total-set g views id v w at) more same
      (λ s is. let a = away_climbs t v.climb v_away s is in let b = away_climbs t w.climb w_away s is in
      (omega arith, omega (arith, v_away s is, w_away s is))) tops (old_seat kept id w has)

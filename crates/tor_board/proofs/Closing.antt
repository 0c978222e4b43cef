-- The roots over given hashes by the definition of tor_merkle, and those of the trees once all seats are one.
use Rattle.std.proofs.{Common.ap₂, lemmas.List.get_or_past, lemmas.List.FromFn.get_or-map-range_with_len}
use Rattle.std.proofs.lemmas.{List.FromFn.length-map-range_with_len, Slice.Eq.bytes_eq-Decides}
use Rattle.{std.specs.Str.bytes_eq, tor_board.proofs.Finding.{below_same, some_height, top_node}}
use Rattle.tor_board.proofs.{Moves.only_one, Names.{GivenUnit, IsLeft, IsRoot, IsShape, IsSide, IsTreeEnd, IsTreeOf}}
use Rattle.tor_board.proofs.Names.{Keeps, KeepsTree, List, None, Opt, Option, Shape, Some, State, Tree, View, WasGiven}
use Rattle.tor_board.proofs.Names.{[], ap, arith, below, climbing, climbs_to, cond, dec_le, dite, get_elem?, get_or}
use Rattle.tor_board.proofs.Names.{has_out, inl, inr, joined_in, length, middle, min, named, node_of, only, out, ready}
use Rattle.tor_board.proofs.Names.{refl, run_of, slot_of, some, spent, subst, suc, sym, times, times_given, tops_of}
use Rattle.tor_board.proofs.Names.{total, units_of, word_of, zero, ℕ, ℕ_discrete, ◌%◌, ◌*◌, ◌+◌, ◌-◌, ◌/◌, ◌<◌, ◌==◌}
use Rattle.tor_board.proofs.{Names.{◌^◌, ◌∙◌, ◌∷◌, ◌≡◌, ◌≤◌}, Rising.{split_suc, split_zero}, Steps.{gave, tops_at}}
use Rattle.tor_board.proofs.{Steps.weight, Sums.{below-only, only-same, read, total-map}, Trees.node_inside}
use Rattle.tor_board.proofs.Trees.{node_ready, ready_chain, ready_node, ready_once, told_more, twice}
use Rattle.tor_board.specs.Results.{IsComplete, hash_of, joined_of, unit_hashes}
use Rattle.tor_merkle.{proofs.ProvedLaws.{root_of_halves, root_of_one, root_of_whole}, specs.Block.run_at}
use Rattle.tor_merkle.specs.{Stack.{padded_root, padded_subtree}, Subtree.{height, zero_subtree}}

-- ---- the hash of a unit that was given once, and the roots over such hashes

-- 1 of that unit with that hash
chosen : ℕ → List ℕ → ℕ → List ℕ → ℕ
chosen u h x y = cond (x == u) (cond (bytes_eq y h) 1 0) 0

chosen_self : (u : ℕ) (h : List ℕ) → chosen u h u h ≡ 1
unfolding chosen
chosen_self u h = grind (arith, (bytes_eq-Decides h h).1 refl)

chosen_le : (u : ℕ) (h : List ℕ) (x : ℕ) (y : List ℕ) → chosen u h x y ≤ only u x
unfolding chosen
chosen_le u h x y = grind arith

chosen_is : (u : ℕ) (h : List ℕ) (x : ℕ) (y : List ℕ) → 0 < chosen u h x y → h ≡ y
unfolding chosen
chosen_is u h x y some_weight = sym ((bytes_eq-Decides y h).0 (grind arith))

weights_le : (u : ℕ) (h : List ℕ) (given : List GivenUnit)
    → total (λ (g : GivenUnit). chosen u h g.unit g.hash) given ≤ total (λ (g : GivenUnit). only u g.unit) given
weights_le u h [] = omega arith
weights_le u h (g ∷ gs) = omega (arith, weights_le u h gs, chosen_le u h g.unit g.hash)

hash_is : (u : ℕ) (h : List ℕ) (given : List GivenUnit) → total (λ (g : GivenUnit). only u g.unit) given ≤ 1
    → 0 < total (λ (g : GivenUnit). chosen u h g.unit g.hash) given → h ≡ hash_of given u
hash_is u h [] once some_weight = absurd (omega arith)
hash_is u h (g ∷ gs) once some_weight =
    grind (arith, chosen_is u h g.unit g.hash, chosen_le u h g.unit g.hash, weights_le u h gs, hash_is u h gs)

-- all units below a spot were given
pub all_stand : (t : Tree) (G : ℕ → List ℕ → Type 0) (k j : ℕ) (hash : List ℕ) → IsRoot G t k j hash → (i : ℕ)
    → i < t.count → j * 2 ^ k ≤ i → i < (j + 1) * 2 ^ k → (h : List ℕ) × G (t.first + i) h
all_stand t G zero j hash root i inside low high = elim root [
  | inl r ↦ let e : i ≡ j = omega arith in (hash, rw e r.1)
  | inr r ↦ absurd (omega (arith, r.0))
]
all_stand t G (suc k) j hash root i inside low high = let a = twice k j in let b = twice k (j + 1) in
    let e : 2 * (j + 1) ≡ 2 * j + 1 + 1 = omega arith in let c = ap (λ (x : ℕ). x * 2 ^ k) e in
    dite (dec_le ((2 * j + 1) * 2 ^ k) i)
    (λ right. all_stand t G k (2 * j + 1) root.1 root.3 i inside right (omega arith))
    (λ left. all_stand t G k (2 * j) root.0 root.2 i inside (omega arith) (omega arith))

-- the gives of that list are those of all seats, and no unit is given twice
module _ (views : List View) (given : List GivenUnit)
    (all : (f : ℕ → List ℕ → ℕ) → total (weight f) views ≡ total (λ (g : GivenUnit). f g.unit g.hash) given)
    (once : (u : ℕ) → total (λ (g : GivenUnit). only u g.unit) given ≤ 1) (t : Tree) where
  abbrev hashes : List (List ℕ)
  hashes = unit_hashes given (run_of t)

  long : length hashes ≡ t.count
  long = length-map-range_with_len (hash_of given) t.first t.count

  given_hash : (i : ℕ) → i < t.count → (hash : List ℕ) → WasGiven views (t.first + i) hash
      → hash ≡ get_or hashes i (zero_subtree t.level)
  given_hash i inside hash st =
      let u : ℕ = t.first + i in let z : List ℕ = zero_subtree t.level in let whole = all (chosen u hash) in
      hash_is u hash given (once u) (omega (arith, chosen_self u hash, st (chosen u hash)))
      ∙ sym (get_or-map-range_with_len (hash_of given) t.first t.count i u z inside refl)

  -- the root of a spot is that over the run of hashes below it
  pub spot_root : (k j : ℕ) (hash : List ℕ) → IsRoot (WasGiven views) t k j hash
      → hash ≡ padded_subtree k t.level (run_at (2 ^ k) hashes j)
  spot_root zero j hash (inl r) = rw (root_of_one t.level j hashes) (given_hash j r.0 hash r.1)
  spot_root zero j hash (inr r) = let past : length hashes ≤ j = omega (arith, r.0, long) in
      rw (root_of_one t.level j hashes, get_or_past hashes j (zero_subtree t.level) past) r.1
  spot_root (suc k) j hash root =
      root.4 ∙ (ap₂ node_of (spot_root k (2 * j) root.0 root.2) (spot_root k (2 * j + 1) root.1 root.3)
      ∙ sym (root_of_halves t.level k j hashes))

  -- and that of the whole tree is that over all of them
  pub whole_root : t.height ≡ height t.count → (hash : List ℕ) → IsRoot (WasGiven views) t t.height 0 hash
      → hash ≡ padded_root t.level hashes
  whole_root high hash root = let e : t.height ≡ height (length hashes) = high ∙ ap height (sym long) in
      spot_root t.height 0 hash root
      ∙ (ap (λ (k : ℕ). padded_subtree k t.level (run_at (2 ^ k) hashes 0)) e ∙ root_of_whole t.level hashes)

-- ---- the roots of the trees

-- where no seat climbs, and all units were given, all spots are ready
complete : {t : Tree} {words : List ℕ} {homes : List (Opt (List ℕ))} {views : List View}
    (kept : KeepsTree t words homes views) → ((slot : ℕ) → climbing slot views ≡ 0)
    → ((i : ℕ) → i < t.count → times_given (t.first + i) views ≡ 1) → (k j : ℕ) → j * 2 ^ k < t.count
    → ready t words views k j ≡ 1
complete kept still all zero j h = all j (omega arith)
complete {t = t} {words = words} {views = views} kept still all (suc k) j h =
    let below : 2 * j * 2 ^ k < t.count = rw (twice k j) h in dite (dec_le t.count (middle k j))
    (λ le. ready_chain t words views k j le ∙ complete kept still all k (2 * j) below)
    (λ gt. let in_ : middle k j < t.count = omega arith in let right = complete kept still all k (2 * j + 1) in_ in
    let z = still (slot_of t (middle k j) 0) in let z' = still (slot_of t (middle k j) 1) in
    omega (arith, ready_node t words views k j in_, node_ready kept k j in_, complete kept still all k (2 * j) below))

-- each number is the middle of a spot
split_found : (fuel m : ℕ) → m ≤ fuel → 0 < m → (k : ℕ) × (i : ℕ) × (m ≡ middle k i)
split_found zero m few pos = absurd (omega arith)
split_found (suc fuel) m few pos = dite (ℕ_discrete (m % 2) 1) (λ odd. (0, m / 2, omega (arith, split_zero (m / 2))))
    (λ even. let r = split_found fuel (m / 2) (omega arith) (omega arith) in
    (suc r.0, r.1, omega (arith, split_suc r.0 r.1, r.2)))

below_ones : (n : ℕ) → below (λ m. 1) n ≡ n
below_ones zero = refl
below_ones (suc n) = omega (arith, below_ones n)

module _ {words_count slots_count : ℕ} {shape : Shape} (shaped : IsShape words_count slots_count shape)
    {s : State (List ℕ) View} (kept : Keeps shape s) (id : ℕ) (v : View) (at : get_elem? s.views id ≡ some v)
    (whole : v.room ≡ 256) (idle : v.climb ≡ None) where
  the_only : (g : View → ℕ) → g spent ≡ 0 → total g s.views ≡ g v
  the_only g none = only_one kept.claims id v at whole g none

  still : (x : ℕ) → climbing x s.views ≡ 0
  still x = the_only (λ u. climbs_to x u.climb) refl ∙ ap (climbs_to x) idle

  none_out : (x : ℕ) → out x s.views ≡ 0
  none_out x = the_only (λ u. has_out x u.climb) refl ∙ ap (has_out x) idle

  given_once : (u : ℕ) → gave u v ≤ 1
  given_once u = let least = (below-only u (min (get_or s.words 0 0) shape.units)).0 in
      omega (arith, the_only (named (only u)) refl, kept.claims.once (only u))

  module _ (t : Tree) (is : IsTreeOf shape t) where
    tree : KeepsTree t s.words s.homes s.views
    tree = kept.trees t is

    times_is : (u : ℕ) → times_given u s.views ≡ times u (units_of v.given)
    times_is u = the_only (gave u) refl ∙ sym (total-map (only u) (λ (g : GivenUnit). g.unit) v.given)

    complete_is : (hash : List ℕ) → IsRoot (WasGiven s.views) t t.height 0 hash → IsComplete v.given (run_of t)
    complete_is hash root u low high = let i : ℕ = u - t.first in let e : t.first + i ≡ u = omega arith in
        let r = all_stand t (WasGiven s.views) t.height 0 hash root i (omega arith) (omega arith)
        (omega (arith, tree.tall)) in
        let st : WasGiven s.views u r.0 = subst (λ (x : ℕ). WasGiven s.views x r.0) e r.1 in
        omega (arith, st (λ x y. only u x), only-same u, times_is u)

    all_given : IsComplete v.given (run_of t) → (i : ℕ) → i < t.count → times_given (t.first + i) s.views ≡ 1
    all_given all i h = grind (arith, all (t.first + i), times_is (t.first + i), tree.once i h)

    abbrev top_word : ℕ
    top_word = get_or s.words (word_of t (middle (t.height - 1) 0)) 0

    ready_top : ready t s.words s.views t.height 0 ≡ top_word / 2
    ready_top = let e : t.height ≡ suc (t.height - 1) = omega (arith, some_height shaped t is) in
        ap (λ (k : ℕ). ready t s.words s.views k 0) e
        ∙ ready_node t s.words s.views (t.height - 1) 0 (top_node shaped t is)

    top_side : IsSide t (slot_of t 0 0) t.height 0
    top_side = inr (refl, refl, refl)

    arrived_top : tree.arrived (slot_of t 0 0) ≡ top_word / 2
    arrived_top = omega (arith, tree.flow (slot_of t 0 0) t.height 0 top_side, still (slot_of t 0 0), ready_top)

    tops_are : tops_of t.number v.tops ≡ top_word / 2
    tops_are = omega (arith, the_only (tops_at t) refl, tree.tops, arrived_top)

    joined_all : IsComplete v.given (run_of t) → joined_of v.given (run_of t) ≡ t.count - 1
    joined_all all = sym (the_only (λ w. joined_in t w.given) refl) ∙ (kept.joins t is
        ∙ (below_same (λ m. get_or s.words (word_of t (m + 1)) 0 / 2) (λ m. 1) (t.count - 1) (λ m h.
        let r = split_found (m + 1) (m + 1) (omega arith) (omega arith) in
        let inside : middle r.0 r.1 < t.count = omega (arith, r.2) in
        let one = complete tree still (all_given all) (suc r.0) r.1 (node_inside r.0 r.1 t.count inside) in
        ap (λ (x : ℕ). get_or s.words (word_of t x) 0 / 2) r.2
        ∙ (sym (ready_node t s.words s.views r.0 r.1 inside) ∙ one)) ∙ below_ones (t.count - 1)))

    -- two came to the highest node
    end_some : 2 ≤ top_word → (hash : List ℕ) × (get_elem? s.homes (slot_of t 0 0) ≡ some (some hash))
        × IsTreeEnd v.given v.tops t.number (run_of t) (Some hash)
    end_some both = let once = ready_once tree t.height 0 (omega (arith, (shaped.fits t is).several)) in
        let one : top_word / 2 ≡ 1 = omega (arith, ready_top) in
        let h = tree.home (slot_of t 0 0) t.height 0 top_side (none_out (slot_of t 0 0)) in
        let root = h.2 (arrived_top ∙ one) in
        let root_is = whole_root s.views v.given (λ f. the_only (weight f) refl) given_once t
        (shaped.fits t is).least in
        let told = told_more t.number (IsRoot (WasGiven s.views) t t.height 0) (λ hash. hash ≡ h.0)
        (λ hash r. root_is hash r ∙ sym (root_is h.0 root)) v.tops (tree.told id v at) in
        let all = complete_is h.0 root in (h.0, h.1, (all, root_is h.0 root, tops_are ∙ one, told, joined_all all))

    end_none : top_word < 2 → IsTreeEnd v.given v.tops t.number (run_of t) None
    end_none few = let one = λ (all : IsComplete v.given (run_of t)).
        complete tree still (all_given all) t.height 0 (omega (arith, tree.some_unit)) in
        ((λ all. omega (arith, one all, ready_top)), omega (arith, tops_are))

  -- of what a closed table has left
  pub end_of : (ws : List ℕ) (xs : List (List ℕ)) → s.words ≡ ws
      → ((k : ℕ) (y : List ℕ) → get_elem? s.homes k ≡ some (some y) → get_elem? xs k ≡ some y)
      → (t : Tree) → IsTreeOf shape t → (root : Option (List ℕ)) → IsLeft ws xs t root
      → IsTreeEnd v.given v.tops t.number (run_of t) root
  end_of ws xs same homes t is root left = let n : ℕ = left.0 in let i : ℕ = word_of t (middle (t.height - 1) 0) in
      let word : get_or s.words i 0 ≡ n = ap (λ (l : List ℕ). get_or l i 0) same ∙ read ws i n 0 left.1 in elim left.2 [
        | inl r ↦ grind (arith, end_some t is, r.0)
        | inr r ↦ subst (IsTreeEnd v.given v.tops t.number (run_of t)) (sym r.1) (end_none t is (omega (arith, r.0)))
      ]

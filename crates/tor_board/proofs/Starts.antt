-- Where trees start, and which of them has a unit.
use Rattle.std.proofs.lemmas.List.Sums.{sum_by-cons}
use Rattle.std.proofs.lemmas.List.Sorted.{IsNonDecreasingBy-from_all_adjacent, sum_by-IsPermutation}
use Rattle.std.specs.List.{sum_by}
use Rattle.std.specs.List.Sorted.{IsPermutation, IsSorted}
use Rattle.std.specs.Ordering.{is_lt, nat_cmp, ordering_then}
use Rattle.tor_board.proofs.Finding.{at_number, same_tree}
use Rattle.tor_board.proofs.Names.{AreStarts, IsShape, IsTreeOf, List, Shape, Tree, [], ap, arith, cond, dec_le, dite, get_elem?}
use Rattle.tor_board.proofs.Names.{get_or, length, map, refl, some, start_of, subst, sym, total, ℕ, ℕ_discrete, ◌+◌, ◌-◌, ◌<◌}
use Rattle.tor_board.proofs.Names.{◌==◌, ◌∙◌, ◌∷◌, ◌≡◌, ◌≢◌, ◌≤◌, false}
use Rattle.tor_board.proofs.Sums.{here, mapped, read, term_le, weighs, within}
use Rattle.atomic_table.proofs.Lists.{at_map}

-- 1 of that pair, and 0 of any other
abbrev only_pair : ℕ × ℕ → ℕ × ℕ → ℕ
only_pair a b = cond (b.0 == a.0) (cond (b.1 == a.1) 1 0) 0

itself : (a : ℕ × ℕ) → only_pair a a ≡ 1
itself a = grind arith

same_pair : (a b : ℕ × ℕ) → 0 < only_pair a b → b ≡ a
same_pair a b h = let first : b.0 ≡ a.0 = grind arith in let second : b.1 ≡ a.1 = grind arith in
    λ i. (first i, second i)

-- a list that weighs the same has the pair too
among : (l m : List (ℕ × ℕ)) → ((f : ℕ × ℕ → ℕ) → total f l ≡ total f m) → (k : ℕ) (a : ℕ × ℕ)
    → get_elem? l k ≡ some a → (j : ℕ) × (get_elem? m j ≡ some a)
among l m same k a e =
    let there = term_le (only_pair a) l k a e in
    let r = weighs (only_pair a) m (omega (arith, same (only_pair a), there, itself a)) in
    (r.0, r.2 ∙ ap some (same_pair a r.1 r.3))

module _ {words slots : ℕ} {shape : Shape} (shaped : IsShape words slots shape) (starts : List (ℕ × ℕ))
    (are : AreStarts shape.trees.items starts) where
  -- each tree starts somewhere
  pub start_at : (t : Tree) → IsTreeOf shape t → (k : ℕ) × (get_elem? starts k ≡ some (start_of t))
  start_at t is = among (map start_of shape.trees.items) starts (λ f. sym (are.all f)) t.number (start_of t)
      (at_map start_of shape.trees.items t.number t is)

  -- and there is the tree of each start
  pub tree_at : (k : ℕ) (a : ℕ × ℕ) → get_elem? starts k ≡ some a
      → (t : Tree) × IsTreeOf shape t × (t.first ≡ a.0) × (t.number ≡ a.1)
  tree_at k a e =
      let m = among starts (map start_of shape.trees.items) are.all k a e in
      let t = mapped start_of shape.trees.items m.0 a m.1 in
      (t.0, at_number shaped m.0 t.0 t.1, ap (λ (b : ℕ × ℕ). b.0) t.2, ap (λ (b : ℕ × ℕ). b.1) t.2)

  -- its number is that of a tree
  pub number_inside : (k : ℕ) → k < length starts → (get_or starts k (0, 0)).1 < length shape.trees.items
  number_inside k inside =
      let u = tree_at k (get_or starts k (0, 0)) (here starts k (0, 0) inside) in
      omega (arith, within shape.trees.items u.0.number u.0 u.1, u.3)

  -- the tree that is read by the number of a start
  pub tree_read : (k : ℕ) (t : Tree) → k < length starts → t ≡ get_or shape.trees.items (get_or starts k (0, 0)).1 t
      → IsTreeOf shape t × (t.first ≡ (get_or starts k (0, 0)).0)
  tree_read k t inside is =
      let u = tree_at k (get_or starts k (0, 0)) (here starts k (0, 0) inside) in
      let there = subst (λ (n : ℕ). get_elem? shape.trees.items n ≡ some u.0) u.3 u.1 in
      let same : u.0 ≡ t = sym (is ∙ read shape.trees.items (get_or starts k (0, 0)).1 u.0 t there) in
      (subst (IsTreeOf shape) same u.1, ap (λ (x : Tree). x.first) (sym same) ∙ u.2)

  -- no tree has a unit before all starts
  pub before_all : (unit : ℕ) → ((k : ℕ) (a : ℕ × ℕ) → get_elem? starts k ≡ some a → unit < a.0)
      → (t : Tree) → IsTreeOf shape t → (j : ℕ) → j < t.count → unit ≢ t.first + j
  before_all unit later t is j h e = let s = start_at t is in omega (arith, later s.0 (start_of t) s.1)

  -- if the last tree that starts at or before a unit ends before it, no tree has the unit
  pub none_has : (low unit : ℕ) → 0 < low → low ≤ length starts
      → ((k : ℕ) (b : ℕ × ℕ) → get_elem? starts k ≡ some b → low ≤ k → unit < b.0)
      → (u : Tree) → u ≡ get_or shape.trees.items (get_or starts (low - 1) (0, 0)).1 u → u.first + u.count ≤ unit
      → (t : Tree) → IsTreeOf shape t → (j : ℕ) → j < t.count → unit ≢ t.first + j
  none_has low unit some_low inside later u is past t there j h e =
      let last : ℕ × ℕ = get_or starts (low - 1) (0, 0) in
      let at_last : get_elem? starts (low - 1) ≡ some last = here starts (low - 1) (0, 0) (omega arith) in
      let r = tree_read (low - 1) u (omega arith) is in
      let s = start_at t there in
      dite (dec_le low s.0)
      (λ after. absurd (omega (arith, later s.0 (start_of t) s.1 after)))
      (λ before. let le : t.first ≤ last.0 = are.rise s.0 (low - 1) (start_of t) last s.1 at_last (omega arith) in
      dite (ℕ_discrete t.number u.number)
      (λ same. absurd (omega (arith, ap (λ (x : Tree). x.first + x.count) (same_tree shape t u there r.0 same))))
      (λ ne. absurd (omega (arith, r.1, shaped.apart t u there r.0 ne (omega (arith, r.1))))))

-- ---- what the sort leaves

-- a sum as `Iterator::sum` says it
weight_of : {A : Type 0} (f : A → ℕ) (l : List A) → sum_by f l ≡ total f l
weight_of f [] = refl
weight_of f (x ∷ xs) = sum_by-cons f x xs ∙ ap (λ (n : ℕ). f x + n) (weight_of f xs)

-- what is moved about weighs the same
pub same_weight : (l m : List (ℕ × ℕ)) → IsPermutation l m → (f : ℕ × ℕ → ℕ) → total f m ≡ total f l
same_weight l m moved f = sym (weight_of f m) ∙ (sum_by-IsPermutation f l m moved ∙ weight_of f l)

-- a pair that does not come after another begins no later
no_later : (a b : ℕ × ℕ) → is_lt (ordering_then (nat_cmp b.0 a.0) (nat_cmp b.1 a.1)) ≡ false → a.0 ≤ b.0
no_later a b h = grind arith

-- the first units of sorted pairs rise
pub firsts_rise : (l : List (ℕ × ℕ)) → IsSorted (λ (a b : ℕ × ℕ). ordering_then (nat_cmp a.0 b.0) (nat_cmp a.1 b.1)) l
    → (j k : ℕ) (a b : ℕ × ℕ) → get_elem? l j ≡ some a → get_elem? l k ≡ some b → j ≤ k → a.0 ≤ b.0
firsts_rise l sorted j k a b e f le =
    let up = IsNonDecreasingBy-from_all_adjacent (λ (x : ℕ × ℕ). x.0) l
    (λ i d inside. no_later (get_or l i d) (get_or l (i + 1) d) (sorted i d (omega arith) inside)) in
    let step = up j k a le (within l k b f) in
    omega (arith, step, ap (λ (x : ℕ × ℕ). x.0) (read l j a a e), ap (λ (x : ℕ × ℕ). x.0) (read l k b a f))

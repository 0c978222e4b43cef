-- Facts on trees that any step uses.
use Rattle.{std.proofs.lemmas.Nat.pow_pos, tor_board.proofs.Names.{Climb, IsIn, IsRoot, IsSide, KeepsTree, List, Opt}}
use Rattle.tor_board.proofs.Names.{Some, TopsAre, Tree, View, [], ap, arith, climbing, dec_le, dite, get_elem?, get_or}
use Rattle.tor_board.proofs.Names.{has_unit, inl, inr, middle, mul-le-mul_right, out, pow-suc, ready, refl, slot_of}
use Rattle.tor_board.proofs.Names.{some, suc, sym, times_given, true, word_of, zero, ℕ, ◌*◌, ◌++◌, ◌+◌, ◌-◌, ◌/◌, ◌<◌}
use Rattle.tor_board.proofs.{Names.{◌^◌, ◌∙◌, ◌∷◌, ◌≡◌, ◌≤◌}, Sums.term_le}

pub by_sides : (P : ℕ → Type 0) → P 0 → P 1 → (side : ℕ) → side < 2 → P side
by_sides P a b zero two = a
by_sides P a b (suc zero) two = b
by_sides P a b (suc (suc n)) two = absurd (omega arith)

-- 2 i 2^k is i 2^(k+1), in the forms that the induction on spots needs
pub zero_more : (n : ℕ) → n ≡ n + 0
zero_more n = omega arith

doubled : (i p : ℕ) → 2 * i * p ≡ i * (p * 2)
doubled i p = omega arith

pub twice : (k i : ℕ) → 2 * i * 2 ^ k ≡ i * 2 ^ suc k
twice k i = doubled i (2 ^ k) ∙ ap (λ (x : ℕ). i * x) (sym (pow-suc 2 k))

pub split_positive : (k i : ℕ) → 0 < middle k i
split_positive k i = let p : 1 * 2 ^ k ≤ (2 * i + 1) * 2 ^ k = mul-le-mul_right (2 ^ k) (omega arith) in
    omega (arith, pow_pos k)

pub side_of : (t : Tree) (k i side : ℕ) → side < 2 → middle k i < t.count
    → IsSide t (slot_of t (middle k i) side) k (2 * i + side)
side_of t k i side two inside = inl (i, side, two, inside, refl, refl)

pub side_inside : (k i side n : ℕ) → side < 2 → middle k i < n → (2 * i + side) * 2 ^ k < n
side_inside k i side n two inside = grind arith

-- a node stands over units
pub node_inside : (k i n : ℕ) → middle k i < n → i * 2 ^ suc k < n
node_inside k i n near = omega (arith, side_inside k i 0 n (omega arith) near, twice k i)

pub side_in : (t : Tree) → 0 < t.count → (slot k j : ℕ) → IsSide t slot k j → IsIn t slot
side_in t some_unit slot k j is = grind arith

pub side_covers : (t : Tree) → 0 < t.count → (slot k j : ℕ) → IsSide t slot k j → j * 2 ^ k < t.count
side_covers t some_unit slot k j is =
    elim is [ inl p ↦ rw p.5 (side_inside k p.0 p.1 t.count p.2 p.3) | inr p ↦ rw p.2 (omega arith) ]

pub ready_node : (t : Tree) (words : List ℕ) (views : List View) (k i : ℕ) → middle k i < t.count
    → ready t words views (suc k) i ≡ get_or words (word_of t (middle k i)) 0 / 2
ready_node t words views k i h = grind arith

pub ready_chain : (t : Tree) (words : List ℕ) (views : List View) (k i : ℕ) → t.count ≤ middle k i
    → ready t words views (suc k) i ≡ ready t words views k (2 * i)
ready_chain t words views k i h = grind arith

-- where no word's half gets less and no unit is given less often, no spot gets less ready
pub ready_more : (t : Tree) (words words' : List ℕ) (views views' : List View)
    → ((m : ℕ) → 0 < m → m < t.count → get_or words (word_of t m) 0 / 2 ≤ get_or words' (word_of t m) 0 / 2)
    → ((j : ℕ) → j < t.count → times_given (t.first + j) views ≤ times_given (t.first + j) views')
    → (k i : ℕ) → i * 2 ^ k < t.count → ready t words views k i ≤ ready t words' views' k i
ready_more t words words' views views' more given zero i h = given i (omega arith)
ready_more t words words' views views' more given (suc k) i h = let below : 2 * i * 2 ^ k < t.count = rw (twice k i) h
    in dite (dec_le t.count (middle k i))
    (λ le. let less = ready_more t words words' views views' more given k (2 * i) below in
    omega (arith, ready_chain t words views k i le, ready_chain t words' views' k i le))
    (λ gt. let in_ : middle k i < t.count = omega arith in let a = more (middle k i) (split_positive k i) in_ in
    omega (arith, ready_node t words views k i in_, ready_node t words' views' k i in_))

pub ready_same : (t : Tree) (words words' : List ℕ) (views views' : List View)
    → ((m : ℕ) → 0 < m → m < t.count → get_or words' (word_of t m) 0 / 2 ≡ get_or words (word_of t m) 0 / 2)
    → ((j : ℕ) → j < t.count → times_given (t.first + j) views' ≡ times_given (t.first + j) views)
    → (k i : ℕ) → i * 2 ^ k < t.count → ready t words' views' k i ≡ ready t words views k i
ready_same t words words' views views' same given k i h
    = grind (arith, ready_more t words words' views views', ready_more t words' words views' views)

pub root_more : (t : Tree) (G H : ℕ → List ℕ → Type 0) → ((u : ℕ) (x : List ℕ) → G u x → H u x)
    → (k i : ℕ) (hash : List ℕ) → IsRoot G t k i hash → IsRoot H t k i hash
root_more t G H more zero i hash is = elim is [ inl r ↦ inl (r.0, more (t.first + i) hash r.1) | inr r ↦ inr r ]
root_more t G H more (suc k) i hash is
    = (is.0, is.1, root_more t G H more k (2 * i) is.0 is.2, root_more t G H more k (2 * i + 1) is.1 is.3, is.4)

module _ {t : Tree} {words : List ℕ} {homes : List (Opt (List ℕ))} {views : List View}
    (kept : KeepsTree t words homes views) where
  pub node_flow : (k i side : ℕ) → side < 2 → middle k i < t.count
      → climbing (slot_of t (middle k i) side) views + kept.arrived (slot_of t (middle k i) side)
      ≡ ready t words views k (2 * i + side)
  node_flow k i side two near = kept.flow (slot_of t (middle k i) side) k (2 * i + side) (side_of t k i side two near)

  -- what is ready on the two sides of a node climbs there or is counted by its word
  pub node_ready : (k i : ℕ) → middle k i < t.count → climbing (slot_of t (middle k i) 0) views
      + climbing (slot_of t (middle k i) 1) views + get_or words (word_of t (middle k i)) 0
      ≡ ready t words views k (2 * i) + ready t words views k (2 * i + 1)
  node_ready k i near = grind (arith, kept.word (middle k i) (split_positive k i) near)

  -- nothing is ready twice
  pub ready_once : (k i : ℕ) → i * 2 ^ k < t.count → ready t words views k i ≤ 1
  ready_once zero i h = kept.once i (omega arith)
  ready_once (suc k) i h = let below : 2 * i * 2 ^ k < t.count = rw (twice k i) h in dite (dec_le t.count (middle k i))
      (λ le. omega (arith, ready_chain t words views k i le, ready_once k (2 * i) below))
      (λ gt. let in_ : middle k i < t.count = omega arith in let right = ready_once k (2 * i + 1) in_ in
      omega (arith, ready_node t words views k i in_, node_ready k i in_, ready_once k (2 * i) below))

  pub side_once : (slot k j : ℕ) → IsSide t slot k j → ready t words views k j ≤ 1
  side_once slot k j is = ready_once k j (side_covers t kept.some_unit slot k j is)

  pub arrived_once : (slot k j : ℕ) → IsSide t slot k j → kept.arrived slot ≤ 1
  arrived_once slot k j is = omega (arith, kept.flow slot k j is, side_once slot k j is)

  -- a node's word counts what arrived at that side and at the other
  pub node_word : (k i side : ℕ) → side < 2 → middle k i < t.count → get_or words (word_of t (middle k i)) 0
      ≡ kept.arrived (slot_of t (middle k i) side) + kept.arrived (slot_of t (middle k i) (1 - side))
  node_word k i side two near = grind (arith, kept.word (middle k i) (split_positive k i) near)

  pub node_once : (k i side : ℕ) → side < 2 → middle k i < t.count → kept.arrived (slot_of t (middle k i) side) ≤ 1
  node_once k i side two near
      = arrived_once (slot_of t (middle k i) side) k (2 * i + side) (side_of t k i side two near)

  -- a hash that climbs has not arrived, and no other climbs there
  pub alone_there : (id : ℕ) (v : View) (c : Climb) → get_elem? views id ≡ some v → v.climb ≡ Some c
      → (k j : ℕ) → IsSide t c.slot k j
      → (climbing c.slot views ≡ 1) × (ready t words views k j ≡ 1) × (kept.arrived c.slot ≡ 0)
  alone_there id v c at in_climb k j is = grind (arith, kept.flow c.slot k j is, side_once c.slot k j is, term_le)

  -- a slot to which nothing has come is at home
  pub empty_home : (slot k j : ℕ) → IsSide t slot k j → ready t words views k j ≡ 0 → out slot views ≡ 0
  empty_home slot k j (inl p) none = let a = kept.outs (middle k p.0) p.1 p.2 (split_positive k p.0) p.3 in
      grind (arith, node_word k p.0 p.1 p.2 p.3, node_once k p.0 (1 - p.1))
  empty_home slot k j (inr p) none = grind (arith, kept.flow slot k j (inr p), kept.out_top)

-- what was told stays so
pub told_more : (number : ℕ) (P Q : List ℕ → Type 0) → ((hash : List ℕ) → P hash → Q hash) → (tops : List (ℕ × List ℕ))
    → TopsAre number P tops → TopsAre number Q tops
told_more number P Q more [] are = tt
told_more number P Q more (top ∷ tops) are = ((λ e. more top.1 (are.0 e)), told_more number P Q more tops are.1)

pub told_append : (number : ℕ) (P : List ℕ → Type 0) (a b : List (ℕ × List ℕ)) → TopsAre number P a
    → TopsAre number P b → TopsAre number P (a ++ b)
told_append number P [] b x y = y
told_append number P (top ∷ a) b x y = (x.0, told_append number P a b x.1 y)

pub has_unit-true : (t : Tree) (u : ℕ) → has_unit t u ≡ true → (t.first ≤ u) × (u < t.first + t.count)
has_unit-true t u e = grind arith

pub has_unit-within : (t : Tree) (u : ℕ) → t.first ≤ u → u < t.first + t.count → has_unit t u ≡ true
has_unit-within t u low high = grind arith

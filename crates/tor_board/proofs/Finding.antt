-- The trees of a shape: which one has a unit, and what is counted at their nodes.
use Rattle.{atomic_table.proofs.Lists.at_index, tor_board.proofs.Names.{Board, Climb, GivenUnit, IsIn, IsShape, IsSide}}
use Rattle.tor_board.proofs.Names.{IsTreeOf, LastGiveIsIn, List, Shape, Tree, [], ap, arith, below, climbed, cond}
use Rattle.tor_board.proofs.Names.{get_elem?, get_or, get_or-set_other, get_or-set_same, has_unit, inl, joined_in}
use Rattle.tor_board.proofs.Names.{joined_more, length, middle, only, pairs, refl, set, slot_of, some, some-injective}
use Rattle.tor_board.proofs.Names.{subst, suc, sym, total, word_of, zero, ℕ, ◌%◌, ◌+◌, ◌-◌, ◌/◌, ◌<◌, ◌∙◌, ◌∷◌, ◌≡◌}
use Rattle.tor_board.{proofs.Names.{◌≢◌, ◌≤◌}, proofs.Sums.{term_le, total-map}, specs.Seats.levels_above}
use Rattle.tor_merkle.proofs.ProvedLaws.{height_least}

pub record Apart (t u : Tree) : Type 0 where
  pub slots : (s : ℕ) → IsIn t s → IsIn u s → ⊥
  pub words : (m n : ℕ) → m < t.count → n < u.count → word_of t m ≢ word_of u n
  pub units : (m n : ℕ) → m < t.count → n < u.count → t.first + m ≢ u.first + n

pub same_tree : (shape : Shape) (t u : Tree) → IsTreeOf shape t → IsTreeOf shape u → t.number ≡ u.number → t ≡ u
same_tree shape t u is is' e = some-injective t u (sym is ∙ (ap (get_elem? shape.trees.items) e ∙ is'))

pub apart : {words slots : ℕ} {shape : Shape} → IsShape words slots shape → (t u : Tree) → IsTreeOf shape t
    → IsTreeOf shape u → t.number ≢ u.number → Apart t u
apart shaped t u is is' ne = record {
  slots = λ s h k. grind (arith, shaped.laid t u is is', shaped.laid u t is' is);
  words = λ m n h k e. grind (arith, shaped.laid t u is is', shaped.laid u t is' is);
  units = λ m n h k e. grind (arith, shaped.apart t u is is' ne, shaped.apart u t is' is (λ same. ne (sym same)));
}

-- a tree by its place, which is its number
module _ {words slots : ℕ} {shape : Shape} (shaped : IsShape words slots shape) where
  pub at_number : (k : ℕ) (t : Tree) → get_elem? shape.trees.items k ≡ some t → IsTreeOf shape t
  at_number k t e = subst (λ (n : ℕ). get_elem? shape.trees.items n ≡ some t) (sym (shaped.numbered k t e)) e

  pub tree_there : (k : ℕ) (t : Tree) → k < length shape.trees.items → t ≡ get_or shape.trees.items k t
      → (get_elem? shape.trees.items k ≡ some t) × IsTreeOf shape t
  tree_there k t inside is = let e = at_index shape.trees.items k t inside is in (e, at_number k t e)

  pub same_at : (j k : ℕ) (t u : Tree) → get_elem? shape.trees.items j ≡ some t → get_elem? shape.trees.items k ≡ some u
      → j ≡ k → t ≡ u
  same_at j k t u e f same = some-injective t u (sym e ∙ (ap (get_elem? shape.trees.items) same ∙ f))

-- the levels above a unit of a tree
pub levels_of : {words slots : ℕ} (b : Board) → IsShape words slots b.shape → (t : Tree) → IsTreeOf b.shape t → (u : ℕ)
    → t.first ≤ u → u < t.first + t.count → t.height ≤ levels_above b u
levels_of b shaped t is u low high = grind (arith, total-map, term_le)

-- the highest node of a tree
module _ {words slots : ℕ} {shape : Shape} (shaped : IsShape words slots shape) (t : Tree) (is : IsTreeOf shape t) where
  pub some_height : 0 < t.height
  some_height = grind arith

  pub top_node : middle (t.height - 1) 0 < t.count
  top_node = grind (arith, shaped.fits t is, (shaped.fits t is).least, some_height, height_least)

  pub top_word : word_of t (middle (t.height - 1) 0) < words
  top_word = omega (arith, top_node, (shaped.fits t is).long)

-- ---- how many gives came second, and how many arrived

-- the climb is at a side of a node of its tree
pub record IsBelow (c : Climb) : Type 0 where
  pub slot : c.slot ≡ slot_of c.tree (middle c.level (c.index / 2)) (c.index % 2)
  pub inside : middle c.level (c.index / 2) < c.tree.count
  pub low : c.level < c.tree.height

-- the node, its word, and the slot to which a hash that is joined there goes
abbrev pub node_above : Climb → ℕ
node_above c = middle c.level (c.index / 2)

abbrev pub word_above : Climb → ℕ
word_above c = word_of c.tree (node_above c)

abbrev pub above_slot : Climb → ℕ
above_slot c = (climbed c []).slot

-- the words, with one more at that
abbrev pub one_more : List ℕ → ℕ → List ℕ
one_more words i = set words i (get_or words i 0 + 1)

pub own_side : (c : Climb) → IsBelow c → IsSide c.tree c.slot c.level c.index
own_side c below = inl (c.index / 2, c.index % 2, omega arith, below.inside, below.slot, omega arith)

module _ (c : Climb) (below : IsBelow c) (words : List ℕ) (long : word_above c < length words) where
  pub word_now : get_or (one_more words (word_above c)) (word_above c) 0 ≡ get_or words (word_above c) 0 + 1
  word_now = get_or-set_same words (word_above c) (get_or words (word_above c) 0 + 1) 0 long

  pub word_else : (i : ℕ) → i ≢ word_above c → get_or (one_more words (word_above c)) i 0 ≡ get_or words i 0
  word_else i ne = get_or-set_other words (word_above c) i (get_or words (word_above c) 0 + 1) 0 ne

  -- the first to arrive makes no half more
  pub same_halves : get_or words (word_above c) 0 ≡ 0 → (m : ℕ)
      → get_or (one_more words (word_above c)) (word_of c.tree m) 0 / 2 ≡ get_or words (word_of c.tree m) 0 / 2
  same_halves none_there m = grind (arith, word_now, word_else (word_of c.tree m))

  -- a node of any tree has one more where the climb is at one of its sides
  pub counted : (u : Tree) (m : ℕ) → get_or (one_more words (word_above c)) (word_of u m) 0
      ≡ get_or words (word_of u m) 0 + (only (slot_of u m 0) c.slot + only (slot_of u m 1) c.slot)
  counted u m = grind (arith, word_now, word_else (word_of u m), below.slot)

-- ---- second arrivals

pub below_same : (f g : ℕ → ℕ) (n : ℕ) → ((m : ℕ) → m < n → f m ≡ g m) → below f n ≡ below g n
below_same f g zero same = refl
below_same f g (suc n) same = omega (arith, below_same f g n (λ m h. same m (omega arith)), same n (omega arith))

below_once : (f g : ℕ → ℕ) (k n : ℕ) → k < n → f k ≡ g k + 1 → ((m : ℕ) → m ≢ k → f m ≡ g m) → below f n ≡ below g n + 1
below_once f g k zero h here else_ = omega arith
below_once f g k (suc n) h here else_ = grind (arith, below_same, below_once f g k n)

pub pairs_same : (t : Tree) (words words' : List ℕ)
    → ((m : ℕ) → m < t.count → get_or words' (word_of t m) 0 / 2 ≡ get_or words (word_of t m) 0 / 2)
    → pairs t words' ≡ pairs t words
pairs_same t words words' same
    = below_same (λ m. get_or words' (word_of t (m + 1)) 0 / 2) (λ m. get_or words (word_of t (m + 1)) 0 / 2)
    (t.count - 1) (λ m h. same (m + 1) (omega arith))

pub pairs_once : (t : Tree) (words words' : List ℕ) (k : ℕ) → 0 < k → k < t.count
    → get_or words' (word_of t k) 0 / 2 ≡ get_or words (word_of t k) 0 / 2 + 1
    → ((m : ℕ) → m ≢ k → get_or words' (word_of t m) 0 / 2 ≡ get_or words (word_of t m) 0 / 2)
    → pairs t words' ≡ pairs t words + 1
pairs_once t words words' k pos inside here else_ = let e : k - 1 + 1 ≡ k = omega arith in
    below_once (λ m. get_or words' (word_of t (m + 1)) 0 / 2) (λ m. get_or words (word_of t (m + 1)) 0 / 2) (k - 1)
    (t.count - 1) (omega (arith, inside)) (rw e here) (λ m ne. else_ (m + 1) (λ is. ne (omega arith)))

-- a sum of words of which one changes
pub words-set : (ws : List ℕ) (i n : ℕ) → i < length ws
    → total (λ (x : ℕ). x) (set ws i n) + get_or ws i 0 ≡ total (λ (x : ℕ). x) ws + n
words-set [] i n h = omega arith
words-set (x ∷ xs) zero n h = omega arith
words-set (x ∷ xs) (suc i) n h = omega (arith, words-set xs i n (omega arith))

pub joined_head : (t : Tree) (given : List GivenUnit) → LastGiveIsIn t given
    → joined_in t (joined_more given) ≡ joined_in t given + 1
joined_head t given h = rw h.2 (grind (arith, h.3))

pub joined_else : (t u : Tree) → Apart u t → (given : List GivenUnit) → LastGiveIsIn t given
    → joined_in u (joined_more given) ≡ joined_in u given
joined_else t u a given h = rw h.2 (grind (arith, a.units (h.0.unit - u.first) (h.0.unit - t.first)))

pub head_more : (t : Tree) (given : List GivenUnit) → LastGiveIsIn t given → LastGiveIsIn t (joined_more given)
head_more t given h = (record h.0 { joined = h.0.joined + 1 }, h.1, ap joined_more h.2, h.3)

pub not_joined : (t : Tree) (u : ℕ) → ◌≡◌ {A = ℕ} (cond (has_unit t u) 0 0) 0
not_joined t u = grind arith

-- what does not see how often a give came second
pub joined_same : (f : GivenUnit → ℕ) → ((u : ℕ) (h : List ℕ) (a b : ℕ)
    → f (record { unit = u; hash = h; joined = a }) ≡ f (record { unit = u; hash = h; joined = b }))
    → (gs : List GivenUnit) → total f (joined_more gs) ≡ total f gs
joined_same f same [] = refl
joined_same f same (g ∷ gs) = omega (arith, same g.unit g.hash (g.joined + 1) g.joined)

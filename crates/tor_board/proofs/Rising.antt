-- Which spot a middle names, where a hash rises to, and what it is there.
use Rattle.{std.proofs.Common.add-suc, tor_board.proofs.Names.{Bool, IsLow, IsRoot, IsSide, List, Tree, View, add-zero}}
use Rattle.tor_board.proofs.Names.{ap, arith, cond, dec_le, dite, false, get_or, inl, inr, le-ltb, ltb, middle}
use Rattle.tor_board.proofs.Names.{mul-le-mul_right, node_of, only, pow-suc, pow_mono, raised, ready, refl, risen}
use Rattle.tor_board.proofs.Names.{slot_at, subst, suc, sym, times_given, word_of, zero, ℕ, ℕ_discrete, ◌%◌, ◌*◌, ◌+◌}
use Rattle.tor_board.proofs.{Names.{◌-◌, ◌/◌, ◌<◌, ◌^◌, ◌∙◌, ◌≡◌, ◌≤◌, ◌⊎◌}, Sums.{only-other, only-same}}
use Rattle.tor_board.{proofs.Trees.{ready_chain, split_positive, twice}, specs.Rising.Rises}
use Rattle.tor_merkle.specs.Subtree.{zero_subtree}

halved : (i p : ℕ) → (2 * i + 1) * (p * 2) ≡ (2 * i + 1) * p * 2
halved i p = omega arith

pub split_suc : (k i : ℕ) → middle (suc k) i ≡ middle k i * 2
split_suc k i = ap (λ (x : ℕ). (2 * i + 1) * x) (pow-suc 2 k) ∙ halved i (2 ^ k)

pub split_zero : (i : ℕ) → middle zero i ≡ 2 * i + 1
split_zero i = omega arith

half : (x y : ℕ) → x * 2 ≡ y * 2 → x ≡ y
half x y e = omega arith

pub split_one : (k i l j : ℕ) → middle k i ≡ middle l j → (k ≡ l) × (i ≡ j)
split_one zero i zero j e = (refl, omega (arith, split_zero i, split_zero j))
split_one zero i (suc l) j e = grind (arith, split_suc l j, split_zero i, sym (split_zero i) ∙ (e ∙ (split_suc l j)))
split_one (suc k) i zero j e = let a = split_suc k i in let b = split_zero j in
    let p : 2 * j + 1 ≡ middle k i * 2 = sym b ∙ (sym e ∙ a) in omega arith
split_one (suc k) i (suc l) j e =
    grind (arith, split_one k i l j (half (middle k i) (middle l j) (sym (split_suc k i) ∙ (e ∙ split_suc l j))))

same_part : (o x y a b : ℕ) → a < 2 → b < 2 → 2 * (o + x) + a ≡ 2 * (o + y) + b → x ≡ y
same_part o x y a b h l e = omega arith

-- a slot is that of one spot
pub side_one : (t : Tree) (slot k j l n : ℕ) → IsSide t slot k j → IsSide t slot l n → (k ≡ l) × (j ≡ n)
side_one t slot k j l n (inl p) (inl q) = let x : ℕ = middle k p.0 in let y : ℕ = middle l q.0 in
    let s : x ≡ y = same_part t.offset x y p.1 q.1 p.2 q.2 (sym p.4 ∙ q.4) in
    let r = split_one k p.0 l q.0 s in (r.0, omega (arith, p.5, q.5, r.1))
side_one t slot k j l n (inl p) (inr q) = omega (arith, p.4, q.0, split_positive k p.0)
side_one t slot k j l n (inr p) (inl q) = omega (arith, p.0, q.4, split_positive l q.0)
side_one t slot k j l n (inr p) (inr q) = (p.1 ∙ sym q.1, p.2 ∙ sym q.2)

-- a root of one side is that of its slot
pub rooted_at : (G : ℕ → List ℕ → Type 0) (t : Tree) (slot k j : ℕ) (hash : List ℕ) → IsSide t slot k j
    → IsRoot G t k j hash → (l n : ℕ) → IsSide t slot l n → IsRoot G t l n hash
rooted_at G t slot k j hash is root l n to = let q = side_one t slot l n k j to is in rw (q.0, q.1) root

pub rises_ready : (t : Tree) (words : List ℕ) (views : List View) (d l i k j : ℕ) → Rises t.count d l i k j
    → ready t words views k j ≡ ready t words views l i
rises_ready t words views zero l i k j r = rw (r.0, r.1) refl
rises_ready t words views (suc d) l i k j r = rises_ready t words views d (suc l) r.0 k j r.3
    ∙ (ready_chain t words views l r.0 r.2 ∙ ap (λ (x : ℕ). ready t words views l x) (sym r.1))

pub rises_more : (t : Tree) (d l i k h : ℕ) → Rises t.count d l i k (2 * h) → t.count ≤ middle k h
    → Rises t.count (suc d) l i (suc k) h
rises_more t zero l i k h r le = (h, r.1, rw r.0 le, (ap suc r.0, refl))
rises_more t (suc d) l i k h r le = (r.0, r.1, r.2, rises_more t d (suc l) r.0 k h r.3 le)

rises_up : (t : Tree) (d l i k j : ℕ) → Rises t.count d l i k j → l ≤ k
rises_up t zero l i k j r = omega (arith, r.0)
rises_up t (suc d) l i k j r = omega (arith, rises_up t d (suc l) r.0 k j r.3)

-- a side of a node is lower than the top
low_split : (k i : ℕ) → 2 ^ k ≤ middle k i
low_split k i = let p : 1 * 2 ^ k ≤ (2 * i + 1) * 2 ^ k = mul-le-mul_right (2 ^ k) (omega arith) in omega arith

pub side_low : (t : Tree) → t.count ≤ 2 ^ t.height → (slot k j : ℕ) → IsSide t slot k j → k ≤ t.height
side_low t tall slot k j (inl p) = grind (arith, pow_mono, low_split k p.0, p.3)
side_low t tall slot k j (inr p) = omega (arith, p.1)

-- from a side nothing rises
stays : (t : Tree) → t.count ≤ 2 ^ t.height → (slot l i d k j slot' : ℕ) → IsSide t slot l i
    → Rises t.count (suc d) l i k j → IsSide t slot' k j → ⊥
stays t tall slot l i d k j slot' (inl p) r end = grind (arith, p.2, p.5, r.1, r.2)
stays t tall slot l i d k j slot' (inr p) r end
    = omega (arith, p.1, rises_up t d (suc l) r.0 k j r.3, side_low t tall slot' k j end)

pub rises_one : (t : Tree) → t.count ≤ 2 ^ t.height → (d e l i k j k' j' slot slot' : ℕ) → Rises t.count d l i k j
    → Rises t.count e l i k' j' → IsSide t slot k j → IsSide t slot' k' j' → (k ≡ k') × (j ≡ j')
rises_one t tall zero zero l i k j k' j' slot slot' a b p q = (sym a.0 ∙ b.0, sym a.1 ∙ b.1)
rises_one t tall zero (suc e) l i k j k' j' slot slot' a b p q
    = absurd (stays t tall slot l i e k' j' slot' (rw (a.0, a.1) p) b q)
rises_one t tall (suc d) zero l i k j k' j' slot slot' a b p q
    = absurd (stays t tall slot' l i d k j slot (rw (b.0, b.1) q) a p)
rises_one t tall (suc d) (suc e) l i k j k' j' slot slot' a b p q = let same : a.0 ≡ b.0 = omega (arith, a.1, b.1) in
    rises_one t tall d e (suc l) a.0 k j k' j' slot slot' a.3 (rw same b.3) p q

pub not_top : (t : Tree) → t.count ≤ 2 ^ t.height → (k i : ℕ) → k ≡ t.height → middle k i < t.count → ⊥
not_top t tall k i e h = grind arith

-- a spot has one slot
pub place_one : (t : Tree) → t.count ≤ 2 ^ t.height → (slot slot' k j : ℕ) → IsSide t slot k j → IsSide t slot' k j
    → slot ≡ slot'
place_one t tall slot slot' k j (inl p) (inl q) = grind arith
place_one t tall slot slot' k j (inl p) (inr q) = absurd (not_top t tall k p.0 q.1 p.3)
place_one t tall slot slot' k j (inr p) (inl q) = absurd (not_top t tall k q.0 p.1 q.3)
place_one t tall slot slot' k j (inr p) (inr q) = p.0 ∙ sym q.0

-- where one word changes, or one unit is given, a spot is as ready as before, or that spot rises to it
pub ready_from : (t : Tree) (words words' : List ℕ) (views views' : List View) (l i : ℕ)
    → ((n : ℕ) → (times_given (t.first + n) views' ≡ times_given (t.first + n) views) ⊎ ((l ≡ zero) × (i ≡ n)))
    → ((k j : ℕ) → middle k j < t.count
    → (get_or words' (word_of t (middle k j)) 0 ≡ get_or words (word_of t (middle k j)) 0) ⊎ ((l ≡ suc k) × (i ≡ j)))
    → (k j : ℕ) → (ready t words' views' k j ≡ ready t words views k j) ⊎ ((d : ℕ) × Rises t.count d l i k j)
ready_from t words words' views views' l i given same zero j = elim (given j) [ inl e ↦ inl e | inr r ↦ inr (0, r) ]
ready_from t words words' views views' l i given same (suc k) j = dite (dec_le t.count (middle k j))
    (λ le. elim (ready_from t words words' views views' l i given same k (2 * j)) [
      | inl e ↦ inl (ready_chain t words' views' k j le ∙ (e ∙ sym (ready_chain t words views k j le)))
      | inr r ↦ inr (suc r.0, rises_more t r.0 l i k j r.1 le)
    ]) (λ gt. grind arith)

-- of the sides, only that one to which it rises is readied with it
pub ready_grown : (t : Tree) → t.count ≤ 2 ^ t.height → (words words' : List ℕ) (views views' : List View)
    → (l i above k1 j1 steps : ℕ) → IsSide t above k1 j1 → Rises t.count steps l i k1 j1
    → ready t words views l i ≡ 0 → ready t words' views' l i ≡ 1
    → ((k j : ℕ) → (ready t words' views' k j ≡ ready t words views k j) ⊎ ((d : ℕ) × Rises t.count d l i k j))
    → (slot k j : ℕ) → IsSide t slot k j → ready t words' views' k j ≡ ready t words views k j + only slot above
ready_grown t tall words words' views views' l i above k1 j1 steps side rise none one grown slot k j is
    = dite (ℕ_discrete slot above) (λ e. let q = side_one t above k j k1 j1 (rw (sym e) is) side in
    let a = rises_ready t words views steps l i k1 j1 rise in
    let b = rises_ready t words' views' steps l i k1 j1 rise in let o : only slot above ≡ 1 = rw e (only-same above) in
    rw (q.0, q.1) (omega arith)) (λ ne. let z = only-other slot above (λ e. ne (sym e)) in elim (grown k j) [
      | inl e ↦ omega arith
      | inr r ↦ let q = rises_one t tall r.0 steps l i k j k1 j1 slot above r.1 rise is side in
          absurd (ne (place_one t tall slot above k1 j1 (rw (sym q.0, sym q.1) is) side))
    ])

-- ---- where a hash rises to, and its small numbers

-- a hash stops below a node, and goes on past an end
pub fork : (t : Tree) (d d' l l' i : ℕ) (b : Bool) → d ≡ suc d' → l' ≡ suc l → ltb (middle l (i / 2)) t.count ≡ b
    → (risen t d l i ≡ cond b (l, i) (risen t d' l' (i / 2))) × ((hash : List ℕ) → raised t d l i hash
    ≡ cond b hash (raised t d' l' (i / 2) (node_of hash (zero_subtree (t.level + l)))))
fork t d d' l l' i b e f is = grind arith

-- a spot with a unit and no neighbour is a left one
same_split : (l i : ℕ) → i % 2 ≡ 1 → middle l (i / 2) ≡ i * 2 ^ l
same_split l i odd = let e : 2 * (i / 2) + 1 ≡ i = omega arith in ap (λ (x : ℕ). x * 2 ^ l) e

pub even_place : (t : Tree) (l i : ℕ) → i * 2 ^ l < t.count → t.count ≤ middle l (i / 2) → i ≡ 2 * (i / 2)
even_place t l i h le = grind (arith, same_split l i)

pub half_place : (l i : ℕ) → i ≡ 2 * (i / 2) → i * 2 ^ l ≡ i / 2 * 2 ^ suc l
half_place l i even = ap (λ (x : ℕ). x * 2 ^ l) even ∙ twice l (i / 2)

-- past the end stand zero subtrees
pub past_root : (G : ℕ → List ℕ → Type 0) (t : Tree) (l j : ℕ) → t.count ≤ j * 2 ^ l
    → IsRoot G t l j (zero_subtree (t.level + l))
unfolding zero_subtree
past_root G t zero j h = inr (omega arith, ap zero_subtree (add-zero t.level))
past_root G t (suc l) j h =
    let z : List ℕ = zero_subtree (t.level + l) in let wide : 2 * j * 2 ^ l ≡ j * 2 ^ suc l = twice l j in
    let left = past_root G t l (2 * j) (omega arith) in
    (z, z, left, past_root G t l (2 * j + 1) (omega arith), ap zero_subtree (add-suc t.level l))

-- where a hash rises to from a spot
abbrev pub goal_of : Tree → ℕ → ℕ → ℕ × ℕ
goal_of t l i = risen t (t.height - l) l i

-- a hash rises there, which is a side at or above its spot, and it is then the root there
abbrev pub Lands : Tree → ℕ → ℕ → ℕ → ℕ × ℕ → Type 1
Lands t d l i p = ((steps : ℕ) × Rises t.count steps l i p.0 p.1) × IsSide t (slot_at t p.0 p.1) p.0 p.1 × (l ≤ p.0)
    × ((G : ℕ → List ℕ → Type 0) (hash : List ℕ) → IsRoot G t l i hash → IsRoot G t p.0 p.1 (raised t d l i hash))

module _ (t : Tree) (some_unit : 0 < t.count) (tall : t.count ≤ 2 ^ t.height) where
  top_place : (i : ℕ) → i * 2 ^ t.height < t.count → i ≡ 0
  top_place zero h = refl
  top_place (suc i) h = grind arith

  risen_lands : (d l i : ℕ) → l + d ≡ t.height → i * 2 ^ l < t.count → Lands t d l i (risen t d l i)
  risen_lands zero l i top h =
      let e : l ≡ t.height = omega arith in let place = top_place i (subst (λ (x : ℕ). i * 2 ^ x < t.count) e h) in
      ((0, (refl, refl)), inr (grind arith, e, place), omega arith, λ G hash is. is)
  risen_lands (suc d) l i top h = dite (dec_le t.count (middle l (i / 2))) (λ le.
      let even = even_place t l i h le in let z : List ℕ = zero_subtree (t.level + l) in
      let r = risen_lands d (suc l) (i / 2) (omega arith) (omega (arith, half_place l i even)) in
      let on = fork t (suc d) d l (suc l) i false refl refl (le-ltb (middle l (i / 2)) t.count le) in
      subst (Lands t (suc d) l i) (sym on.0) (
        (suc r.0.0, (i / 2, even, le, r.0.1)),
        r.1,
        omega (arith, r.2),
        λ G hash is. let left = subst (λ (x : ℕ). IsRoot G t l x hash) even is in rw (on.1 hash)
            (r.3 G (node_of hash z) (hash, z, left, past_root G t l (2 * (i / 2) + 1) le, refl)),
      )) (λ gt. grind arith)

  pub lands : (l i : ℕ) → l ≤ t.height → i * 2 ^ l < t.count → Lands t (t.height - l) l i (goal_of t l i)
  lands l i low covers = risen_lands (t.height - l) l i (omega arith) covers

next_place : (i p : ℕ) → (2 * (i / 2) + 1) * p ≤ i * p + p
next_place i p = let e : (i + 1) * p ≡ i * p + p = omega arith in
    let f : (2 * (i / 2) + 1) * p ≤ (i + 1) * p = mul-le-mul_right p (omega arith) in omega arith

pub low_count : (t : Tree) → IsLow t → t.count ≤ 2 ^ 36
low_count t low = grind (arith, pow_mono)

pub split_small : (t : Tree) → IsLow t → (l i : ℕ) → l ≤ t.height → i * 2 ^ l < t.count
    → (2 * (i / 2) + 1) * 2 ^ l < 2 ^ 37
split_small t low l i le h = grind (arith, pow_mono, low.1, low_count t low, next_place i (2 ^ l))

pub split_fits : (t : Tree) → IsLow t → (l i : ℕ) → l ≤ t.height → i * 2 ^ l < t.count → (l ≤ 36)
    × ((2 * (i / 2) + 1) * 2 ^ l < 2 ^ 63)
split_fits t low l i le h = (omega (arith, low.1), omega (arith, split_small t low l i le h))

-- one level up
pub up_covers : (t : Tree) (l i : ℕ) → i * 2 ^ l < t.count → t.count ≤ middle l (i / 2) → i / 2 * 2 ^ (l + 1) < t.count
up_covers t l i h le = grind (arith, half_place l i (even_place t l i h le))

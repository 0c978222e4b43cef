-- Pieces filled one after another: the leaves of the last, and the nodes of those before it.
use Rattle.tor_merkle.proofs.Names.{◌≡◌, ℕ, zero, suc, ◌+◌, ◌-◌, ◌*◌, ◌/◌, ◌^◌, ◌<◌, ◌≤◌, List, [], ◌∷◌, ◌++◌, map}
use Rattle.tor_merkle.proofs.Names.{length, get_or, drop, arith, ap, ap₂, ◌∙◌, sym, pow_pos, pow-add, le_antisymm}
use Rattle.tor_merkle.proofs.Names.{le_trans, mul-le-mul_right, div-mul-le_self, suc-add, zero-add, length-drop}
use Rattle.tor_merkle.proofs.Names.{lt-div-mul-add, two-pow-succ, get_or-drop, length_push, map-range_with_len_more}
use Rattle.tor_merkle.proofs.Names.{length-map-range_with_len, div_ceil, range_with_len, node, nodes, first_nodes}
use Rattle.tor_merkle.proofs.Names.{filled, padded_subtree, padded_root, node_of, zero_subtree, height}
use Rattle.tor_merkle.proofs.Ceil.{ceil_from_below, ceil_at_most, ceil_covers}
use Rattle.tor_merkle.proofs.Height.{height_covers, height_least, height_above}
use Rattle.tor_merkle.proofs.Levels.{range_same, get_or-nodes, length-nodes}
use Rattle.tor_merkle.proofs.Node.{node-append, subtree_root-padded}
use Rattle.tor_merkle.proofs.BinaryDigits.{div_between}

-- the nodes over the rest of a list are those of the list, further on
pub node-drop : (base : ℕ) (hashes : List (List ℕ)) (a k j : ℕ)
    → node base (drop (a * 2 ^ k) hashes) k j ≡ node base hashes k (a + j)
unfolding node
node-drop base hashes a zero j =
    get_or-drop (a * 1) hashes j (zero_subtree base) ∙ ap (λ i. get_or hashes i (zero_subtree base)) (omega arith)
node-drop base hashes a (suc k) j =
    let wide : a * 2 ^ suc k ≡ 2 * a * 2 ^ k = ap (λ x. a * x) (two-pow-succ k) ∙ omega arith in
    ap (λ x. node_of (node base (drop x hashes) k (2 * j)) (node base (drop x hashes) k (2 * j + 1))) wide
    ∙ ap₂ node_of
    (node-drop base hashes (2 * a) k (2 * j) ∙ ap (node base hashes k) (omega arith))
    (node-drop base hashes (2 * a) k (2 * j + 1) ∙ ap (node base hashes k) (omega arith))

-- the nodes over nodes of level k are those above it
pub node-over : (top : ℕ) (nodes : List (List ℕ)) (base : ℕ) (hashes : List (List ℕ)) (k end : ℕ)
    → ((i : ℕ) → i < end → get_or nodes i (zero_subtree top) ≡ node base hashes k i) → (j i : ℕ) → (i + 1) * 2 ^ j ≤ end
    → node top nodes j i ≡ node base hashes (j + k) i
unfolding node
node-over top nodes base hashes k end each zero i le =
    each i (omega arith) ∙ ap (λ h. node base hashes h i) (sym (zero-add k))
node-over top nodes base hashes k end each (suc j) i le =
    let wide : (i + 1) * 2 ^ suc j ≡ (i + 1) * (2 ^ j + 2 ^ j) = ap (λ x. (i + 1) * x) (two-pow-succ j) in
    ap₂ node_of (node-over top nodes base hashes k end each j (2 * i) (omega arith))
    (node-over top nodes base hashes k end each j (2 * i + 1) (omega arith))
    ∙ ap (λ h. node base hashes h i) (sym (suc-add j k))

pub node-nodes : (hashes : List (List ℕ)) (k j i : ℕ) → node k (nodes 0 hashes k) j i ≡ node 0 hashes (j + k) i
node-nodes hashes k j i =
    node-over k (nodes 0 hashes k) 0 hashes k ((i + 1) * 2 ^ j)
    (λ i _. ap (λ b. get_or (nodes 0 hashes k) i (zero_subtree b)) (sym (zero-add k)) ∙ get_or-nodes 0 hashes k i)
    j i (omega arith)

-- the height of a tree above one of its levels
pub height-ceil : (n k : ℕ) → 2 ^ k < n → height n ≡ height (div_ceil n (2 ^ k)) + k
height-ceil n k more =
    let count = div_ceil n (2 ^ k) in
    let top : k ≤ height n = omega (arith, height_above n k more) in
    let split : 2 ^ height n ≡ 2 ^ (height n - k) * 2 ^ k =
    ap (λ h. 2 ^ h) (omega arith) ∙ pow-add 2 (height n - k) k in
    let few : count ≤ 2 ^ (height n - k) =
    ceil_at_most n (2 ^ k) (2 ^ (height n - k)) (pow_pos k) (omega (arith, height_covers n, split)) in
    let low : height n ≤ height count + k = height_least n (height count + k)
    (le_trans (ceil_covers n (2 ^ k) (pow_pos k))
    (le_trans (mul-le-mul_right {n = 2 ^ height count} (2 ^ k) (height_covers count))
    (omega (arith, pow-add 2 (height count) k)))) in
    le_antisymm low (omega (arith, height_least count (height n - k) few))

-- the root over the hashes of the pieces is that over the leaves
pub padded_root-nodes : (hashes : List (List ℕ)) (k : ℕ) → 2 ^ k < length hashes
    → padded_root k (nodes 0 hashes k) ≡ padded_root 0 hashes
unfolding padded_root
padded_root-nodes hashes k more =
    let count = length (nodes 0 hashes k) in
    let top : height count + k ≡ height (length hashes) =
    ap (λ n. height n + k) (length-nodes 0 hashes k) ∙ sym (height-ceil (length hashes) k more) in
    subtree_root-padded k (nodes 0 hashes k) (height count) (height_covers count)
    ∙ node-nodes hashes k (height count) 0
    ∙ ap (λ h. node 0 hashes h 0) top
    ∙ sym (subtree_root-padded 0 hashes (height (length hashes)) (height_covers (length hashes)))

module _ (k : ℕ) (leaves : List (List ℕ)) where
  pub filled_within : filled k leaves * 2 ^ k ≤ length leaves
  filled_within = omega (arith, div-mul-le_self (length leaves - 1) (2 ^ k))

  -- the last piece has some leaf, and no more than fit
  pub filled_below : 0 < length leaves → filled k leaves * 2 ^ k < length leaves
  filled_below some = omega (arith, div-mul-le_self (length leaves - 1) (2 ^ k))

  pub filled_covers : length leaves ≤ (filled k leaves + 1) * 2 ^ k
  filled_covers = omega (arith, lt-div-mul-add {a = length leaves - 1} {b = 2 ^ k} (pow_pos k))

  pub length-last_piece : length (drop (filled k leaves * 2 ^ k) leaves) ≡ length leaves - filled k leaves * 2 ^ k
  length-last_piece = length-drop (filled k leaves * 2 ^ k) leaves

  -- the hash of the last piece is the next node
  pub first_nodes_closed : 0 < length leaves
      → first_nodes 0 leaves k (filled k leaves) ++ padded_subtree k 0 (drop (filled k leaves * 2 ^ k) leaves) ∷ []
      ≡ first_nodes 0 leaves k (filled k leaves + 1)
  unfolding first_nodes
  first_nodes_closed some =
      let q = filled k leaves in
      let fits : length (drop (q * 2 ^ k) leaves) ≤ 2 ^ k = omega (arith, length-last_piece, filled_covers) in
      ap (λ x. map (node 0 leaves k) (range_with_len 0 q) ++ x ∷ [])
      (subtree_root-padded 0 (drop (q * 2 ^ k) leaves) k fits ∙ node-drop 0 leaves q k 0
      ∙ ap (node 0 leaves k) (omega arith))
      ∙ sym (map-range_with_len_more (node 0 leaves k) 0 q q (zero-add q))

  -- the nodes of filled pieces stay
  pub first_nodes-push : (leaf : List ℕ) (n : ℕ) → n * 2 ^ k ≤ length leaves
      → first_nodes 0 leaves k n ≡ first_nodes 0 (leaves ++ leaf ∷ []) k n
  unfolding first_nodes
  first_nodes-push leaf n le =
      range_same (node 0 leaves k) (node 0 (leaves ++ leaf ∷ []) k) n
      (λ i lt. sym (node-append 0 leaves (leaf ∷ []) k i
      (le_trans (mul-le-mul_right {n = n} (2 ^ k) (omega arith)) le)))

  -- one leaf more begins a piece exactly where the last is full
  pub filled_full : (leaf : List ℕ) → length (drop (filled k leaves * 2 ^ k) leaves) ≡ 2 ^ k
      → filled k (leaves ++ leaf ∷ []) ≡ filled k leaves + 1
  filled_full leaf full =
      let n : length leaves ≡ (filled k leaves + 1) * 2 ^ k = omega (arith, length-last_piece, full, pow_pos k) in
      ap (λ x. x / 2 ^ k)
      (let same : length (leaves ++ leaf ∷ []) - 1 ≡ length leaves = omega (arith, length_push leaves leaf) in same)
      ∙ div_between (length leaves) k (filled k leaves + 1) (omega (arith, n)) (omega (arith, n, pow_pos k))

  pub filled_open : (leaf : List ℕ) → (length (drop (filled k leaves * 2 ^ k) leaves) ≡ 2 ^ k → ⊥)
      → filled k (leaves ++ leaf ∷ []) ≡ filled k leaves
  filled_open leaf open_still =
      ap (λ x. x / 2 ^ k)
      (let same : length (leaves ++ leaf ∷ []) - 1 ≡ length leaves = omega (arith, length_push leaves leaf) in same)
      ∙ div_between (length leaves) k (filled k leaves) filled_within
      (omega (arith, length-last_piece, filled_covers, open_still))

  -- all pieces
  pub all_filled : 0 < length leaves → filled k leaves + 1 ≡ div_ceil (length leaves) (2 ^ k)
  all_filled some =
      le_antisymm
      (omega (arith, ceil_from_below (length leaves) (2 ^ k) (filled k leaves) (pow_pos k) (filled_below some)))
      (ceil_at_most (length leaves) (2 ^ k) (filled k leaves + 1) (pow_pos k) filled_covers)

  pub first_nodes_all : 0 < length leaves → first_nodes 0 leaves k (filled k leaves + 1) ≡ nodes 0 leaves k
  unfolding first_nodes nodes
  first_nodes_all some = ap (λ n. map (node 0 leaves k) (range_with_len 0 n)) (all_filled some)

  pub length-first_nodes : (n : ℕ) → length (first_nodes 0 leaves k n) ≡ n
  unfolding first_nodes
  length-first_nodes n = length-map-range_with_len (node 0 leaves k) 0 n

  -- there is one piece exactly where the leaves fit into one
  pub one_piece : filled k leaves ≡ 0 → length leaves ≤ 2 ^ k
  one_piece none = omega (arith, filled_covers, ap (λ q. (q + 1) * 2 ^ k) none)

  pub more_pieces : 0 < filled k leaves → 2 ^ k < length leaves
  more_pieces some =
      let low : 1 * 2 ^ k ≤ filled k leaves * 2 ^ k = mul-le-mul_right {n = filled k leaves} (2 ^ k) some in
      omega (arith, div-mul-le_self (length leaves - 1) (2 ^ k), pow_pos k)

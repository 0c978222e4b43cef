-- The root and the piece layer of a content are nodes of the tree over its leaves.
use Rattle.tor_merkle.proofs.Names.{◌≡◌, ℕ, ◌*◌, ◌/◌, ◌^◌, ◌<◌, ◌≤◌, List, [], ◌∷◌, map, length, arith, le_antisymm}
use Rattle.tor_merkle.proofs.Names.{le_trans, refl, sym, ap, ap₂, ◌∙◌, pow_pos, mul_assoc, mul_comm}
use Rattle.tor_merkle.proofs.Names.{mul-div_cancel_left, length-map, length-map-range_with_len, div_ceil}
use Rattle.tor_merkle.proofs.Names.{range_with_len, sha256, run_at, blocks, leaves, pieces_root, piece_level}
use Rattle.tor_merkle.proofs.Names.{piece_roots, tree_leaves, zero_leaf, zero_subtree, subtree_root, height, padded}
use Rattle.tor_merkle.proofs.Names.{node, nodes, padded_subtree}
use Rattle.tor_merkle.proofs.Ceil.{ceil_at_most, ceil_ceil, ceil_covers, ceil_from_below}
use Rattle.tor_merkle.proofs.Height.{height_covers, height-pow}
use Rattle.tor_merkle.proofs.Levels.{range_same}
use Rattle.tor_merkle.proofs.Node.{subtree_root-padded, subtree_root-leaf_run}

pub length-leaves : (content : List ℕ) → length (leaves content) ≡ div_ceil (length content) 16384
unfolding leaves blocks
length-leaves content =
    length-map (map (run_at 16384 content) (range_with_len 0 (div_ceil (length content) 16384))) sha256
    ∙ length-map-range_with_len (run_at 16384 content) 0 (div_ceil (length content) 16384)

pub length-piece_roots : (content : List ℕ) (piece_length : ℕ)
    → length (piece_roots content piece_length) ≡ div_ceil (length content) piece_length
unfolding piece_roots
length-piece_roots content n =
    length-map-range_with_len (λ i. subtree_root (piece_level n) (run_at (n / 16384) (tree_leaves content) i))
    0 (div_ceil (length content) n)

zero_leaf_is : zero_leaf ≡ zero_subtree 0
unfolding zero_subtree
zero_leaf_is = refl

-- the root is the top node
pub pieces_root-node : (content : List ℕ)
    → pieces_root content ≡ node 0 (leaves content) (height (length (leaves content))) 0
unfolding pieces_root
pieces_root-node content =
    let top = height (length (leaves content)) in
    ap (λ x. subtree_root top (padded top x (leaves content))) zero_leaf_is
    ∙ subtree_root-padded 0 (leaves content) top (height_covers (length (leaves content)))

-- there are as many pieces as nodes of their level
pub count-pieces : (content : List ℕ) (k : ℕ)
    → div_ceil (length content) (16384 * 2 ^ k) ≡ div_ceil (length (leaves content)) (2 ^ k)
count-pieces content k =
    ap (div_ceil (length content)) (mul_comm 16384 (2 ^ k))
    ∙ sym (ceil_ceil (length content) 16384 (2 ^ k) (omega arith) (pow_pos k))
    ∙ ap (λ n. div_ceil n (2 ^ k)) (sym (length-leaves content))

-- a content longer than a piece has more leaves than a piece
pub longer_than_piece : (content : List ℕ) (k : ℕ) → 16384 * 2 ^ k < length content → 2 ^ k < length (leaves content)
longer_than_piece content k lt =
    rw length-leaves (ceil_from_below (length content) 16384 (2 ^ k) (omega arith) (omega arith))

-- and one of at most a piece no more
pub within_piece : (content : List ℕ) (k : ℕ) → length content ≤ 16384 * 2 ^ k → length (leaves content) ≤ 2 ^ k
within_piece content k short =
    rw length-leaves (ceil_at_most (length content) 16384 (2 ^ k) (omega arith) (omega arith))

-- where there is room for the pieces of bytes, there is room for those of no more leaves than the bytes have blocks
pub room_of_leaves : (n bytes k capacity : ℕ) → n * 16384 ≤ bytes → div_ceil bytes (16384 * 2 ^ k) ≤ capacity
    → div_ceil n (2 ^ k) ≤ capacity
room_of_leaves n bytes k capacity few le =
    let pieces = div_ceil bytes (16384 * 2 ^ k) in
    let wide : pieces * (16384 * 2 ^ k) ≡ pieces * 2 ^ k * 16384 =
    ap (λ x. pieces * x) (mul_comm 16384 (2 ^ k)) ∙ sym (mul_assoc pieces (2 ^ k) 16384) in
    let all = ceil_covers bytes (16384 * 2 ^ k) (omega (arith, pow_pos k)) in
    le_trans (ceil_at_most n (2 ^ k) pieces (pow_pos k) (omega (arith, few, all, wide))) le

-- the roots of the pieces are the nodes of their level
pub piece_roots-nodes : (content : List ℕ) (k : ℕ)
    → piece_roots content (16384 * 2 ^ k) ≡ nodes 0 (leaves content) k
unfolding piece_roots nodes
piece_roots-nodes content k =
    let top = height (length (leaves content)) in
    let size : 16384 * 2 ^ k / 16384 ≡ 2 ^ k = mul-div_cancel_left (2 ^ k) (omega arith) in
    let level : height (16384 * 2 ^ k / 16384) ≡ k = ap height size ∙ height-pow k in
    let count = div_ceil (length (leaves content)) (2 ^ k) in
    let tree = padded top zero_leaf (leaves content) in
    let root = λ (i : ℕ). subtree_root (height (16384 * 2 ^ k / 16384)) (run_at (16384 * 2 ^ k / 16384) tree i) in
    ap (λ n. map root (range_with_len 0 n)) (count-pieces content k)
    ∙ range_same root (node 0 (leaves content) k) count
    (λ i _.
    ap₂ (λ h n. subtree_root h (run_at n tree i)) level size
    ∙ subtree_root-leaf_run (leaves content) top k i)

-- the only piece of a content, widened by zero leaves
pub only_piece_root : (content : List ℕ) (k : ℕ) → 0 < length content → length content ≤ 16384 * 2 ^ k
    → piece_roots content (16384 * 2 ^ k) ≡ padded_subtree k 0 (leaves content) ∷ []
unfolding nodes
only_piece_root content k some short =
    let n = length (leaves content) in
    let fits : n ≤ 2 ^ k = within_piece content k short in
    let leaf : 0 < n = rw length-leaves (ceil_from_below (length content) 16384 0 (omega arith) (omega arith)) in
    let one : div_ceil n (2 ^ k) ≡ 1 = le_antisymm
    (ceil_at_most n (2 ^ k) 1 (pow_pos k) (omega arith)) (ceil_from_below n (2 ^ k) 0 (pow_pos k) (omega arith)) in
    piece_roots-nodes content k
    ∙ ap (λ c. map (node 0 (leaves content) k) (range_with_len 0 c)) one
    ∙ ap (λ x. x ∷ []) (sym (subtree_root-padded 0 (leaves content) k fits))

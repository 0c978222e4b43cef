-- Climbing the tree over the leaves of a content, level by level, until one hash is left.
use Rattle.tor_merkle.proofs.Names.{◌≡◌, ℕ, ◌+◌, ◌*◌, ◌^◌, ◌<◌, ◌≤◌, List, [], length, get_or, arith, inl, inr, ap, ◌∙◌}
use Rattle.tor_merkle.proofs.Names.{sym, pow_pos, mul-le-mul_right, le_antisymm, cases_lt, cond-true, cond-false}
use Rattle.tor_merkle.proofs.Names.{lt-leb, le-leb, get_or_default, div_ceil, leaves, pieces_root, piece_layer}
use Rattle.tor_merkle.proofs.Names.{zero_subtree, height, node, nodes}
use Rattle.tor_merkle.proofs.Ceil.{below_from_ceil, ceil_from_below, ceil_at_most, ceil_covers}
use Rattle.tor_merkle.proofs.Content.{length-leaves, pieces_root-node, piece_roots-nodes, longer_than_piece}
use Rattle.tor_merkle.proofs.Height.{height_least, height_above}
use Rattle.tor_merkle.proofs.Levels.{length-nodes, get_or-nodes}

-- the height of the tree over a content
abbrev pub tree_height : List ℕ → ℕ
tree_height content = height (length (leaves content))

-- a hash of a level below the top covers less than the content, and the other way round
pub covers_less : (content : List ℕ) (k : ℕ) → k < tree_height content → 16384 * 2 ^ k < length content
covers_less content k lt =
    let few : 2 ^ k < length (leaves content) = elim (cases_lt (2 ^ k) (length (leaves content))) [
      | inl less ↦ less
      | inr more ↦ absurd (omega (arith, height_least (length (leaves content)) k more))
    ] in
    let inside : 2 ^ k < div_ceil (length content) 16384 = omega (arith, length-leaves content) in
    omega (arith, below_from_ceil (length content) 16384 (2 ^ k) (omega arith) inside)

pub below_top : (content : List ℕ) (k : ℕ) → 16384 * 2 ^ k < length content → k < tree_height content
below_top content k lt = height_above (length (leaves content)) k (longer_than_piece content k lt)

-- a level of more than one hash is below the top, and the only other one is the top
pub more_levels : (content : List ℕ) (k : ℕ) (hashes : List (List ℕ)) → hashes ≡ nodes 0 (leaves content) k
    → 1 < length hashes → k < tree_height content
more_levels content k hashes is more =
    let two : 1 < div_ceil (length (leaves content)) (2 ^ k) =
    omega (arith, ap length is, length-nodes 0 (leaves content) k) in
    height_above (length (leaves content)) k
    (omega (arith, below_from_ceil (length (leaves content)) (2 ^ k) 1 (pow_pos k) two))

pub last_level : (content : List ℕ) (k : ℕ) (hashes : List (List ℕ)) → hashes ≡ nodes 0 (leaves content) k
    → k ≤ tree_height content → length hashes ≤ 1
    → k ≡ tree_height content
last_level content k hashes is within one =
    let few = ceil_covers (length (leaves content)) (2 ^ k) (pow_pos k) in
    let narrow = mul-le-mul_right {m = div_ceil (length (leaves content)) (2 ^ k)} {n = 1} (2 ^ k)
    (omega (arith, ap length is, length-nodes 0 (leaves content) k)) in
    le_antisymm within (height_least (length (leaves content)) k (omega arith))

-- a content of at most 2 ^ 50 bytes has at most 37 levels
pub height_small : (content : List ℕ) → length content ≤ 2 ^ 50 → tree_height content ≤ 36
height_small content small =
    height_least (length (leaves content)) 36
    (omega (arith, length-leaves content, ceil_at_most (length content) 16384 (2 ^ 36) (omega arith) (omega arith)))

pub some_node : (content : List ℕ) (k : ℕ) → 0 < length content → 0 < length (nodes 0 (leaves content) k)
some_node content k pos =
    let leaf : 0 < length (leaves content) =
    omega (arith, length-leaves content, ceil_from_below (length content) 16384 0 (omega arith) (omega arith)) in
    let node = ceil_from_below (length (leaves content)) (2 ^ k) 0 (pow_pos k) (omega arith) in
    omega (arith, length-nodes 0 (leaves content) k, node)

-- the only hash of the top is the root
pub top_hash : (content : List ℕ) (k : ℕ) (hashes : List (List ℕ)) (d : List ℕ) → 0 < length content
    → k ≡ tree_height content
    → hashes ≡ nodes 0 (leaves content) k → get_or hashes 0 d ≡ pieces_root content
top_hash content k hashes d pos top is =
    ap (λ xs. get_or xs 0 d) is
    ∙ get_or_default (nodes 0 (leaves content) k) 0 d (zero_subtree (0 + k)) (some_node content k pos)
    ∙ get_or-nodes 0 (leaves content) k 0
    ∙ ap (λ h. node 0 (leaves content) h 0) top
    ∙ sym (pieces_root-node content)

-- the piece layer, by whether there is more than one piece
pub piece_layer-nodes : (content : List ℕ) (k : ℕ) → 16384 * 2 ^ k < length content
    → piece_layer content (16384 * 2 ^ k) ≡ nodes 0 (leaves content) k
unfolding piece_layer
piece_layer-nodes content k lt = cond-false _ [] _ (lt-leb _ _ lt) ∙ piece_roots-nodes content k

pub piece_layer-none : (content : List ℕ) (piece_length : ℕ) → length content ≤ piece_length
    → piece_layer content piece_length ≡ []
unfolding piece_layer
piece_layer-none content piece_length le = cond-true _ [] _ (le-leb _ _ le)

-- what a climb to the top has met is the piece layer
pub layer_met : (content : List ℕ) (k level : ℕ) (layer : List (List ℕ)) → level ≡ tree_height content
    → (k < level → layer ≡ nodes 0 (leaves content) k) → (level ≤ k → layer ≡ [])
    → layer ≡ piece_layer content (16384 * 2 ^ k)
layer_met content k level layer top passed ahead = elim (cases_lt k level) [
  | inl less ↦ passed less ∙ sym (piece_layer-nodes content k (covers_less content k (omega arith)))
  | inr more ↦ ahead more ∙ sym (piece_layer-none content (16384 * 2 ^ k) (short more))
] where
  short : level ≤ k → length content ≤ 16384 * 2 ^ k
  short more = elim (cases_lt (16384 * 2 ^ k) (length content)) [
    | inl less ↦ absurd (omega (arith, below_top content k less))
    | inr le ↦ le
  ]

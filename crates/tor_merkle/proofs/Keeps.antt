-- What the tree of pieces keeps, through one leaf more and to its end.
use Rattle.tor_merkle.proofs.Names.{◌≡◌, ℕ, ◌+◌, ◌-◌, ◌*◌, ◌/◌, ◌^◌, ◌<◌, ◌≤◌, List, [], ◌∷◌, ◌++◌, length, drop, map}
use Rattle.tor_merkle.proofs.Names.{arith, ap, ap₂, ◌∙◌, sym, pow_pos, pow-add, lt_of_mul-lt-mul_right, inl, inr}
use Rattle.tor_merkle.proofs.Names.{zero-mul, cases_lt, length_push, drop-append-le, drop_at, drop_all, nil_from_length}
use Rattle.tor_merkle.proofs.Names.{zero-div, range_with_len, div_ceil, node, nodes, first_nodes, KeepsPieces}
use Rattle.tor_merkle.proofs.Names.{EndsPiece, filled, Subtrees, padded_subtree}
use Rattle.tor_merkle.proofs.Ceil.{ceil_at_most}
use Rattle.tor_merkle.proofs.Levels.{length-nodes}
use Rattle.tor_merkle.proofs.Filled.{filled_below, filled_covers, filled_within, length-last_piece, first_nodes_closed}
use Rattle.tor_merkle.proofs.Filled.{first_nodes-push, filled_full, filled_open, all_filled, first_nodes_all}
use Rattle.tor_merkle.proofs.Filled.{length-first_nodes, one_piece, more_pieces}

module _ (k : ℕ) (leaves : List (List ℕ)) (blocks pieces : Subtrees) (layer : List (List ℕ))
    (keeps : KeepsPieces k leaves blocks pieces layer) where
  length-stacked : length blocks.hashes ≡ length leaves - filled k leaves * 2 ^ k
  length-stacked = ap length keeps.stacked ∙ length-last_piece k leaves

  length-closed : length pieces.hashes ≡ filled k leaves
  length-closed = ap length keeps.closed ∙ length-first_nodes k leaves (filled k leaves)

  blocks_fit : length blocks.hashes ≤ 2 ^ k
  blocks_fit = omega (arith, length-stacked, filled_covers k leaves)

  blocks_some : 0 < length leaves → 0 < length blocks.hashes
  blocks_some some = omega (arith, length-stacked, filled_below k leaves some)

  pub leaves_some : 0 < length blocks.hashes → 0 < length leaves
  leaves_some some = omega (arith, length-stacked)

  pieces_fit : 0 < length leaves → length pieces.hashes < 2 ^ (36 - k)
  pieces_fit some =
      let all : 2 ^ 36 ≡ 2 ^ (36 - k) * 2 ^ k =
      ap (λ n. 2 ^ n) (let whole : 36 ≡ 36 - k + k = omega (arith, keeps.low) in whole) ∙ pow-add 2 (36 - k) k in
      let less : filled k leaves < 2 ^ (36 - k) =
      lt_of_mul-lt-mul_right (2 ^ k) (omega (arith, filled_below k leaves some, keeps.small, all)) in
      omega (arith, length-closed)

  layer_fits : (capacity : ℕ) → 0 < length leaves → div_ceil (length leaves) (2 ^ k) ≤ capacity
      → length layer < capacity
  layer_fits capacity some le = omega (arith, ap length keeps.listed, length-closed, all_filled k leaves some)

  -- the last piece may end
  pub ends_piece : (hashes capacity : ℕ) → hashes ≡ length layer → 0 < length leaves
      → div_ceil (length leaves) (2 ^ k) ≤ capacity
      → EndsPiece k blocks pieces hashes capacity
  ends_piece hashes capacity is some le = record {
    low = keeps.low;
    block_level = keeps.block_level;
    some = blocks_some some;
    within = blocks_fit;
    piece_level = keeps.piece_level;
    stack = pieces_fit some;
    fits = omega (arith, layer_fits capacity some le);
  }

  -- a leaf that the last piece has room for
  pub keeps_open : (leaf : List ℕ) (blocks' : Subtrees) → (length blocks.hashes ≡ 2 ^ k → ⊥) → length leaves < 2 ^ 36
      → blocks'.level ≡ blocks.level → blocks'.hashes ≡ blocks.hashes ++ leaf ∷ []
      → KeepsPieces k (leaves ++ leaf ∷ []) blocks' pieces layer
  keeps_open leaf blocks' open_still room level added =
      let short =
      λ (e : length (drop (filled k leaves * 2 ^ k) leaves) ≡ 2 ^ k). open_still (ap length keeps.stacked ∙ e) in
      let same = filled_open k leaves leaf short in
      let below = filled_within k leaves in
      record {
        low = keeps.low;
        small = omega (arith, length_push leaves leaf);
        block_level = level ∙ keeps.block_level;
        stacked =
            added ∙ ap (λ xs. xs ++ leaf ∷ []) keeps.stacked
            ∙ sym (drop-append-le (filled k leaves * 2 ^ k) leaves (leaf ∷ []) below)
            ∙ ap (λ q. drop (q * 2 ^ k) (leaves ++ leaf ∷ [])) (sym same);
        piece_level = keeps.piece_level;
        closed =
            keeps.closed ∙ first_nodes-push k leaves leaf (filled k leaves) below
            ∙ ap (first_nodes 0 (leaves ++ leaf ∷ []) k) (sym same);
        listed = keeps.listed;
      }

  -- a leaf after a full piece
  pub keeps_closed : (leaf : List ℕ) (blocks' pieces' : Subtrees) (layer' : List (List ℕ))
      → length blocks.hashes ≡ 2 ^ k → length leaves < 2 ^ 36
      → blocks'.level ≡ 0 → blocks'.hashes ≡ leaf ∷ []
      → pieces'.level ≡ k → pieces'.hashes ≡ pieces.hashes ++ padded_subtree k 0 blocks.hashes ∷ []
      → layer' ≡ layer ++ padded_subtree k 0 blocks.hashes ∷ []
      → KeepsPieces k (leaves ++ leaf ∷ []) blocks' pieces' layer'
  keeps_closed leaf blocks' pieces' layer' full room block_level added piece_level stacked listed =
      let some : 0 < length leaves = leaves_some (omega (arith, full, pow_pos k)) in
      let more = filled_full k leaves leaf (sym (ap length keeps.stacked) ∙ full) in
      let end : length leaves ≡ (filled k leaves + 1) * 2 ^ k = omega (arith, length-stacked, full, pow_pos k) in
      let joined =
      ap₂ (λ xs ys. xs ++ padded_subtree k 0 ys ∷ []) keeps.closed keeps.stacked ∙ first_nodes_closed k leaves some in
      record {
        low = keeps.low;
        small = omega (arith, length_push leaves leaf);
        block_level = block_level;
        stacked =
            added ∙ sym (drop_at leaves (leaf ∷ []) ((filled k leaves + 1) * 2 ^ k) end)
            ∙ ap (λ q. drop (q * 2 ^ k) (leaves ++ leaf ∷ [])) (sym more);
        piece_level = piece_level;
        closed =
            stacked ∙ joined ∙ first_nodes-push k leaves leaf (filled k leaves + 1) (omega (arith, end))
            ∙ ap (first_nodes 0 (leaves ++ leaf ∷ []) k) (sym more);
        listed = listed ∙ ap (λ xs. xs ++ padded_subtree k 0 blocks.hashes ∷ []) keeps.listed ∙ sym stacked;
      }

  -- at the end: one piece
  pub only_piece : pieces.hashes ≡ [] → (blocks.hashes ≡ leaves) × (length leaves ≤ 2 ^ k)
  only_piece none =
      let first : filled k leaves ≡ 0 = sym length-closed ∙ ap length none in
      let all : blocks.hashes ≡ leaves =
      keeps.stacked ∙ ap (λ q. drop (q * 2 ^ k) leaves) first ∙ ap (λ n. drop n leaves) (zero-mul (2 ^ k)) in
      (all, one_piece k leaves first)

  -- at the end: more pieces
  pub pieces_more : (pieces.hashes ≡ [] → ⊥) → 2 ^ k < length leaves
  pieces_more some = more_pieces k leaves (elim (cases_lt 0 (filled k leaves)) [
    | inl more ↦ more
    | inr none ↦ absurd (some (nil_from_length pieces.hashes (omega (arith, length-closed))))
  ])

  pub some_leaf : (blocks.hashes ≡ [] → ⊥) → 0 < length leaves
  some_leaf some = elim (cases_lt 0 (length leaves)) [
    | inl more ↦ more
    | inr none ↦ absurd (some (nil_from_length blocks.hashes (omega (arith, length-stacked))))
  ]

  -- at the end: no leaf
  pub no_piece : blocks.hashes ≡ [] → layer ≡ nodes 0 leaves k
  no_piece none =
      let no_leaf : length leaves ≡ 0 = elim (cases_lt 0 (length leaves)) [
        | inl some ↦ absurd (omega (arith, blocks_some some, ap length none))
        | inr all ↦ omega arith
      ] in
      let first : filled k leaves ≡ 0 = ap (λ n. (n - 1) / 2 ^ k) no_leaf ∙ zero-div (2 ^ k) in
      let no_node = ceil_at_most (length leaves) (2 ^ k) 0 (pow_pos k) (omega (arith, no_leaf)) in
      keeps.listed ∙ nil_from_length pieces.hashes (length-closed ∙ first)
      ∙ sym (nil_from_length (nodes 0 leaves k) (omega (arith, length-nodes 0 leaves k, no_node)))

  -- at the end: all pieces
  pub pieces_all : 0 < length leaves → pieces.hashes ++ padded_subtree k 0 blocks.hashes ∷ [] ≡ nodes 0 leaves k
  pieces_all some =
      ap₂ (λ xs ys. xs ++ padded_subtree k 0 ys ∷ []) keeps.closed keeps.stacked ∙ first_nodes_closed k leaves some
      ∙ first_nodes_all k leaves some

-- before the first leaf
pub keeps_none : (k : ℕ) (blocks pieces : Subtrees) (layer : List (List ℕ)) → k ≤ 16 → blocks.level ≡ 0
    → blocks.hashes ≡ [] → pieces.level ≡ k → pieces.hashes ≡ []
    → layer ≡ [] → KeepsPieces k [] blocks pieces layer
unfolding first_nodes
keeps_none k blocks pieces layer low block_level no_blocks piece_level no_pieces no_layer = record {
  low = low;
  small = omega arith;
  block_level = block_level;
  stacked = no_blocks ∙ sym (drop_all (0 / 2 ^ k * 2 ^ k) [] (omega arith));
  piece_level = piece_level;
  closed = no_pieces ∙ ap (λ n. map (node 0 [] k) (range_with_len 0 n)) (sym (zero-div (2 ^ k)));
  listed = no_layer ∙ sym no_pieces;
}

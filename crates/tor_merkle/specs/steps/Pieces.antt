-- For the clauses of private functions alone: the leaves of a content as they come, and the hashes of the pieces that
-- they fill.
use Rattle.std.specs.Prelude.{◌≡◌, ℕ, ◌-◌, ◌*◌, ◌/◌, ◌^◌, ◌<◌, ◌≤◌, List, [], ◌∷◌, ◌++◌, length, drop}
use Rattle.tor_merkle.specs.steps.Node.{first_nodes}
use Rattle.tor_merkle.specs.Stack.{Subtrees, padded_subtree}

-- the leaves so far, in pieces of 2 ^ height, and how many hashes of pieces their vector can have
pub record Growing : Type 0 where
  pub height : ℕ
  pub leaves : List (List ℕ)
  pub capacity : ℕ

-- the pieces before that of the last leaf are filled
abbrev pub filled : ℕ → List (List ℕ) → ℕ
filled height leaves = (length leaves - 1) / 2 ^ height

-- the leaves of the last piece are stacked, and so are the hashes of the pieces before it
pub record KeepsPieces (height : ℕ) (leaves : List (List ℕ)) (blocks pieces : Subtrees) (layer : List (List ℕ))
    : Type 0 where
  pub low : height ≤ 16
  pub small : length leaves ≤ 2 ^ 36
  pub block_level : blocks.level ≡ 0
  pub stacked : blocks.hashes ≡ drop (filled height leaves * 2 ^ height) leaves
  pub piece_level : pieces.level ≡ height
  pub closed : pieces.hashes ≡ first_nodes 0 leaves height (filled height leaves)
  pub listed : layer ≡ pieces.hashes

-- a piece may end: it has leaves, and no more than its length has, and there is room for its hash
pub record EndsPiece (height : ℕ) (blocks pieces : Subtrees) (hashes capacity : ℕ) : Type 0 where
  pub low : height ≤ 16
  pub block_level : blocks.level ≡ 0
  pub some : 0 < length blocks.hashes
  pub within : length blocks.hashes ≤ 2 ^ height
  pub piece_level : pieces.level ≡ height
  pub stack : length pieces.hashes < 2 ^ (36 - height)
  pub fits : hashes < capacity

-- its hash follows those of the pieces before it, and no leaf is stacked any more
pub record ClosesPiece (height : ℕ) (blocks blocks' pieces pieces' : Subtrees) (layer layer' : List (List ℕ))
    : Type 0 where
  pub emptied : blocks'.hashes ≡ []
  pub block_level : blocks'.level ≡ 0
  pub stacked : pieces'.hashes ≡ pieces.hashes ++ padded_subtree height 0 blocks.hashes ∷ []
  pub piece_level : pieces'.level ≡ height
  pub listed : layer' ≡ layer ++ padded_subtree height 0 blocks.hashes ∷ []

-- The trees of a board, side by side in one row: their words and slots, and the roots of their sides.
use Rattle.std.specs.Prelude.{◌≡◌, ℕ, zero, suc, ◌+◌, ◌-◌, ◌*◌, ◌/◌, ◌%◌, ◌<◌, ◌≤◌, ◌⊎◌, List, Bool, cond, nat_lt}
use Rattle.std.specs.Prelude.{nat_le, ◌&&◌, ◌==◌, slice_index}
use Rattle.tor_merkle.specs.Subtree.{node_of, zero_subtree}
use Rattle.tor_board.specs.Weights.{total, only, below}
use Rattle.tor_board.specs.Desks.{GivenUnit}
pub use Rattle.tor_board.specs.Spots.{middle}
use Rattle.tor_board.specs.declared.tree.Tree.{Tree}
use Rattle.tor_board.specs.declared.view.View.{View}

-- the word of a node, and the slot of its left (0) or right (1) side
abbrev pub word_of : Tree → ℕ → ℕ
word_of t m = 2 + t.offset + m

abbrev pub slot_of : Tree → ℕ → ℕ → ℕ
slot_of t m side = 2 * (t.offset + m) + side

-- the slot of index j of level k: that of its side of the node above, or that of the whole tree
abbrev pub slot_at : Tree → ℕ → ℕ → ℕ
slot_at t k j = cond (k == t.height) (slot_of t 0 0) (slot_of t (middle k (j / 2)) (j % 2))

-- the unit is one of the tree's
abbrev pub has_unit : Tree → ℕ → Bool
has_unit t u = nat_le t.first u && nat_lt u (t.first + t.count)

-- at how many nodes of the tree the seat's gives came second
abbrev pub joined_in : Tree → List GivenUnit → ℕ
joined_in t given = total (λ (g : GivenUnit). cond (has_unit t g.unit) g.joined 0) given

-- at how many nodes of the tree two came
abbrev pub pairs : Tree → List ℕ → ℕ
pairs t words = below (λ m. slice_index words (word_of t (m + 1)) / 2) (t.count - 1)

-- how often the unit was given
abbrev pub times_given : ℕ → List View → ℕ
times_given u views = total (λ (v : View). total (λ (g : GivenUnit). only u g.unit) v.given) views

-- the unit was given with that hash
abbrev pub WasGiven : List View → ℕ → List ℕ → Type 0
WasGiven views u hash = (f : ℕ → List ℕ → ℕ)
    → f u hash ≤ total (λ (v : View). total (λ (g : GivenUnit). f g.unit g.hash) v.given) views

-- all units below index i of level k were given, and that is the root over their hashes
abbrev pub IsRoot : (ℕ → List ℕ → Type 0) → Tree → ℕ → ℕ → List ℕ → Type 0
IsRoot given t zero i hash = ((i < t.count) × given (t.first + i) hash)
    ⊎ ((t.count ≤ i) × (hash ≡ zero_subtree t.level))
IsRoot given t (suc k) i hash = (left : List ℕ) × (right : List ℕ) × IsRoot given t k (2 * i) left
    × IsRoot given t k (2 * i + 1) right × (hash ≡ node_of left right)

-- 1 where all that climbs to index i of level k has come to its node, or its unit is given
abbrev pub ready : Tree → List ℕ → List View → ℕ → ℕ → ℕ
ready t words views zero i = times_given (t.first + i) views
ready t words views (suc k) i
    = cond (nat_lt (middle k i) t.count) (slice_index words (word_of t (middle k i)) / 2)
    (ready t words views k (2 * i))

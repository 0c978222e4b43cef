-- How a hash rises where it has no neighbour: paired with the zero subtree, level by level, until it is a side of a
-- node or the whole tree.
use Rattle.std.specs.Prelude.{ℕ, zero, suc, ◌+◌, ◌-◌, ◌/◌, ◌%◌, List, [], ◌∷◌, cond, nat_lt, ◌==◌}
use Rattle.tor_merkle.specs.Subtree.{node_of, zero_subtree}
use Rattle.tor_board.specs.Climb.{Climb}
pub use Rattle.tor_board.specs.Spots.{Rises}
use Rattle.tor_board.specs.Trees.{middle, slot_of, slot_at}
use Rattle.tor_board.specs.declared.tree.Tree.{Tree}

-- where index i of level l rises to in at most d levels
abbrev pub risen : Tree → ℕ → ℕ → ℕ → ℕ × ℕ
risen t zero l i = (l, i)
risen t (suc d) l i = cond (nat_lt (middle l (i / 2)) t.count) (l, i) (risen t d (suc l) (i / 2))

-- its hash there
abbrev pub raised : Tree → ℕ → ℕ → ℕ → List ℕ → List ℕ
raised t zero l i hash = hash
raised t (suc d) l i hash
    = cond (nat_lt (middle l (i / 2)) t.count) hash
    (raised t d (suc l) (i / 2) (node_of hash (zero_subtree (t.level + l))))

-- the hash of a node, where a comes from that side and b from the other
abbrev pub met : ℕ → List ℕ → List ℕ → List ℕ
met side a b = cond (side == 0) (node_of a b) (node_of b a)

-- the climb from index i of level l of a tree with that hash
abbrev pub climb_from : Tree → ℕ → ℕ → List ℕ → List (ℕ × List ℕ) → Climb
climb_from t l i hash spare =
    let p = risen t (t.height - l) l i in
    record {
      tree = t;
      level = p.0;
      index = p.1;
      slot = slot_at t p.0 p.1;
      hash = raised t (t.height - l) l i hash;
      spare = spare;
    }

-- the slot of the other side of the node above
abbrev pub other_slot : Climb → ℕ
other_slot c = slot_of c.tree (middle c.level (c.index / 2)) (1 - c.index % 2)

-- the climb, once the other side's hash x was met at that node
abbrev pub climbed : Climb → List ℕ → Climb
climbed c x = climb_from c.tree (suc c.level) (c.index / 2) (met (c.index % 2) c.hash x) ((other_slot c, x) ∷ [])

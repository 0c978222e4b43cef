-- The roots over runs of hashes are nodes of one tree.
use Rattle.tor_merkle.proofs.Names.{◌≡◌, ℕ, zero, suc, ◌+◌, ◌*◌, ◌^◌, ◌≤◌, List, length, get_or, take, drop, arith, sym}
use Rattle.tor_merkle.proofs.Names.{ap, ap₂, ◌∙◌, add-zero, length-take, two-pow-succ, get_or-take, run_at, padded_root}
use Rattle.tor_merkle.proofs.Names.{padded_subtree, height, node_of, zero_subtree, node}
use Rattle.tor_merkle.proofs.Filled.{node-drop}
use Rattle.tor_merkle.proofs.Height.{height_covers}
use Rattle.tor_merkle.proofs.Node.{subtree_root-padded}

-- a node that lies in the first hashes is one of theirs
pub node-take : (base : ℕ) (hashes : List (List ℕ)) (n k i : ℕ) → (i + 1) * 2 ^ k ≤ n
    → node base (take n hashes) k i ≡ node base hashes k i
unfolding node
node-take base hashes n zero i le = get_or-take n hashes i (zero_subtree base) (omega (arith, le))
node-take base hashes n (suc k) i le =
    let wide : (i + 1) * 2 ^ suc k ≡ (i + 1) * (2 ^ k + 2 ^ k) = ap (λ x. (i + 1) * x) (two-pow-succ k) in
    ap₂ node_of (node-take base hashes n k (2 * i) (omega (arith, wide, le)))
    (node-take base hashes n k (2 * i + 1) (omega (arith, wide, le)))

pub run_is_node : (base : ℕ) (hashes : List (List ℕ)) (k i : ℕ)
    → padded_subtree k base (run_at (2 ^ k) hashes i) ≡ node base hashes k i
run_is_node base hashes k i =
    subtree_root-padded base (run_at (2 ^ k) hashes i) k (omega (arith, length-take (2 ^ k) (drop (i * 2 ^ k) hashes)))
    ∙ node-take base (drop (i * 2 ^ k) hashes) (2 ^ k) k 0 (omega arith)
    ∙ node-drop base hashes i k 0
    ∙ ap (node base hashes k) (add-zero i)

pub root_of_one : (level i : ℕ) (hashes : List (List ℕ))
    → padded_subtree 0 level (run_at 1 hashes i) ≡ get_or hashes i (zero_subtree level)
unfolding node
root_of_one level i hashes = run_is_node level hashes 0 i

pub root_of_halves : (level k i : ℕ) (hashes : List (List ℕ))
    → padded_subtree (suc k) level (run_at (2 ^ suc k) hashes i)
    ≡ node_of (padded_subtree k level (run_at (2 ^ k) hashes (2 * i)))
    (padded_subtree k level (run_at (2 ^ k) hashes (2 * i + 1)))
unfolding node
root_of_halves level k i hashes =
    run_is_node level hashes (suc k) i
    ∙ sym (ap₂ node_of (run_is_node level hashes k (2 * i)) (run_is_node level hashes k (2 * i + 1)))

pub root_of_whole : (level : ℕ) (hashes : List (List ℕ))
    → padded_subtree (height (length hashes)) level (run_at (2 ^ height (length hashes)) hashes 0)
    ≡ padded_root level hashes
unfolding padded_root
root_of_whole level hashes =
    run_is_node level hashes (height (length hashes)) 0
    ∙ sym (subtree_root-padded level hashes (height (length hashes)) (height_covers (length hashes)))

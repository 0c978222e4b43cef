-- The nodes of the tree over a list of hashes: the root of each whole subtree is one of them.
use Rattle.tor_merkle.proofs.Names.{◌≡◌, ℕ, zero, suc, ◌+◌, ◌*◌, ◌^◌, ◌-◌, ◌<◌, ◌≤◌, List, ◌++◌, length, get_or, take}
use Rattle.tor_merkle.proofs.Names.{drop, replicate, arith, refl, sym, ap, ap₂, ◌∙◌, inl, inr, add-suc, add-zero}
use Rattle.tor_merkle.proofs.Names.{zero-mul, two-pow-succ, cases_lt, get_or_past, get_or_default, get_or_append_left}
use Rattle.tor_merkle.proofs.Names.{get_or-append_right, get_or-replicate, get_or-take, get_or-drop, take-take}
use Rattle.tor_merkle.proofs.Names.{drop-take, drop-drop, take_all, length-append, length-replicate, run_at, node}
use Rattle.tor_merkle.proofs.Names.{node_of, zero_leaf, zero_subtree, subtree_root, padded}

-- a node wholly past the end
pub node_past : (base : ℕ) (hashes : List (List ℕ)) (k i : ℕ) → length hashes ≤ i * 2 ^ k
    → node base hashes k i ≡ zero_subtree (base + k)
unfolding node zero_subtree
node_past base hashes zero i past = rw add-zero (get_or_past hashes i _ (omega arith))
node_past base hashes (suc k) i past =
    let wide : i * 2 ^ suc k ≡ i * (2 ^ k + 2 ^ k) = ap (λ x. i * x) (two-pow-succ k) in
    rw (add-suc base k) (ap₂ node_of
    (node_past base hashes k (2 * i) (omega arith))
    (node_past base hashes k (2 * i + 1) (omega arith)))

-- the halves of a run are the runs of half its length
left_half : {X : Type 0} (xs : List X) (k i : ℕ) → take (2 ^ k) (run_at (2 ^ suc k) xs i) ≡ run_at (2 ^ k) xs (2 * i)
left_half xs k i =
    let wide = two-pow-succ k in
    let start : i * 2 ^ suc k ≡ 2 * i * 2 ^ k = rw wide (omega arith) in
    take-take (2 ^ k) (2 ^ suc k) (drop (i * 2 ^ suc k) xs) (omega arith) ∙ ap (λ a. take (2 ^ k) (drop a xs)) start

right_half : {X : Type 0} (xs : List X) (k i : ℕ)
    → drop (2 ^ k) (run_at (2 ^ suc k) xs i) ≡ run_at (2 ^ k) xs (2 * i + 1)
right_half xs k i =
    let wide = two-pow-succ k in
    let start : i * 2 ^ suc k + 2 ^ k ≡ (2 * i + 1) * 2 ^ k = rw wide (omega arith) in
    ap (λ n. drop (2 ^ k) (take n (drop (i * 2 ^ suc k) xs))) wide
    ∙ drop-take (2 ^ k) (2 ^ k) (drop (i * 2 ^ suc k) xs)
    ∙ ap (take (2 ^ k)) (drop-drop (2 ^ k) (i * 2 ^ suc k) xs)
    ∙ ap (λ a. take (2 ^ k) (drop a xs)) start

-- the root of a run of a list that has the hashes, and then padding, up to where the run ends, is a node
module _ (base : ℕ) (hashes all : List (List ℕ)) (end : ℕ)
    (same : (j : ℕ) → j < end → get_or all j zero_leaf ≡ get_or hashes j (zero_subtree base)) where
  pub subtree_root-run : (k i : ℕ) → (i + 1) * 2 ^ k ≤ end
      → subtree_root k (run_at (2 ^ k) all i) ≡ node base hashes k i
  unfolding node subtree_root
  subtree_root-run zero i le =
      get_or-take 1 (drop (i * 1) all) 0 zero_leaf (omega arith)
      ∙ get_or-drop (i * 1) all 0 zero_leaf
      ∙ ap (λ j. get_or all j zero_leaf) (omega arith)
      ∙ same i (omega arith)
  subtree_root-run (suc k) i le =
      let wide : (i + 1) * 2 ^ suc k ≡ (i + 1) * (2 ^ k + 2 ^ k) = ap (λ x. (i + 1) * x) (two-pow-succ k) in
      ap₂ node_of
      (ap (subtree_root k) (left_half all k i) ∙ subtree_root-run k (2 * i) (omega arith))
      (ap (subtree_root k) (right_half all k i) ∙ subtree_root-run k (2 * i + 1) (omega arith))

pub length-padded : (k : ℕ) (padding : List ℕ) (hashes : List (List ℕ)) → length hashes ≤ 2 ^ k
    → length (padded k padding hashes) ≡ 2 ^ k
length-padded k padding hashes le = simp (length-append, length-replicate) (omega arith)

pub get_or-padded : (k base : ℕ) (hashes : List (List ℕ)) (j : ℕ) → length hashes ≤ 2 ^ k → j < 2 ^ k
    → get_or (padded k (zero_subtree base) hashes) j zero_leaf ≡ get_or hashes j (zero_subtree base)
get_or-padded k base hashes j le lt =
    let rest = replicate (2 ^ k - length hashes) (zero_subtree base) in
    elim (cases_lt j (length hashes)) [
      | inl less ↦ get_or_append_left hashes rest zero_leaf j less ∙ get_or_default hashes j _ _ less
      | inr more ↦
          get_or-append_right hashes rest (length hashes) j zero_leaf refl more
          ∙ get_or-replicate (2 ^ k - length hashes) (j - length hashes) (zero_subtree base) zero_leaf (omega arith)
          ∙ sym (get_or_past hashes j (zero_subtree base) more)
    ]

-- the root of a run of the padded hashes, and of all of them
pub subtree_root-padded_run : (base : ℕ) (hashes : List (List ℕ)) (top k i : ℕ) → length hashes ≤ 2 ^ top
    → (i + 1) * 2 ^ k ≤ 2 ^ top
    → subtree_root k (run_at (2 ^ k) (padded top (zero_subtree base) hashes) i) ≡ node base hashes k i
subtree_root-padded_run base hashes top k i fits le =
    subtree_root-run base hashes (padded top (zero_subtree base) hashes) (2 ^ top)
    (λ j lt. get_or-padded top base hashes j fits lt) k i le

pub subtree_root-padded : (base : ℕ) (hashes : List (List ℕ)) (top : ℕ) → length hashes ≤ 2 ^ top
    → subtree_root top (padded top (zero_subtree base) hashes) ≡ node base hashes top 0
subtree_root-padded base hashes top fits =
    let all = padded top (zero_subtree base) hashes in
    let len = length-padded top (zero_subtree base) hashes fits in
    let one_run : run_at (2 ^ top) all 0 ≡ all =
    ap (λ a. take (2 ^ top) (drop a all)) (zero-mul (2 ^ top)) ∙ take_all (2 ^ top) all (omega (arith, len)) in
    ap (subtree_root top) (sym one_run) ∙ subtree_root-padded_run base hashes top top 0 fits (omega arith)

-- zero leaves also stand for what a list lacks, so that a run of padded leaves may reach past the end of all of them
get_or-padded_leaf : (top : ℕ) (hashes : List (List ℕ)) (j : ℕ)
    → get_or (padded top zero_leaf hashes) j zero_leaf ≡ get_or hashes j (zero_subtree 0)
unfolding zero_subtree
get_or-padded_leaf top hashes j =
    let n = 2 ^ top - length hashes in
    elim (cases_lt j (length hashes)) [
      | inl less ↦ get_or_append_left hashes (replicate n zero_leaf) zero_leaf j less
      | inr more ↦
          get_or-append_right hashes (replicate n zero_leaf) (length hashes) j zero_leaf refl more
          ∙ zeros n (j - length hashes)
          ∙ sym (get_or_past hashes j zero_leaf more)
    ] where
      zeros : (n i : ℕ) → get_or (replicate n zero_leaf) i zero_leaf ≡ zero_leaf
      zeros n i = elim (cases_lt i n) [
        | inl less ↦ get_or-replicate n i zero_leaf zero_leaf less
        | inr more ↦ get_or_past (replicate n zero_leaf) i zero_leaf (omega (arith, length-replicate n zero_leaf))
      ]

pub subtree_root-leaf_run : (hashes : List (List ℕ)) (top k i : ℕ)
    → subtree_root k (run_at (2 ^ k) (padded top zero_leaf hashes) i) ≡ node 0 hashes k i
subtree_root-leaf_run hashes top k i =
    subtree_root-run 0 hashes (padded top zero_leaf hashes) ((i + 1) * 2 ^ k)
    (λ j _. get_or-padded_leaf top hashes j) k i (omega arith)

-- whole nodes stay where hashes are added at the end
pub node-append : (base : ℕ) (hashes more : List (List ℕ)) (k i : ℕ) → (i + 1) * 2 ^ k ≤ length hashes
    → node base (hashes ++ more) k i ≡ node base hashes k i
unfolding node
node-append base hashes more zero i le = get_or_append_left hashes more (zero_subtree base) i (omega arith)
node-append base hashes more (suc k) i le =
    let wide : (i + 1) * 2 ^ suc k ≡ (i + 1) * (2 ^ k + 2 ^ k) = ap (λ x. (i + 1) * x) (two-pow-succ k) in
    ap₂ node_of (node-append base hashes more k (2 * i) (omega arith))
    (node-append base hashes more k (2 * i + 1) (omega arith))

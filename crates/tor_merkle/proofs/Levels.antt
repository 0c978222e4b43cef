-- The levels of the tree over a list of hashes, each as the list of its nodes that do not lie past the end.
use Rattle.tor_merkle.proofs.Names.{◌≡◌, ℕ, suc, ◌+◌, ◌*◌, ◌^◌, ◌<◌, ◌≤◌, List, map, length, get_or, arith, refl, sym}
use Rattle.tor_merkle.proofs.Names.{ap, ◌∙◌, inl, inr, pow_pos, zero-add, pow-succ', cases_lt, get_or_past}
use Rattle.tor_merkle.proofs.Names.{length-map-range_with_len, get_or-map-range_with_len, fill_by_all, div_ceil}
use Rattle.tor_merkle.proofs.Names.{range_with_len, node_of, zero_subtree, level_above, node, nodes}
use Rattle.tor_merkle.proofs.Ceil.{ceil_from_below, ceil_ceil, ceil-one}
use Rattle.tor_merkle.proofs.Node.{node_past}

-- lists of the values of two functions are equal where the functions are
pub range_same : {X : Type 0} (f g : ℕ → X) (n : ℕ) → ((i : ℕ) → i < n → f i ≡ g i)
    → map f (range_with_len 0 n) ≡ map g (range_with_len 0 n)
range_same f g n same =
    fill_by_all g (map f (range_with_len 0 n)) n (f 0) (length-map-range_with_len f 0 n)
    (λ i lt. get_or-map-range_with_len f 0 n i i (f 0) lt (zero-add i) ∙ same i lt)

pub length-nodes : (base : ℕ) (hashes : List (List ℕ)) (k : ℕ)
    → length (nodes base hashes k) ≡ div_ceil (length hashes) (2 ^ k)
unfolding nodes
length-nodes base hashes k = length-map-range_with_len (node base hashes k) 0 (div_ceil (length hashes) (2 ^ k))

pub get_or-nodes : (base : ℕ) (hashes : List (List ℕ)) (k i : ℕ)
    → get_or (nodes base hashes k) i (zero_subtree (base + k)) ≡ node base hashes k i
unfolding nodes
get_or-nodes base hashes k i =
    let count = div_ceil (length hashes) (2 ^ k) in
    elim (cases_lt i count) [
      | inl lt ↦ get_or-map-range_with_len (node base hashes k) 0 count i i (zero_subtree (base + k)) lt (zero-add i)
      | inr le ↦
          get_or_past (nodes base hashes k) i _ (omega (arith, length-nodes base hashes k))
          ∙ sym (node_past base hashes k i (past i le))
    ] where
      past : (i : ℕ) → div_ceil (length hashes) (2 ^ k) ≤ i → length hashes ≤ i * 2 ^ k
      past i le = elim (cases_lt (i * 2 ^ k) (length hashes)) [
        | inl lt ↦ absurd (omega (arith, ceil_from_below (length hashes) (2 ^ k) i (pow_pos k) lt))
        | inr ge ↦ ge
      ]

-- at the bottom stand the hashes themselves
pub nodes-zero : (base : ℕ) (hashes : List (List ℕ)) → nodes base hashes 0 ≡ hashes
unfolding nodes node
nodes-zero base hashes =
    sym (fill_by_all (λ i. get_or hashes i (zero_subtree base)) hashes (div_ceil (length hashes) 1) (zero_subtree base)
    (sym (ceil-one (length hashes))) (λ _ _. refl))

-- each level is the level above the one below it
pub level_above-nodes : (base : ℕ) (hashes : List (List ℕ)) (k : ℕ)
    → level_above (zero_subtree (base + k)) (nodes base hashes k) ≡ nodes base hashes (suc k)
unfolding level_above nodes node
level_above-nodes base hashes k =
    let count : div_ceil (length (nodes base hashes k)) 2 ≡ div_ceil (length hashes) (2 ^ suc k) =
    ap (λ n. div_ceil n 2) (length-nodes base hashes k) ∙ ceil_ceil (length hashes) (2 ^ k) 2 (pow_pos k) (omega arith)
    ∙ ap (div_ceil (length hashes)) (sym (pow-succ' 2 k)) in
    let pad = zero_subtree (base + k) in
    let children =
    λ (i : ℕ). node_of (get_or (nodes base hashes k) (2 * i) pad) (get_or (nodes base hashes k) (2 * i + 1) pad) in
    ap (λ n. map children (range_with_len 0 n)) count
    ∙ range_same children (node base hashes (suc k)) (div_ceil (length hashes) (2 ^ suc k))
    (λ i _. simp get_or-nodes)

-- Eight neighbouring nodes of a tree, and the texts that are hashed to them.
use Rattle.tor_merkle.proofs.Names.{◌≡◌, ℕ, zero, suc, ◌+◌, ◌-◌, ◌*◌, ◌^◌, ◌<◌, ◌≤◌, List, [], ◌∷◌, ◌++◌, length}
use Rattle.tor_merkle.proofs.Names.{get_or, take, drop, arith, subst, sym, ap, ap₂, ◌∙◌, inl, inr, mul-le-mul_right}
use Rattle.tor_merkle.proofs.Names.{cases_lt, take_at, drop_at, drop-drop, get_or_default, flat_map, sha256}
use Rattle.tor_merkle.proofs.Names.{padded_subtree, node_of, zero_subtree, node}
use Rattle.tor_merkle.proofs.Filled.{node-drop, node-over}
use Rattle.tor_merkle.proofs.Node.{node_past, subtree_root-padded}
use Rattle.tor_merkle.proofs.RunRoots.{node-take}

-- what holds of each of four numbers, and of each of eight
pub below_four : (P : ℕ → Type 0) → P 0 → P 1 → P 2 → P 3 → (i : ℕ) → i < 4 → P i
below_four P a b c d zero lt = a
below_four P a b c d (suc zero) lt = b
below_four P a b c d (suc (suc zero)) lt = c
below_four P a b c d (suc (suc (suc zero))) lt = d
below_four P a b c d (suc (suc (suc (suc i)))) lt = absurd (omega arith)

pub below_eight : (P : ℕ → Type 0) → P 0 → P 1 → P 2 → P 3 → P 4 → P 5 → P 6 → P 7 → (i : ℕ) → i < 8 → P i
below_eight P a b c d e f g h i lt = elim (cases_lt i 4) [
  | inl less ↦ below_four P a b c d i less
  | inr more ↦
      let up : 4 + (i - 4) ≡ i = omega arith in
      subst P up (below_four (λ j. P (4 + j)) e f g h (i - 4) (omega arith))
]

-- texts of one length that lie one after another
pub text_at : (n : ℕ) (texts : List (List ℕ)) (i : ℕ)
    → ((k : ℕ) → k < length texts → length (get_or texts k []) ≡ n) → i < length texts
    → take n (drop (n * i) (flat_map (λ x. x) texts)) ≡ get_or texts i []
text_at n [] i long lt = absurd (omega arith)
text_at n (text ∷ texts) zero long lt =
    let rest = flat_map (λ x. x) texts in
    ap (λ a. take n (drop a (text ++ rest))) (let none : n * 0 ≡ 0 = omega arith in none)
    ∙ take_at text rest n (long 0 (omega arith))
text_at n (text ∷ texts) (suc i) long lt =
    let rest = flat_map (λ x. x) texts in
    ap (λ a. take n (drop a (text ++ rest))) (let more : n * suc i ≡ n + n * i = omega arith in more)
    ∙ ap (take n) (sym (drop-drop (n * i) n (text ++ rest)))
    ∙ ap (λ xs. take n (drop (n * i) xs)) (drop_at text rest n (long 0 (omega arith)))
    ∙ text_at n texts i (λ k less. long (suc k) (omega arith)) (omega arith)

-- the hashes of eight texts of 64 bytes are those of their bytes, one text after another
pub hashes_of_texts : (texts hashes : List (List ℕ)) (bytes : List ℕ) → length texts ≡ 8
    → ((i : ℕ) → i < 8 → length (get_or texts i []) ≡ 64) → bytes ≡ flat_map (λ x. x) texts
    → ((i : ℕ) → i < 8 → get_or hashes i [] ≡ sha256 (take 64 (drop (64 * i) bytes)))
    → (i : ℕ) → i < 8 → get_or hashes i [] ≡ sha256 (get_or texts i [])
hashes_of_texts texts hashes bytes eight long all each i lt =
    each i lt
    ∙ ap (λ xs. sha256 (take 64 (drop (64 * i) xs))) all
    ∙ ap sha256 (text_at 64 texts i (λ k less. long k (omega arith)) (omega arith))

module _ (base : ℕ) (hashes : List (List ℕ)) (k : ℕ) where
  -- where eight nodes cover all hashes, zero subtrees follow them
  pub next_past : (i : ℕ) → length hashes ≤ 8 * 2 ^ k → zero_subtree (base + k) ≡ node base hashes k (8 + i)
  next_past i covers = sym (node_past base hashes k (8 + i) (omega arith))

  -- the first eight are those over the hashes that they cover, and the next eight those over the rest
  pub first_of_front : (i : ℕ) → i < 8 → node base (take (8 * 2 ^ k) hashes) k i ≡ node base hashes k i
  first_of_front i lt = node-take base hashes (8 * 2 ^ k) k i (mul-le-mul_right {n = 8} (2 ^ k) (omega arith))

  pub next_of_back : (i : ℕ) → node base (drop (8 * 2 ^ k) hashes) k i ≡ node base hashes k (8 + i)
  next_of_back i = node-drop base hashes 8 k i

  -- eight nodes and the next eight, and the nodes over them
  pub eight_above : (left right above : List (List ℕ))
      → ((i : ℕ) → i < 8 → get_or left i [] ≡ node base hashes k i)
      → ((i : ℕ) → i < 8 → get_or right i [] ≡ node base hashes k (8 + i))
      → ((i : ℕ) → i < 4 → get_or above i [] ≡ node_of (get_or left (2 * i) []) (get_or left (2 * i + 1) []))
      → ((i : ℕ) → i < 4
      → get_or above (4 + i) [] ≡ node_of (get_or right (2 * i) []) (get_or right (2 * i + 1) []))
      → (i : ℕ) → i < 8 → get_or above i [] ≡ node base hashes (suc k) i
  unfolding node
  eight_above left right above is_left is_right first last i lt = elim (cases_lt i 4) [
    | inl less ↦ first i less ∙ ap₂ node_of (is_left (2 * i) (omega arith)) (is_left (2 * i + 1) (omega arith))
    | inr more ↦
        let j = i - 4 in
        let up : 4 + j ≡ i = omega arith in
        ap (λ n. get_or above n []) (sym up)
        ∙ last j (omega arith)
        ∙ ap₂ node_of (is_right (2 * j) (omega arith) ∙ ap (node base hashes k) (omega arith))
        (is_right (2 * j + 1) (omega arith) ∙ ap (node base hashes k) (omega arith))
  ]

  -- the root over the first eight nodes is that over the hashes
  pub root_over_eight : (nodes : List (List ℕ)) → length nodes ≡ 8
      → ((i : ℕ) → i < 8 → get_or nodes i [] ≡ node base hashes k i) → length hashes ≤ 2 ^ (3 + k)
      → padded_subtree 3 (base + k) nodes ≡ padded_subtree (3 + k) base hashes
  root_over_eight nodes eight each covers =
      subtree_root-padded (base + k) nodes 3 (omega arith)
      ∙ node-over (base + k) nodes base hashes k 8
      (λ i lt. get_or_default nodes i _ [] (omega arith) ∙ each i lt) 3 0 (omega arith)
      ∙ sym (subtree_root-padded base hashes (3 + k) covers)

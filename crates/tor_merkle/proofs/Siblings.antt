-- The siblings on the way from a hash to the root are nodes, and each two nodes of one parent give it.
use Rattle.tor_merkle.proofs.Names.{◌≡◌, ℕ, zero, suc, ◌+◌, ◌-◌, ◌*◌, ◌/◌, ◌%◌, ◌^◌, ◌<◌, ◌≤◌, List, map, length}
use Rattle.tor_merkle.proofs.Names.{IsTrue, true, get_or, arith, ap, ap₂, ◌∙◌, sym, inl, inr, add-zero, add-one}
use Rattle.tor_merkle.proofs.Names.{zero-add, pow-suc, mul-le-mul_right, div-mul-le_self, eqb, div-div-eq-div-mul}
use Rattle.tor_merkle.proofs.Names.{cases_eq, cases_Bool, cond-true, cond-false, cond_both, eq-eqb, ne_eqb, lt-ltb}
use Rattle.tor_merkle.proofs.Names.{and_from, or_left, or_right, not_from_false, get_or_default}
use Rattle.tor_merkle.proofs.Names.{length-map-range_with_len, get_or-map-range_with_len, bytes_eq-Decides}
use Rattle.tor_merkle.proofs.Names.{range_with_len, run_at, proof_root, sibling_index, is_past_end, is_zero_past_end}
use Rattle.tor_merkle.proofs.Names.{is_proof, siblings_of, padded_subtree, padded_root, node_of, zero_leaf}
use Rattle.tor_merkle.proofs.Names.{zero_subtree, height, node}
use Rattle.std.proofs.lemmas.Bool.{leb-true}
use Rattle.tor_merkle.proofs.Height.{height_covers}
use Rattle.tor_merkle.proofs.Node.{node_past, subtree_root-padded}
use Rattle.tor_merkle.proofs.BinaryDigits.{div_between}
use Rattle.tor_merkle.proofs.ProofRoots.{proof_root-none, proof_root-left, proof_root-right, all_below}
use Rattle.tor_merkle.proofs.RunRoots.{run_is_node}

-- the subtree of a run past the hashes is a zero subtree
pub run-past : (base : ℕ) (hashes : List (List ℕ)) (k i : ℕ) → length hashes ≤ i * 2 ^ k
    → padded_subtree k base (run_at (2 ^ k) hashes i) ≡ zero_subtree (base + k)
run-past base hashes k i past = run_is_node base hashes k i ∙ node_past base hashes k i past

-- the sibling at a level ends no further than one subtree of that level after the index
pub sibling_near : (index level : ℕ) → sibling_index index level * 2 ^ level ≤ index + 2 ^ level
sibling_near index level =
    let node_index = index / 2 ^ level in
    let near : sibling_index index level ≤ node_index + 1 =
    cond_both (eqb (node_index % 2) 0) (node_index + 1) (node_index - 1) (λ x. x ≤ node_index + 1)
    (λ _. omega arith) (λ _. omega arith) in
    let wide : sibling_index index level * 2 ^ level ≤ (node_index + 1) * 2 ^ level =
    mul-le-mul_right {n = node_index + 1} (2 ^ level) near in
    omega (arith, wide, div-mul-le_self index (2 ^ level))

module _ (base : ℕ) (hashes : List (List ℕ)) (index : ℕ) where
  abbrev sibling : ℕ → List ℕ
  sibling level = padded_subtree level base (run_at (2 ^ level) hashes (sibling_index index level))

  -- the siblings of all levels
  pub siblings_all : (n : ℕ) → n ≡ height (length hashes)
      → map sibling (range_with_len 0 n) ≡ siblings_of base hashes index
  unfolding siblings_of
  siblings_all n all = ap (λ m. map sibling (range_with_len 0 m)) all

  half : (k : ℕ) → index / 2 ^ suc k ≡ index / 2 ^ k / 2
  half k = ap (λ x. index / x) (pow-suc 2 k) ∙ sym (div-div-eq-div-mul index (2 ^ k) 2)

  -- a node and its sibling give the node above
  node-left : (k : ℕ) → index / 2 ^ k % 2 ≡ 0
      → node_of (node base hashes k (index / 2 ^ k)) (sibling k) ≡ node base hashes (suc k) (index / 2 ^ suc k)
  unfolding node
  node-left k even =
      let node_index = index / 2 ^ k in
      ap₂ node_of
      (ap (node base hashes k) (let same : node_index ≡ 2 * (index / 2 ^ suc k) = omega (arith, half k) in same))
      (run_is_node base hashes k (sibling_index index k)
      ∙ ap (node base hashes k) (cond-true _ (node_index + 1) (node_index - 1) (eq-eqb (node_index % 2) 0 even)
      ∙ (let same : node_index + 1 ≡ 2 * (index / 2 ^ suc k) + 1 = omega (arith, half k) in same)))

  node-right : (k : ℕ) → (index / 2 ^ k % 2 ≡ 0 → ⊥)
      → node_of (sibling k) (node base hashes k (index / 2 ^ k)) ≡ node base hashes (suc k) (index / 2 ^ suc k)
  unfolding node
  node-right k odd =
      let node_index = index / 2 ^ k in
      ap₂ node_of
      (run_is_node base hashes k (sibling_index index k)
      ∙ ap (node base hashes k) (cond-false _ (node_index + 1) (node_index - 1) (ne_eqb (node_index % 2) 0 odd)
      ∙ (let same : node_index - 1 ≡ 2 * (index / 2 ^ suc k) = omega (arith, half k) in same)))
      (ap (node base hashes k) (let same : node_index ≡ 2 * (index / 2 ^ suc k) + 1 = omega (arith, half k) in same))

  -- the way from level k through n levels
  climb : (n k : ℕ) → proof_root (node base hashes k (index / 2 ^ k)) (index / 2 ^ k) (map sibling (range_with_len k n))
      ≡ node base hashes (k + n) (index / 2 ^ (k + n))
  climb zero k = proof_root-none _ _ ∙ ap (λ h. node base hashes h (index / 2 ^ h)) (sym (add-zero k))
  climb (suc n) k =
      let node_index = index / 2 ^ k in
      let rest = map sibling (range_with_len (k + 1) n) in
      let up : proof_root (node base hashes (suc k) (index / 2 ^ suc k)) (node_index / 2) rest
      ≡ node base hashes (k + suc n) (index / 2 ^ (k + suc n)) =
      ap₂ (λ h p. proof_root (node base hashes h (index / 2 ^ h)) p rest) (sym (add-one k))
      (sym (half k) ∙ ap (λ h. index / 2 ^ h) (sym (add-one k)))
      ∙ climb n (k + 1)
      ∙ ap (λ h. node base hashes h (index / 2 ^ h)) (omega arith) in
      elim (cases_eq (node_index % 2) 0) [
        | inl even ↦
            proof_root-left _ node_index (sibling k) rest even
            ∙ ap (λ x. proof_root x (node_index / 2) rest) (node-left k even) ∙ up
        | inr odd ↦
            proof_root-right _ node_index (sibling k) rest odd
            ∙ ap (λ x. proof_root x (node_index / 2) rest) (node-right k odd) ∙ up
      ]

  -- the proof over all levels, of a hash that is there
  module _ (inside : index < length hashes) where
    leads_to_root : proof_root (get_or hashes index zero_leaf) index (siblings_of base hashes index)
        ≡ padded_root base hashes
    unfolding siblings_of padded_root node
    leads_to_root =
        let top = height (length hashes) in
        let whole : index / 2 ^ 0 ≡ index = omega arith in
        let hash : get_or hashes index zero_leaf ≡ node base hashes 0 (index / 2 ^ 0) =
        get_or_default hashes index zero_leaf (zero_subtree base) inside ∙ ap (node base hashes 0) (sym whole) in
        ap₂ (λ x p. proof_root x p (map sibling (range_with_len 0 top))) hash (sym whole)
        ∙ climb top 0
        ∙ ap (λ h. node base hashes h (index / 2 ^ h)) (zero-add top)
        ∙ ap (node base hashes top)
        (div_between index top 0 (omega arith) (omega (arith, height_covers (length hashes))))
        ∙ sym (subtree_root-padded base hashes top (height_covers (length hashes)))

    zeros_past_end : (level : ℕ) → level < height (length hashes)
        → is_zero_past_end base (length hashes) index (siblings_of base hashes index) level ≡ true
    unfolding siblings_of
    zeros_past_end level lt = elim (cases_Bool (is_past_end (length hashes) index level)) [
      | inl past ↦
          or_right _ _ ((bytes_eq-Decides _ _).1
          (get_or-map-range_with_len sibling 0 (height (length hashes)) level level zero_leaf lt (zero-add level)
          ∙ run-past base hashes level (sibling_index index level) (leb-true _ _ past)))
      | inr before ↦ or_left _ _ (not_from_false _ before)
    ]

    length-siblings : length (siblings_of base hashes index) ≡ height (length hashes)
    unfolding siblings_of
    length-siblings = length-map-range_with_len sibling 0 (height (length hashes))

    pub siblings_accepted : IsTrue (is_proof (padded_root base hashes) (length hashes) base index
        (get_or hashes index zero_leaf) (siblings_of base hashes index))
    siblings_accepted =
        and_from _ _
        (and_from _ _ (and_from _ _ (lt-ltb _ _ inside) (eq-eqb _ _ length-siblings))
        (all_below _ _ (λ level lt. zeros_past_end level (omega (arith, length-siblings)))))
        ((bytes_eq-Decides _ _).1 leads_to_root)

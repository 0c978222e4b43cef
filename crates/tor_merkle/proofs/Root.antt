-- The climb from the last whole subtree that a stack keeps to a root.
use Rattle.tor_merkle.proofs.Names.{◌≡◌, ℕ, suc, ◌+◌, ◌-◌, ◌*◌, ◌/◌, ◌%◌, ◌^◌, ◌<◌, ◌≤◌, List, length, get_or, arith}
use Rattle.tor_merkle.proofs.Names.{ap, ap₂, ◌∙◌, sym, pow_pos, mul-le-mul_right, inl, inr, mul-div_cancel}
use Rattle.tor_merkle.proofs.Names.{two-pow-succ, cases_eq, node, KeepsTops, padded_subtree, node_of, zero_leaf}
use Rattle.tor_merkle.proofs.Names.{zero_subtree}
use Rattle.tor_merkle.proofs.Node.{node_past, subtree_root-padded}
use Rattle.tor_merkle.proofs.Tops.{top_left}

-- top is the last node of level j that is not past the end, at this index; where its index is odd, it is not whole
pub record IsLastNode (level count : ℕ) (hashes : List (List ℕ)) (j index : ℕ) (top : List ℕ) : Type 0 where
  pub low : index * 2 ^ j < count
  pub high : count ≤ (index + 1) * 2 ^ j
  pub strict : index % 2 ≡ 1 → count < (index + 1) * 2 ^ j
  pub is : top ≡ node level hashes j index

module _ (level count : ℕ) (tops hashes : List (List ℕ)) (keeps : KeepsTops level count tops hashes) where
  -- the lowest digit that is 1 gives the last whole node
  pub last_whole : (j odd : ℕ) → count ≡ odd * 2 ^ j → odd % 2 ≡ 1
      → IsLastNode level count hashes j (odd - 1) (get_or tops j zero_leaf)
  last_whole j odd e one =
      let pos = pow_pos j in
      let q : count / 2 ^ j ≡ odd = ap (λ x. x / 2 ^ j) e ∙ mul-div_cancel odd pos in
      let up : (odd - 1 + 1) * 2 ^ j ≡ odd * 2 ^ j =
      ap (λ x. x * 2 ^ j) (let same : odd - 1 + 1 ≡ odd = omega arith in same) in
      record {
        low = omega (arith, e, up);
        high = omega (arith, e, up);
        strict = λ o. absurd (omega (arith, o));
        is = keeps.top j (ap (λ x. x % 2) q ∙ one) ∙ ap (λ x. node level hashes j (x - 1)) q;
      }

  module _ (j index : ℕ) (top : List ℕ) (last : IsLastNode level count hashes j index top) where
    pub above_low : index / 2 * 2 ^ suc j < count
    above_low =
        let down : 2 * (index / 2) * 2 ^ j ≤ index * 2 ^ j = mul-le-mul_right {n = index} (2 ^ j) (omega arith) in
        let wide : index / 2 * 2 ^ suc j ≡ index / 2 * (2 ^ j + 2 ^ j) = ap (λ x. index / 2 * x) (two-pow-succ j) in
        omega (arith, last.low)

    pub above_high : count < (index / 2 + 1) * 2 ^ suc j
    above_high =
        let wide : (index / 2 + 1) * 2 ^ suc j ≡ (index / 2 + 1) * (2 ^ j + 2 ^ j) =
        ap (λ x. (index / 2 + 1) * x) (two-pow-succ j) in
        let pos = pow_pos j in
        elim (cases_eq (index % 2) 1) [
          | inl odd ↦
              let same : index ≡ 2 * (index / 2) + 1 = omega arith in
              omega (arith, last.strict odd, ap (λ x. x * 2 ^ j) same)
          | inr even ↦
              let same : index ≡ 2 * (index / 2) = omega arith in
              omega (arith, last.high, ap (λ x. x * 2 ^ j) same)
        ]

    -- at an odd index, the kept hash stands on its left
    pub last_right : index % 2 ≡ 1
        → IsLastNode level count hashes (suc j) (index / 2) (node_of (get_or tops j zero_leaf) top)
    unfolding node
    last_right odd = record {
      low = above_low;
      high = omega (arith, above_high);
      strict = λ _. above_high;
      is =
          ap₂ node_of (top_left level count tops hashes keeps j index (omega (arith, last.low)) (last.strict odd) odd)
          (last.is ∙ ap (node level hashes j) (omega arith));
    }

    -- at an even index, nothing stands on its right
    pub last_left : index % 2 ≡ 0
        → IsLastNode level count hashes (suc j) (index / 2) (node_of top (zero_subtree (level + j)))
    unfolding node
    last_left even =
        let same : index ≡ 2 * (index / 2) = omega arith in
        let past : length hashes ≤ (2 * (index / 2) + 1) * 2 ^ j =
        omega (arith, last.high, keeps.counted, ap (λ x. x * 2 ^ j) same) in
        record {
          low = above_low;
          high = omega (arith, above_high);
          strict = λ _. above_high;
          is =
              ap₂ node_of (last.is ∙ ap (node level hashes j) same)
              (sym (node_past level hashes j (2 * (index / 2) + 1) past));
        }

    -- where one node covers all, it is the root
    pub last_root : count ≤ 2 ^ j → top ≡ padded_subtree j level hashes
    last_root covers =
        let first : index ≡ 0 = elim (cases_eq index 0) [
          | inl is ↦ is
          | inr more ↦ absurd (omega (arith, last.low, mul-le-mul_right {m = 1} {n = index} (2 ^ j) (omega arith)))
        ] in
        last.is ∙ ap (node level hashes j) first
        ∙ sym (subtree_root-padded level hashes j (omega (arith, keeps.counted)))

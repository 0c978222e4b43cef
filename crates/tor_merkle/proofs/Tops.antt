-- What a stack keeps, through a push and a climb to the root.
use Rattle.tor_merkle.proofs.Names.{◌≡◌, ℕ, suc, ◌+◌, ◌-◌, ◌*◌, ◌/◌, ◌%◌, ◌^◌, ◌<◌, ◌≤◌, List, [], ◌∷◌, ◌++◌, length}
use Rattle.tor_merkle.proofs.Names.{get_or, set, arith, ap, ap₂, ◌∙◌, sym, pow_pos, inl, inr, div-mul-le_self}
use Rattle.tor_merkle.proofs.Names.{get_or-set_same, length-set, get_or-set_other, mul-le-mul_right, le_trans}
use Rattle.tor_merkle.proofs.Names.{cases_order, length_push, node, KeepsTops, node_of, zero_leaf}
use Rattle.tor_merkle.proofs.BinaryDigits.{div_between, same_above, none_below, power_within}
use Rattle.tor_merkle.proofs.Node.{node-append}

module _ (level count : ℕ) (tops hashes : List (List ℕ)) (keeps : KeepsTops level count tops hashes) where
  -- the kept hash of digit j, where `rest` counts the hashes in units of 2 ^ j and is odd
  pub top_left : (j rest : ℕ) → rest * 2 ^ j ≤ count → count < (rest + 1) * 2 ^ j → rest % 2 ≡ 1
      → get_or tops j zero_leaf ≡ node level hashes j (2 * (rest / 2))
  top_left j rest low high odd =
      let q : count / 2 ^ j ≡ rest = div_between count j rest low high in
      keeps.top j (ap (λ x. x % 2) q ∙ odd) ∙ ap (node level hashes j) (omega (arith, q))

  -- a carry: the kept hash and the one that comes are a node's children
  pub carry : (hash : List ℕ) (j rest : ℕ) (top : List ℕ) → count + 1 ≡ (rest + 1) * 2 ^ j → rest % 2 ≡ 1
      → top ≡ node level (hashes ++ hash ∷ []) j rest
      → node_of (get_or tops j zero_leaf) top ≡ node level (hashes ++ hash ∷ []) (suc j) (rest / 2)
  unfolding node
  carry hash j rest top e odd is =
      let pos = pow_pos j in
      let within : (2 * (rest / 2) + 1) * 2 ^ j ≤ length hashes =
      omega (arith, keeps.counted, ap (λ x. x * 2 ^ j) (let same : 2 * (rest / 2) + 1 ≡ rest = omega arith in same)) in
      let left =
      top_left j rest (omega arith) (omega arith) odd
      ∙ sym (node-append level hashes (hash ∷ []) j (2 * (rest / 2)) within) in
      ap₂ node_of left (is ∙ ap (node level (hashes ++ hash ∷ []) j) (omega arith))

  -- what is kept after a push that ends at the digit j, the first that is 0
  kept_after : (hash : List ℕ) (j rest : ℕ) (top : List ℕ) → count + 1 ≡ (rest + 1) * 2 ^ j → rest % 2 ≡ 0
      → j < length tops
      → top ≡ node level (hashes ++ hash ∷ []) j rest
      → (i : ℕ) → (count + 1) / 2 ^ i % 2 ≡ 1
      → get_or (set tops j top) i zero_leaf ≡ node level (hashes ++ hash ∷ []) i ((count + 1) / 2 ^ i - 1)
  kept_after hash j rest top e even within is i one =
      let all = hashes ++ hash ∷ [] in
      elim (cases_order i j) [
        | inl same ↦
            let q : (count + 1) / 2 ^ j ≡ rest + 1 =
            div_between (count + 1) j (rest + 1) (omega (arith, e)) (omega (arith, e, pow_pos j)) in
            let index : rest ≡ (count + 1) / 2 ^ i - 1 = omega (arith, q, ap (λ x. (count + 1) / 2 ^ x) same) in
            ap (λ x. get_or (set tops j top) x zero_leaf) same ∙ get_or-set_same tops j top zero_leaf within ∙ is
            ∙ ap₂ (node level all) (sym same) index
        | inr (inl less) ↦
            let upper : count + 1 ≡ (rest + 1) * 2 ^ (i + suc (j - i - 1)) =
            e ∙ ap (λ x. (rest + 1) * 2 ^ x) (omega arith) in
            absurd (omega (arith, none_below (count + 1) (rest + 1) i (j - i - 1) upper))
        | inr (inr more) ↦
            let up : j + suc (i - j - 1) ≡ i = omega arith in
            let same : (count + 1) / 2 ^ i ≡ count / 2 ^ i =
            ap (λ x. (count + 1) / 2 ^ x) (sym up) ∙ same_above count rest j (i - j - 1) e even
            ∙ ap (λ x. count / 2 ^ x) up in
            let whole : (count / 2 ^ i - 1 + 1) * 2 ^ i ≤ length hashes =
            le_trans (mul-le-mul_right {n = count / 2 ^ i} (2 ^ i) (omega (arith, same)))
            (omega (arith, div-mul-le_self count (2 ^ i), keeps.counted)) in
            get_or-set_other tops j i top zero_leaf (omega arith)
            ∙ keeps.top i (ap (λ x. x % 2) (sym same) ∙ one)
            ∙ sym (node-append level hashes (hash ∷ []) i (count / 2 ^ i - 1) whole)
            ∙ ap (λ x. node level all i (x - 1)) (sym same)
      ]

  -- a push ends at the first digit that is 0
  pub pushed : (hash : List ℕ) (j rest : ℕ) (top : List ℕ) → count + 1 ≡ (rest + 1) * 2 ^ j → rest % 2 ≡ 0
      → j < length tops → count < 2 ^ (36 - level)
      → top ≡ node level (hashes ++ hash ∷ []) j rest
      → KeepsTops level (count + 1) (set tops j top) (hashes ++ hash ∷ [])
  pushed hash j rest top e even within room is = record {
    low = keeps.low;
    levels = length-set tops j top ∙ keeps.levels;
    counted = omega (arith, keeps.counted, length_push hashes hash);
    small = omega arith;
    top = kept_after hash j rest top e even within is;
  }

-- a digit of a number of at most 2 ^ 36 hashes is one of 37
pub digit_below : (level count rest j : ℕ) → count < 2 ^ (36 - level) → count + 1 ≡ (rest + 1) * 2 ^ j → j ≤ 36 - level
digit_below level count rest j room e =
    power_within j (36 - level) (omega (arith, e, mul-le-mul_right {m = 1} {n = rest + 1} (2 ^ j) (omega arith)))

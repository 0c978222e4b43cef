-- The roots of files, from the hashes of their units and the roots of the trees over them.
use Rattle.std.proofs.Common.{◌≡◌, ◌<◌, ◌≤◌, ℕ, ◌+◌, cond, List, [], ◌∷◌, ◌++◌, length, map, take, drop, get_or}
use Rattle.std.proofs.Common.{Bool, Option, None, Some, inl, inr, refl, append-nil, ap, sym, ◌∙◌, arith}
use Rattle.std.proofs.lemmas.Bool.{cases_lt, le-ltb, lt-ltb}
use Rattle.std.proofs.lemmas.List.{drop-map, get_or-map, length-map, take-map}
use Rattle.std.proofs.lemmas.List.Folds.{flat_map-map}
use Rattle.std.proofs.lemmas.Simd.{map-map}
use Rattle.std.specs.Int.{div_ceil}
use Rattle.std.specs.List.{flat_map}
use Rattle.tor_merkle.specs.Layer.{piece_layer, root_of}
use Rattle.tor_merkle.specs.Stack.{padded_root}
use Rattle.tor_plan.specs.Forest.{tree_at, trees_from}
use Rattle.tor_sums.specs.declared.unit_sums.UnitSums.{UnitSums}
use Rattle.tor_sums.specs.steps.Hashes.{IsCut, Node, node_over, nodes_of_file}
use Rattle.tor_sums.specs.steps.Roots.{root_of_run, roots_of_trees}
use Rattle.tor_sums.specs.steps.Run.{node_in}
use Rattle.tor_sums.proofs.FileNodes.{count_of_nodes, empty_tree, layer_of_nodes, one_node, root_of_nodes, sizes}
use Rattle.tor_sums.proofs.FileNodes.{some_root}
use Rattle.tor_sums.proofs.Levels.{level_of_power}

-- the trees of the first file and of the others
trees_of_first : (size first m : ℕ) (lengths : List ℕ) (hashes : List (List ℕ))
    → (1 < div_ceil m size → roots_of_trees hashes (trees_from size first (m ∷ lengths))
    ≡ root_of_run hashes (tree_at size first m)
    ∷ roots_of_trees hashes (trees_from size (first + div_ceil m size) lengths))
    × (div_ceil m size ≤ 1 → roots_of_trees hashes (trees_from size first (m ∷ lengths))
    ≡ roots_of_trees hashes (trees_from size (first + div_ceil m size) lengths))
unfolding trees_from
trees_of_first size first m lengths hashes =
    let runs = λ (b : Bool). roots_of_trees hashes
    (cond b (tree_at size first m ∷ []) [] ++ trees_from size (first + div_ceil m size) lengths) in (
      λ several. ap runs (lt-ltb 1 (div_ceil m size) several),
      λ few. ap runs (le-ltb 1 (div_ceil m size) few),
    )

module _ (p size : ℕ) (level : Option ℕ) (content : List ℕ) (cut : IsCut p size level (length content ∷ []))
    (units own : List UnitSums) (before : ℕ) (is : own ≡ take (div_ceil (length content) size) (drop before units))
    (nodes : map node_in own ≡ nodes_of_file p size level content) where
  abbrev count : ℕ
  count = div_ceil (length content) size

  abbrev hashes : List (List ℕ)
  hashes = map (λ (unit : UnitSums). unit.hash) units

  own_hashes : take count (drop before hashes) ≡ map (λ (n : Node). n.0) (nodes_of_file p size level content)
  own_hashes =
      ap (take count) (drop-map (λ (unit : UnitSums). unit.hash) before units)
      ∙ take-map (λ (unit : UnitSums). unit.hash) count (drop before units)
      ∙ ap (map (λ (unit : UnitSums). unit.hash)) (sym is)
      ∙ sym (map-map (λ (n : Node). n.0) node_in own) ∙ ap (map (λ (n : Node). n.0)) nodes

  pub count_of_own : length own ≡ count
  count_of_own = sym (length-map own node_in) ∙ ap length nodes ∙ count_of_nodes p size level content cut

  -- of a file of several units it is that of its tree
  pub root_of_several : 1 < count → root_of_run hashes (tree_at size before (length content)) ≡ root_of content
  root_of_several several = elim (sizes p size level content cut) [
    | inl long ↦ by_level level refl long.0
    | inr short ↦ absurd (omega (arith, several, short.1, count_of_nodes p size level content cut))
  ]
    where
      by_level : (o : Option ℕ) → level ≡ o → size < length content
          → root_of_run hashes (tree_at size before (length content)) ≡ root_of content
      by_level None at long = absurd (omega (arith, long, (cut.alone at).0))
      by_level (Some k) at long =
          ap Some (ap (λ n. padded_root n (take count (drop before hashes))) (level_of_power size k (cut.stands k at).1)
          ∙ ap (padded_root k) own_hashes ∙ sym (root_of_nodes p size level content cut k at long))
          ∙ some_root content (omega (arith, long))

  -- ---- a file of one unit, or of none

  only : (d : UnitSums) → 0 < length content → length content ≤ size → node_in (get_or own 0 d) ≡ node_over p None
      content
  only d some short =
      sym (get_or-map node_in own 0 d (node_in d) (omega (arith, count_of_own, one_unit)))
      ∙ ap (λ xs. get_or xs 0 (node_in d)) (nodes ∙ one_node p size level content cut some short)
    where
      one_unit : count ≡ 1
      one_unit =
          sym (count_of_nodes p size level content cut) ∙ ap length (one_node p size level content cut some short)

  pub layer_of_own : flat_map (λ (unit : UnitSums). unit.layer.items) own ≡ piece_layer content p
  layer_of_own =
      sym (flat_map-map (λ (n : Node). n.1) node_in own) ∙ ap (flat_map (λ (n : Node). n.1)) nodes
      ∙ elim (sizes p size level content cut) [
        | inl long ↦ by_level level refl long.0
        | inr short ↦ elim (cases_lt 0 (length content)) [
          | inl some ↦
              ap (flat_map (λ (n : Node). n.1)) (one_node p size level content cut some short.0)
              ∙ append-nil (piece_layer content p)
          | inr none ↦
              ap (flat_map (λ (n : Node). n.1)) (no_nodes (nodes_of_file p size level content)
              (omega (arith, short.1, none)))
              ∙ (empty_tree content p (omega (arith, none))).1
        ]
      ]
    where
      no_nodes : (ns : List Node) → length ns ≡ 0 → ns ≡ []
      no_nodes [] none = refl
      no_nodes (n ∷ ns) none = absurd (omega (arith, none))

      by_level : (o : Option ℕ) → level ≡ o → size < length content
          → flat_map (λ (n : Node). n.1) (nodes_of_file p size level content) ≡ piece_layer content p
      by_level None at long = absurd (omega (arith, long, (cut.alone at).0))
      by_level (Some k) at long = layer_of_nodes p size level content cut k at long

  -- ---- the next file takes the next of the trees, where it has one

  module _ (tops more : List (Option (List ℕ))) (lengths : List ℕ) (root : Option (List ℕ))
      (are : tops ≡ roots_of_trees hashes (trees_from size before (length content ∷ lengths)))
      (if_none : length own ≡ 0 → (root ≡ None) × (more ≡ tops))
      (if_one : (d : UnitSums) → length own ≡ 1 → (root ≡ Some (get_or own 0 d).hash) × (more ≡ tops))
      (if_several : (top : Option (List ℕ)) (rest : List (Option (List ℕ))) → 1 < length own → tops ≡ top ∷ rest
      → (root ≡ top) × (more ≡ rest)) where
    abbrev left : List (Option (List ℕ))
    left = roots_of_trees hashes (trees_from size (before + count) lengths)

    few : count ≤ 1 → tops ≡ left
    few le = are ∙ (trees_of_first size before (length content) lengths hashes).1 le

    pub next_root : (root ≡ root_of content) × (more ≡ left)
    next_root = elim (cases_lt 1 count) [
      | inl several ↦
          let taken = if_several (root_of_run hashes (tree_at size before (length content))) left
          (omega (arith, several, count_of_own))
          (are ∙ (trees_of_first size before (length content) lengths hashes).0 several) in
          (taken.0 ∙ root_of_several several, taken.1)
      | inr le ↦ elim (cases_lt 0 (length content)) [
        | inl some ↦
            let short = short_file le in
            let one : length own ≡ 1 = count_of_own ∙ sym (count_of_nodes p size level content cut)
            ∙ ap length (one_node p size level content cut some short) in
            let first = first_of_own (omega (arith, one)) in
            let taken = if_one first one in
            (taken.0 ∙ ap (λ (n : Node). Some n.0) (only first some short) ∙ some_root content some, taken.1 ∙ few le)
        | inr none ↦
            let empty : length own ≡ 0 = omega (arith, count_of_own, no_byte none) in
            let taken = if_none empty in
            (taken.0 ∙ (empty_tree content p (omega (arith, none))).0, taken.1 ∙ few le)
      ]
    ]
      where
        short_file : count ≤ 1 → length content ≤ size
        short_file le = elim (sizes p size level content cut) [
          | inl long ↦ absurd (omega (arith, long.1, le, count_of_nodes p size level content cut))
          | inr short ↦ short.0
        ]

        no_byte : length content ≤ 0 → count ≡ 0
        no_byte none = elim (sizes p size level content cut) [
          | inl long ↦ absurd (omega (arith, long.0, none))
          | inr short ↦ omega (arith, short.1, none, count_of_nodes p size level content cut)
        ]

        first_of_own : 0 < length own → UnitSums
        first_of_own = head own
          where
            head : (xs : List UnitSums) → 0 < length xs → UnitSums
            head [] some = absurd (omega (arith, some))
            head (x ∷ xs) some = x

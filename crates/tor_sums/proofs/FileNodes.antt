-- The tree of one file, from the nodes of its units.
use Rattle.std.proofs.Common.{◌≡◌, ◌⊎◌, ℕ, zero, suc, ◌+◌, ◌*◌, ◌^◌, ◌<◌, ◌≤◌, cond, List, [], ◌∷◌, ◌++◌, length, map}
use Rattle.std.proofs.Common.{take, drop, Option, None, Some, arith, refl, ap, ap₂, ◌∙◌, sym, zero-mul}
use Rattle.std.proofs.Common.{inl, inr, lt_of_mul-lt-mul_right, min, mul-le-mul_right}
use Rattle.std.proofs.lemmas.Bool.{cases_lt, le-leb, le-ltb, lt-ltb}
use Rattle.std.proofs.lemmas.Grind.{div_ceil_times}
use Rattle.std.proofs.lemmas.List.{length-map, length-take, take_all}
use Rattle.std.proofs.lemmas.List.FromFn.{length-range_with_len}
use Rattle.std.specs.Int.{div_ceil}
use Rattle.std.specs.List.{flat_map, range_with_len}
use Rattle.std.specs.Option.{ForSome}
use Rattle.tor_merkle.specs.Block.{leaves, run_at}
use Rattle.tor_merkle.specs.Layer.{piece_layer, piece_roots, pieces_root, root_of}
use Rattle.tor_merkle.specs.Stack.{padded_root, padded_subtree}
use Rattle.tor_merkle.proofs.ProvedLaws.{layer_of_long_content, piece_length_bounds, piece_roots_of_units}
use Rattle.tor_merkle.proofs.ProvedLaws.{root_over_units}
use Rattle.tor_sums.specs.steps.Hashes.{IsCut, Node, level_in, node_over, nodes_of_file}

-- a content of no byte, and one of some
pub empty_tree : (content : List ℕ) (p : ℕ) → length content ≤ 0
    → (None ≡ root_of content) × ([] ≡ piece_layer content p)
unfolding piece_layer
empty_tree [] p none = (refl, rw (le-leb 0 p (omega arith)) refl)
empty_tree (byte ∷ bytes) p none = absurd (omega (arith, none))

pub some_root : (content : List ℕ) → 0 < length content → Some (pieces_root content) ≡ root_of content
some_root [] some = absurd (omega (arith, some))
some_root (byte ∷ bytes) some = refl

-- a file has several units, or one, or none where it has no byte
pub count_cases : (size m : ℕ) → 0 < size
    → ((size < m) × (1 < div_ceil m size)) ⊎ ((m ≤ size) × (div_ceil m size ≡ min 1 m))
count_cases size m some =
    let n = div_ceil m size in
    let bounds = div_ceil_times m size some in
    elim (cases_lt size m) [
      | inl long ↦ inl (long, lt_of_mul-lt-mul_right size (omega (arith, bounds.0, long)))
      | inr short ↦
          let below : n < 2 = lt_of_mul-lt-mul_right size (omega (arith, bounds.1, short)) in
          inr (
            short,
            elim (cases_lt 0 m) [
              | inl more ↦
                  let above : 0 < n = lt_of_mul-lt-mul_right size (omega (arith, bounds.0, more)) in
                  omega (arith, below, above, more)
              | inr none ↦
                  let less : n < 1 = lt_of_mul-lt-mul_right size (omega (arith, bounds.1, none)) in
                  omega (arith, less, none)
            ],
          )
    ]

-- a unit has a piece or more
piece_within : (p size : ℕ) (level : Option ℕ) (lengths : List ℕ) → IsCut p size level lengths → p ≤ size
piece_within p size level lengths cut =
    omega (arith, cut.pieces, mul-le-mul_right {m = 1} {n = cut.span} p cut.some)

some_size : (p size : ℕ) (level : Option ℕ) (lengths : List ℕ) → IsCut p size level lengths → 0 < size
some_size p size level lengths cut =
    omega (arith, ((piece_length_bounds p).0 cut.allowed).1, piece_within p size level lengths cut)

module _ (p size : ℕ) (level : Option ℕ) (content : List ℕ) (cut : IsCut p size level (length content ∷ [])) where
  abbrev own : List Node
  own = nodes_of_file p size level content

  abbrev node : List ℕ → Node
  node run = node_over p (level_in level (length content) (length run)) run

  some : 0 < size
  some = some_size p size level (length content ∷ []) cut

  abbrev count : ℕ
  count = div_ceil (length content) size

  bounds : (length content ≤ count * size) × (count * size < length content + size)
  bounds = div_ceil_times (length content) size some

  -- there are as many as units
  pub count_of_nodes : length own ≡ count
  count_of_nodes =
      length-map (map (run_at size content) (range_with_len 0 count)) node
      ∙ length-map (range_with_len 0 count) (run_at size content) ∙ length-range_with_len 0 count

  -- ---- one unit

  -- several units, or one, or none where there is no byte
  pub sizes : ((size < length content) × (1 < length own))
      ⊎ ((length content ≤ size) × (length own ≡ min 1 (length content)))
  sizes = elim (count_cases size (length content) some) [
    | inl long ↦ inl (long.0, omega (arith, long.1, count_of_nodes))
    | inr short ↦ inr (short.0, count_of_nodes ∙ short.1)
  ]

  alone : node content ≡ node_over p None content
  alone = ap (λ b. node_over p (cond b level None) content) (le-ltb (length content) (length content) (omega arith))

  pub one_node : 0 < length content → length content ≤ size → own ≡ node_over p None content ∷ []
  one_node more short = at_count count bounds
    where
      at_count : (n : ℕ) → (length content ≤ n * size) × (n * size < length content + size)
          → map node (map (run_at size content) (range_with_len 0 n)) ≡ node_over p None content ∷ []
      at_count zero within = absurd (omega (arith, more, within.0))
      at_count (suc zero) within =
          ap (λ run. node run ∷ []) (ap (λ n. take size (drop n content)) (zero-mul size) ∙ take_all size content short)
          ∙ ap (λ n. n ∷ []) alone
      at_count (suc (suc n)) within = absurd (omega (arith, short, within.1))

  -- ---- several units

  module _ (k : ℕ) (at : level ≡ Some k) (long : size < length content) where
    in_file : (i : ℕ) → node (run_at size content i) ≡ node_over p (Some k) (run_at size content i)
    in_file i =
        let run = run_at size content i in
        let less : length run < length content = omega (arith, long, length-take size (drop (i * size) content)) in
        ap (λ b. node_over p (cond b level None) run) (lt-ltb (length run) (length content) less)
        ∙ ap (λ l. node_over p l run) at

    heads : (is : List ℕ) → map (λ n. n.0) (map node (map (run_at size content) is))
        ≡ map (λ unit. padded_subtree k 0 (leaves unit)) (map (run_at size content) is)
    heads [] = refl
    heads (i ∷ is) = ap₂ (λ x xs. x ∷ xs) (ap (λ n. n.0) (in_file i)) (heads is)

    below : (is : List ℕ) → flat_map (λ n. n.1) (map node (map (run_at size content) is))
        ≡ flat_map (λ unit. piece_roots unit p) (map (run_at size content) is)
    below [] = refl
    below (i ∷ is) = ap₂ (λ xs ys. xs ++ ys) (ap (λ n. n.1) (in_file i)) (below is)

    pub root_of_nodes : pieces_root content ≡ padded_root k (map (λ n. n.0) own)
    root_of_nodes =
        let unit = (cut.stands k at).1 in
        root_over_units content k (omega (arith, unit, long))
        ∙ ap (λ n. padded_root k (map (λ unit. padded_subtree k 0 (leaves unit))
        (map (run_at n content) (range_with_len 0 (div_ceil (length content) n))))) (sym unit)
        ∙ ap (padded_root k) (sym (heads (range_with_len 0 count)))

    pub layer_of_nodes : flat_map (λ n. n.1) own ≡ piece_layer content p
    layer_of_nodes =
        below (range_with_len 0 count)
        ∙ ap (λ n. flat_map (λ unit. piece_roots unit p)
        (map (run_at n content) (range_with_len 0 (div_ceil (length content) n)))) cut.pieces
        ∙ piece_roots_of_units content p cut.span cut.allowed cut.some
        ∙ sym (layer_of_long_content content p (omega (
          arith,
          piece_within p size level (length content ∷ []) cut,
          long,
        )))

-- how many units a file has
pub units_counted : (p size m n : ℕ) (level : Option ℕ) → IsCut p size level (m ∷ [])
    → ForSome level (λ k. n ≡ div_ceil m (16384 * 2 ^ k)) → (level ≡ None → n ≡ min 1 m) → n ≡ div_ceil m size
units_counted p size m n level cut several one = by_level level refl
  where
    by_level : (o : Option ℕ) → level ≡ o → n ≡ div_ceil m size
    by_level None at = one at ∙ sym (elim (count_cases size m (some_size p size level (m ∷ []) cut)) [
      | inl long ↦ absurd (omega (arith, long.0, (cut.alone at).0))
      | inr short ↦ short.1
    ])
    by_level (Some k) at = several k at ∙ ap (div_ceil m) (sym (cut.stands k at).1)

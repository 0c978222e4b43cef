-- The hashes of the pieces of the units of a file are those of the pieces of the file.
use Rattle.std.proofs.Common.{◌≡◌, ℕ, zero, suc, ◌+◌, ◌*◌, ◌<◌, ◌≤◌, cond, List, [], ◌∷◌, ◌++◌, append-nil}
use Rattle.std.proofs.Common.{length, map, drop, Option, None, Some, arith, refl, ap, ap₂, ◌∙◌, sym, subst, inl, inr}
use Rattle.std.proofs.Common.{mul-le-mul_right, true}
use Rattle.std.proofs.lemmas.Bool.{cases_lt, le-leb, lt-leb, lt-ltb}
use Rattle.std.proofs.lemmas.Grind.{div_ceil_times, flat_map-append}
use Rattle.std.proofs.lemmas.List.{length-drop, length-take, nil_from_length}
use Rattle.std.specs.Int.{div_ceil}
use Rattle.std.specs.List.{flat_map, range_with_len}
use Rattle.tor_merkle.specs.Block.{run_at}
use Rattle.tor_merkle.specs.Layer.{piece_layer, piece_roots, pieces_root}
use Rattle.tor_merkle.proofs.ProvedLaws.{layer_of_long_content, piece_length_bounds, some_piece_root}
use Rattle.tor_plan.specs.PlanFacts.{IsPlan, PlanFacts}
use Rattle.tor_tree.specs.Kinds.{has_v2}
use Rattle.tor_engine.specs.Rows.{hash_of_short, hashes_of_file, or_alone, row_in, row_of_units}
use Rattle.tor_sums.specs.steps.Hashes.{IsCut, Node, level_in, level_of, node_over, nodes_of_file}
use Rattle.tor_sums.proofs.ByFile.{later_cut, one_cut}
use Rattle.tor_sums.proofs.FileHashes.{unit_nodes_of_files}
use Rattle.tor_sums.proofs.FileNodes.{layer_of_nodes, one_node, sizes}
use Rattle.tor_sums.proofs.PlanLevels.{plan_is_cut}

with_layer : (hash : List ℕ) (layer : List (List ℕ)) → 0 < length layer → or_alone hash layer ≡ layer
with_layer hash [] some = absurd (omega (arith, some))
with_layer hash (first ∷ layer) some = refl

module _ (p size : ℕ) (level : Option ℕ) (content : List ℕ) (cut : IsCut p size level (length content ∷ [])) where
  abbrev own : List Node
  own = nodes_of_file p size level content

  abbrev node : List ℕ → Node
  node run = node_over p (level_in level (length content) (length run)) run

  abbrev count : ℕ
  count = div_ceil (length content) size

  -- ---- several units

  module _ (k : ℕ) (at : level ≡ Some k) (long : size < length content) where
    in_file : (i : ℕ) → node (run_at size content i) ≡ node_over p (Some k) (run_at size content i)
    in_file i =
        let run = run_at size content i in
        let less : length run < length content = omega (arith, long, length-take size (drop (i * size) content)) in
        ap (λ b. node_over p (cond b level None) run) (lt-ltb (length run) (length content) less)
        ∙ ap (λ l. node_over p l run) at

    -- each has bytes
    some_run : (i : ℕ) → 0 < size → i < count → 0 < length (run_at size content i)
    some_run i some below =
        let bounds = div_ceil_times (length content) size some in
        let le : i + 1 ≤ count = omega (arith, below) in
        let scaled : (i + 1) * size ≤ count * size = mul-le-mul_right {m = i + 1} {n = count} size le in
        omega (
          arith,
          bounds.1,
          scaled,
          some,
          length-take size (drop (i * size) content),
          length-drop (i * size) content,
        )

    row_of_run : (i : ℕ) → 0 < size → i < count → row_in (node (run_at size content i))
        ≡ (node (run_at size content i)).1
    row_of_run i some below =
        let run = run_at size content i in
        let there = some_piece_root run p cut.allowed (some_run i some below) in
        ap row_in (in_file i) ∙ with_layer _ (piece_roots run p) there ∙ sym (ap (λ (n : Node). n.1) (in_file i))

    rows : (a n : ℕ) → 0 < size → a + n ≤ count
        → flat_map row_in (map node (map (run_at size content) (range_with_len a n)))
        ≡ flat_map (λ n. n.1) (map node (map (run_at size content) (range_with_len a n)))
    rows a zero some le = refl
    rows a (suc n) some le =
        ap₂ (λ xs ys. xs ++ ys) (row_of_run a some (omega (arith, le))) (rows (a + 1) n some (omega (arith, le)))

    row_of_long : 0 < size → p ≤ size → flat_map row_in own ≡ hashes_of_file p content
    row_of_long some within =
        let more : p < length content = omega (arith, within, long) in
        rows 0 count some (omega arith) ∙ layer_of_nodes p size level content cut k at long
        ∙ layer_of_long_content content p more
        ∙ sym (ap (λ b. cond b (hash_of_short content) (piece_roots content p)) (lt-leb (length content) p more))

-- ---- one unit, or none

row_alone : (p : ℕ) (content : List ℕ) → 0 < length (piece_roots content p) → 0 < length content
    → row_in (node_over p None content) ≡ hashes_of_file p content
unfolding piece_layer
row_alone p [] roots more = absurd (omega (arith, more))
row_alone p (byte ∷ bytes) roots more = elim (cases_lt p (length (byte ∷ bytes))) [
  | inl long ↦
      let e = lt-leb (length (byte ∷ bytes)) p long in
      ap (λ b. or_alone (pieces_root (byte ∷ bytes)) (cond b [] (piece_roots (byte ∷ bytes) p))) e
      ∙ with_layer (pieces_root (byte ∷ bytes)) (piece_roots (byte ∷ bytes) p) roots
      ∙ sym (ap (λ b. cond b (hash_of_short (byte ∷ bytes)) (piece_roots (byte ∷ bytes) p)) e)
  | inr short ↦
      let e = le-leb (length (byte ∷ bytes)) p short in
      ap (λ b. or_alone (pieces_root (byte ∷ bytes)) (cond b [] (piece_roots (byte ∷ bytes) p))) e
      ∙ sym (ap (λ b. cond b (hash_of_short (byte ∷ bytes)) (piece_roots (byte ∷ bytes) p)) e)
]

row_of_none : (p : ℕ) (content : List ℕ) → length content ≡ 0 → [] ≡ hashes_of_file p content
row_of_none p [] none = sym (ap (λ b. cond b (hash_of_short []) (piece_roots [] p)) (le-leb 0 p (omega arith)))
row_of_none p (byte ∷ bytes) none = absurd (omega (arith, none))

module _ (p size : ℕ) (level : Option ℕ) (content : List ℕ) (cut : IsCut p size level (length content ∷ [])) where
  within : p ≤ size
  within = omega (arith, cut.pieces, mul-le-mul_right {m = 1} {n = cut.span} p cut.some)

  some_piece : 0 < p
  some_piece = omega (arith, ((piece_length_bounds p).0 cut.allowed).1)

  -- of a file
  pub row_of_file : flat_map row_in (nodes_of_file p size level content) ≡ hashes_of_file p content
  row_of_file = elim (sizes p size level content cut) [
    | inl long ↦ by_level level refl long.0
    | inr short ↦ elim (cases_lt 0 (length content)) [
      | inl more ↦
          ap (flat_map row_in) (one_node p size level content cut more short.0)
          ∙ append-nil (row_in (node_over p None content))
          ∙ row_alone p content (some_piece_root content p cut.allowed more) more
      | inr none ↦
          let empty : length content ≡ 0 = omega (arith, none) in
          ap (flat_map row_in) (nil_from_length (nodes_of_file p size level content)
          (omega (arith, short.1, empty))) ∙ row_of_none p content empty
    ]
  ]
    where
      by_level : (o : Option ℕ) → level ≡ o → size < length content
          → flat_map row_in (nodes_of_file p size level content) ≡ hashes_of_file p content
      by_level None at long = absurd (omega (arith, long, (cut.alone at).0))
      by_level (Some k) at long =
          row_of_long p size level content cut k at long (omega (arith, some_piece, within)) within

-- of files
rows_of_files : (p size : ℕ) (level : Option ℕ) (contents : List (List ℕ)) → IsCut p size level (map length contents)
    → flat_map row_in (flat_map (nodes_of_file p size level) contents) ≡ flat_map (hashes_of_file p) contents
rows_of_files p size level [] cut = refl
rows_of_files p size level (content ∷ contents) cut =
    flat_map-append row_in (nodes_of_file p size level content) (flat_map (nodes_of_file p size level) contents)
    ∙ ap₂ (λ xs ys. xs ++ ys)
    (row_of_file p size level content (one_cut p size level (length content) (map length contents) cut))
    (rows_of_files p size level contents (later_cut p size level (length content) (map length contents) cut))

-- of a plan
pub rows_of_plan : (plan : PlanFacts) (contents : List (List ℕ)) → IsPlan plan → has_v2 plan.kind ≡ true
    → map length contents ≡ plan.lengths
    → row_of_units plan contents plan.units ≡ flat_map (hashes_of_file plan.piece_length) contents
rows_of_plan plan contents is trees fit =
    let p = plan.piece_length in
    let size = is.span * p in
    ap (flat_map row_in) (unit_nodes_of_files plan contents is trees fit)
    ∙ rows_of_files p size (level_of plan.trees) contents
    (subst (λ (lengths : List ℕ). IsCut p size (level_of plan.trees) lengths) (sym fit) (plan_is_cut plan is trees))

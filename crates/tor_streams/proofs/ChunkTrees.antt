-- The tree of a content, from the nodes that its chunks have each by itself.
use Rattle.std.proofs.Common.{◌≡◌, ℕ, suc, ◌+◌, ◌-◌, ◌*◌, ◌^◌, ◌<◌, ◌≤◌, Bool, true, false, cond, List, [], ◌∷◌, ◌++◌}
use Rattle.std.proofs.Common.{length, map}
use Rattle.std.proofs.Common.{take, drop, get_or, None, Some, arith, refl, ap, ap₂, ◌∙◌, sym, subst, append-nil}
use Rattle.std.proofs.Common.{length-drop, length-take, min, mul-le-mul_right, zero-mul}
use Rattle.std.proofs.lemmas.Grind.{div_ceil_times}
use Rattle.std.proofs.lemmas.List.{get_or-map, length-map, map-append, take_all, take_more}
use Rattle.std.proofs.lemmas.List.FromFn.{get_or-map-range_with_len, length-map-range_with_len}
use Rattle.std.specs.Fork.{slice_chunk}
use Rattle.std.specs.Int.{div_ceil}
use Rattle.std.specs.List.{flat_map, range_with_len}
use Rattle.tor_merkle.specs.Block.{leaves}
use Rattle.tor_merkle.specs.Layer.{IsPieceLength, piece_layer, piece_level, piece_roots, pieces_root, root_of}
use Rattle.tor_merkle.specs.Stack.{padded_root, padded_subtree}
use Rattle.tor_merkle.proofs.ProvedLaws.{layer_of_long_content, piece_length_bounds, piece_roots_of_units}
use Rattle.tor_merkle.proofs.ProvedLaws.{root_over_units, piece_levels_are_low}
use Rattle.tor_plan.specs.Forest.{unit_level}
use Rattle.tor_plan.specs.PlanFacts.{IsSpan}
use Rattle.tor_tree.specs.Kinds.{has_v2}
use Rattle.tor_v1.proofs.ProvedLaws.{pieces_nil}
use Rattle.tor_v1.specs.Piece.{pieces_of}
use Rattle.tor_sums.specs.UnitSums.{bare_node, node_in}
use Rattle.tor_sums.specs.UnitNodes.{node_over}
use Rattle.tor_sums.specs.declared.unit_sums.UnitSums.{UnitSums}
use Rattle.tor_streams.specs.declared.chunking.Chunking.{Chunking}
use Rattle.tor_streams.specs.steps.ChunkNodes.{AreNodesOf, AreNodesOfOne, IsRunNode, IsTreeChunking, nodes_alone}
use Rattle.tor_streams.specs.steps.Cuts.{Cut, IsChunking, bare_cuts, cuts_before_end, cuts_of_content, ending_in}
use Rattle.tor_streams.specs.steps.Cuts.{node_of_bytes, runs_of, stream_cuts, zeros_between}
use Rattle.tor_sums.proofs.FileHashes.{allowed_with_trees}
use Rattle.tor_sums.proofs.Levels.{exponents, few_below, piece_at_level, unit_at_level}
use Rattle.tor_streams.proofs.WidenedRoots.{blocks_allowed}
use Rattle.tor_sums.proofs.ByFile.{enough_nodes, later_nodes, own_nodes}

-- ---- the bytes of all chunks

module _ {X : Type 0} (f : List ℕ → X) where
  -- whatever zeros follow
  same_bytes : (n : ℕ) (cuts : List Cut) → map (λ cut. f cut.0) (ending_in n cuts) ≡ map (λ cut. f cut.0) cuts
  same_bytes n [] = refl
  same_bytes n (cut ∷ []) = refl
  same_bytes n (cut ∷ next ∷ cuts) = ap (λ xs. f cut.0 ∷ xs) (same_bytes n (next ∷ cuts))

  bare_bytes : (runs : List (List ℕ)) → map (λ cut. f cut.0) (bare_cuts runs) ≡ map f runs
  bare_bytes [] = refl
  bare_bytes (run ∷ runs) = ap (λ xs. f run ∷ xs) (bare_bytes runs)

  module _ (chunking : Chunking) (some : 0 < chunking.size) (trees : has_v2 chunking.kind ≡ true) where
    own_bytes : (contents : List (List ℕ))
        → map (λ cut. f cut.0) (flat_map (cuts_of_content chunking) contents)
        ≡ flat_map (λ content. map f (runs_of chunking.size content)) contents
    own_bytes [] = refl
    own_bytes (content ∷ contents) =
        map-append (λ (cut : Cut). f cut.0) (cuts_of_content chunking content)
        (flat_map (cuts_of_content chunking) contents)
        ∙ ap₂ (λ xs ys. xs ++ ys)
        (same_bytes (zeros_between chunking.kind chunking.piece_length (length content))
        (bare_cuts (runs_of chunking.size content))
        ∙ bare_bytes (runs_of chunking.size content))
        (own_bytes contents)

    -- a tail is none of them
    bytes_before_end : (tail : Bool) (cuts : List Cut)
        → map (λ cut. f cut.0) (cond tail cuts (ending_in 0 cuts)) ≡ map (λ cut. f cut.0) cuts
    bytes_before_end true cuts = refl
    bytes_before_end false cuts = same_bytes 0 cuts

    pub bytes_of_stream : (contents : List (List ℕ)) → map (λ cut. f cut.0) (stream_cuts chunking contents)
        ≡ flat_map (λ content. map f (runs_of chunking.size content)) contents
    bytes_of_stream contents =
        bytes_before_end chunking.tail (cuts_before_end chunking contents)
        ∙ ap₂ (λ xs ys. map (λ (cut : Cut). f cut.0) (xs ++ bare_cuts (runs_of chunking.size ys)))
        (ap (λ b. cond b (flat_map (cuts_of_content chunking) contents) []) trees)
        (ap (λ b. cond b [] (flat_map (λ content. content) contents ++ [])) trees)
        ∙ ap (λ runs. map (λ (cut : Cut). f cut.0) (flat_map (cuts_of_content chunking) contents ++ bare_cuts runs))
        (pieces_nil chunking.size some)
        ∙ ap (map (λ (cut : Cut). f cut.0)) (append-nil _) ∙ own_bytes contents

-- the nodes of all chunks, where the kind has trees
pub nodes_of_stream : (chunking : Chunking) (some : 0 < chunking.size) (trees : has_v2 chunking.kind ≡ true)
    (contents : List (List ℕ)) → map (λ cut. node_of_bytes chunking cut.0) (stream_cuts chunking contents)
    ≡ flat_map (nodes_alone chunking) contents
nodes_of_stream chunking some trees contents =
    bytes_of_stream (node_of_bytes chunking) chunking some trees contents
    ∙ ap (λ b. flat_map (λ content. map (λ bytes. cond b (node_over chunking.piece_length None bytes) bare_node)
    (runs_of chunking.size content)) contents) trees

-- ---- the chunks of one content

pub count_of_runs : (size : ℕ) (content : List ℕ) → length (runs_of size content) ≡ div_ceil (length content) size
unfolding pieces_of
count_of_runs size content = length-map-range_with_len (slice_chunk content size) 0 (div_ceil (length content) size)

-- the i-th run
pub run_is : (size : ℕ) (content : List ℕ) (i : ℕ) (d : List ℕ) → i < length (runs_of size content)
    → get_or (runs_of size content) i d ≡ slice_chunk content size i
unfolding pieces_of
run_is size content i d lt =
    get_or-map-range_with_len (slice_chunk content size) 0 (div_ceil (length content) size) i i d
    (omega (arith, lt, count_of_runs size content)) (omega arith)

pub run_long : (size : ℕ) (content : List ℕ) (i : ℕ)
    → length (slice_chunk content size i) ≡ min (length content - i * size) size
run_long size content i =
    length-take size (drop (i * size) content) ∙ omega (arith, length-drop (i * size) content)

module _ (chunking : Chunking) (is : IsTreeChunking chunking) (k : ℕ) (content : List ℕ)
    (level : chunking.size ≡ 16384 * 2 ^ k) (long : chunking.size < length content) where
  -- the root of several
  pub root_of_runs : pieces_root content
      ≡ padded_root k (map (λ run. padded_subtree k 0 (leaves run)) (runs_of chunking.size content))
  unfolding pieces_of
  root_of_runs =
      root_over_units content k (omega (arith, level, long))
      ∙ ap (λ n. padded_root k (map (λ unit. padded_subtree k 0 (leaves unit))
      (map (slice_chunk content n) (range_with_len 0 (div_ceil (length content) n))))) (sym level)

  pub layer_of_runs : flat_map (λ run. piece_roots run chunking.piece_length) (runs_of chunking.size content)
      ≡ piece_layer content chunking.piece_length
  unfolding pieces_of
  layer_of_runs =
      let p = chunking.piece_length in
      ap (λ n. flat_map (λ unit. piece_roots unit p)
      (map (slice_chunk content n) (range_with_len 0 (div_ceil (length content) n)))) is.size
      ∙ piece_roots_of_units content p is.span is.piece is.some
      ∙ sym (layer_of_long_content content p
      (omega (arith, is.size, long, mul-le-mul_right {m = 1} {n = is.span} p is.some)))

-- ---- the chunks of a content, by their places

module _ (chunking : Chunking) (some : 0 < chunking.size) (content : List ℕ) (own : List UnitSums)
    (are : map node_in own ≡ nodes_alone chunking content) (i : ℕ) where
  abbrev p : ℕ
  p = chunking.piece_length

  abbrev size : ℕ
  size = chunking.size

  pub many : length own ≡ div_ceil (length content) size
  many = sym (length-map own node_in) ∙ ap length are ∙ length-map (runs_of size content) (node_over p None)
      ∙ count_of_runs size content

  module _ (there : i < length own) where
    begins : i * size < length content
    begins =
        let bounds = div_ceil_times (length content) size some in
        let next : suc i * size ≤ div_ceil (length content) size * size =
        mul-le-mul_right size (omega (arith, there, many)) in
        omega (arith, bounds.1, next)

    pub run_node : (d : UnitSums) (count : ℕ) → count ≡ min (length content - i * size) size
        → IsRunNode p count (slice_chunk content size i) (get_or own i d)
    run_node d count counted =
        let inside : i < length (runs_of size content) = omega (arith, there, many, count_of_runs size content) in
        record {
          some = omega (arith, counted, begins, some);
          counted = run_long size content i ∙ sym counted;
          node = sym (get_or-map node_in own i d (node_over p None []) there)
              ∙ ap (λ ns. get_or ns i (node_over p None [])) are
              ∙ get_or-map (node_over p None) (runs_of size content) i [] (node_over p None []) inside
              ∙ ap (node_over p None) (run_is size content i [] inside);
        }

    pub runs_next : take (i + 1) (runs_of size content)
        ≡ take i (runs_of size content) ++ slice_chunk content size i ∷ []
    runs_next =
        let inside : i < length (runs_of size content) = omega (arith, there, many, count_of_runs size content) in
        take_more (runs_of size content) i [] inside
        ∙ ap (λ r. take i (runs_of size content) ++ r ∷ []) (run_is size content i [] inside)

-- where there is a length there is a content
pub first_content : (chunking : Chunking) (contents : List (List ℕ)) (m : ℕ) (lengths : List ℕ)
    (left : List UnitSums) → AreNodesOf chunking contents (m ∷ lengths) left
    → (content : List ℕ) × (later : List (List ℕ)) × AreNodesOf chunking (content ∷ later) (m ∷ lengths) left
first_content chunking [] m lengths left are = let none = ap length are.counted in absurd (omega (arith, none))
first_content chunking (content ∷ later) m lengths left are = (content, later, are)

-- the chunks of the first content, and of the later ones
module _ (chunking : Chunking) (content : List ℕ) (contents : List (List ℕ)) (m : ℕ) (lengths : List ℕ)
    (left : List UnitSums) (are : AreNodesOf chunking (content ∷ contents) (m ∷ lengths) left) (n : ℕ)
    (count : n ≡ min (div_ceil m chunking.size) (length left)) where
  same_length : m ≡ length content
  same_length = ap (λ xs. get_or xs 0 0) (sym are.counted)

  all_own : n ≡ length (nodes_alone chunking content)
  all_own =
      let counted = ap (λ m. div_ceil m chunking.size) same_length ∙ sym (count_of_runs chunking.size content)
      ∙ sym (length-map (runs_of chunking.size content) (node_over chunking.piece_length None)) in
      omega (arith, count, counted, enough_nodes (nodes_alone chunking) content contents left are.nodes _ counted)

  pub own_chunks : AreNodesOfOne chunking content m (take n left)
  own_chunks = record {
    counted = sym same_length;
    small = subst (λ (m : ℕ). m ≤ 2 ^ 50) (sym same_length) are.small.0;
    nodes = own_nodes (nodes_alone chunking) content contents left are.nodes n all_own;
  }

  pub later_chunks : AreNodesOf chunking contents lengths (drop n left)
  later_chunks = record {
    counted = ap (drop 1) are.counted;
    small = are.small.1;
    nodes = later_nodes (nodes_alone chunking) content contents left are.nodes n all_own;
  }

-- how many chunks a content may have
pub few_chunks : (size : ℕ) (count : ℕ) → IsPieceLength size → count ≤ 2 ^ 50
    → div_ceil count size ≤ 2 ^ (36 - piece_level size)
few_chunks size count allowed small =
    few_below count size (piece_level size) 36 (piece_at_level size allowed)
    (omega (arith, piece_levels_are_low size allowed)) (omega (arith, small))

-- a content of some byte has a root
pub some_root : (content : List ℕ) → 0 < length content → root_of content ≡ Some (pieces_root content)
some_root [] some = absurd (omega (arith, some))
some_root (byte ∷ bytes) some = refl

-- the only chunk of a content
pub only_chunk : (chunking : Chunking) (some : 0 < chunking.size) (content : List ℕ) (own : List UnitSums)
    (d : UnitSums) → map node_in own ≡ nodes_alone chunking content → length content ≤ chunking.size
    → 0 < length own
    → (0 < length content) × (node_in (get_or own 0 d) ≡ node_over chunking.piece_length None content)
only_chunk chunking some content own d are short there =
    let size = chunking.size in
    let one = run_node chunking some content own are 0 there d (min (length content - 0 * size) size) refl in
    let whole : slice_chunk content size 0 ≡ content =
    ap (λ n. take size (drop n content)) (zero-mul size) ∙ take_all size content short in
    (omega (arith, one.some, zero-mul size), one.node ∙ ap (node_over chunking.piece_length None) whole)

-- ---- units

-- one that a lane takes is as long as a piece may be
pub unit_allowed : (p span : ℕ) → IsPieceLength p → IsSpan span → span * p ≤ 2 ^ 30 → IsPieceLength (span * p)
unit_allowed p span allowed is_span small =
    let at = unit_at_level p span allowed is_span in
    let low : unit_level (span * p) ≤ 16 = exponents (unit_level (span * p)) 16 (omega (arith, at.2, small)) in
    subst IsPieceLength (sym at.2) (blocks_allowed (unit_level (span * p)) low)

-- where the kind has trees
pub tree_chunking : (chunking : Chunking) → IsChunking chunking → has_v2 chunking.kind ≡ true
    → IsTreeChunking chunking
tree_chunking chunking is trees =
    let piece = allowed_with_trees chunking.kind chunking.piece_length is.cut.pieces trees in
    record {
      piece = piece;
      chunk = subst IsPieceLength (sym is.size)
          (unit_allowed chunking.piece_length is.span piece is.cut.is_span (omega (arith, is.cut.small)));
      span = is.span;
      some = omega (arith, is.cut.is_span.1);
      size = is.size;
    }

-- the level of a piece is below that of a unit
pub levels_rise : (chunking : Chunking) → IsTreeChunking chunking
    → piece_level chunking.piece_length ≤ piece_level chunking.size
levels_rise chunking is =
    exponents (piece_level chunking.piece_length) (piece_level chunking.size)
    (omega (
      arith,
      piece_at_level chunking.piece_length is.piece,
      piece_at_level chunking.size is.chunk,
      is.size,
      mul-le-mul_right {m = 1} {n = is.span} chunking.piece_length is.some,
    ))

pub some_length : (size : ℕ) → IsPieceLength size → 0 < size
some_length size allowed = omega (arith, ((piece_length_bounds size).0 allowed).1)

-- one chunk more
use Rattle.std.proofs.Common.{◌≡◌, ◌+◌, ◌-◌, ◌*◌, ◌^◌, ◌<◌, ◌≤◌, ◌++◌, ◌∷◌, [], ℕ, List, length, map, take, min, arith}
use Rattle.std.proofs.Common.{ap, ap₂, sym, ◌∙◌, append-nil, subst, zero-mul}
use Rattle.std.proofs.lemmas.Grind.{div_ceil_times, flat_map-append}
use Rattle.std.proofs.lemmas.List.{length-map, length-take, map-append, take_all}
use Rattle.std.specs.Fork.{slice_chunk}
use Rattle.std.specs.Int.{div_ceil}
use Rattle.std.specs.List.{flat_map}
use Rattle.tor_merkle.specs.Block.{leaves}
use Rattle.tor_merkle.specs.Layer.{piece_roots}
use Rattle.tor_merkle.specs.Stack.{padded_root, padded_subtree}
use Rattle.tor_sums.specs.declared.unit_sums.UnitSums.{UnitSums}
use Rattle.tor_streams.specs.steps.ChunkNodes.{IsRunNode}
use Rattle.tor_streams.specs.steps.Cuts.{runs_of}
use Rattle.tor_streams.proofs.ChunkTrees.{count_of_runs, few_chunks, layer_of_runs, levels_rise, many, root_of_runs}
use Rattle.tor_streams.proofs.ChunkTrees.{run_node, runs_next, some_length}
use Rattle.tor_sums.proofs.Levels.{piece_at_level}
use Rattle.tor_streams.proofs.stream_sums.tree_of_chunks.Goals as goal

pub chunks-init : goal.chunks-init
chunks-init c = record {
  left = omega arith;
  so_far = λ content are. (c.in_ok-hashes.ensures.items, c.in_ok-layer.ensures.items);
}

pub node_in_tree-requires-clause-room : goal.node_in_tree-requires-clause-room
node_in_tree-requires-clause-room c =
    let size = c.args.chunking.size in
    let level = c.piece_level-level.ensures.value in
    let rise = levels_rise c.args.chunking c.requires.cut in (
      omega (arith, rise, level),
      omega (arith, c.piece_level-level.ensures.low),
      subst (λ (k : ℕ). c.min-count.result ≤ 16384 * 2 ^ k) (sym level)
          (omega (arith, c.min-count.ensures, piece_at_level size c.requires.cut.chunk)),
    )

pub node_in_tree-requires-clause-one : goal.node_in_tree-requires-clause-one
node_in_tree-requires-clause-one c =
    let size = c.args.chunking.size in
    let i = c.chunks.one-index in
    let content = c.requires.own.0 in
    let are = c.requires.own.1 in
    let counted : c.min-count.result ≡ min (length content - i * size) size =
    c.min-count.ensures ∙ ap (λ n. min n size) (c.chunks.invariant.left ∙ ap (λ n. n - i * size) (sym are.counted)) in (
      slice_chunk content size i,
      subst (λ (o : UnitSums). IsRunNode c.args.chunking.piece_length c.min-count.result (slice_chunk content size i) o)
          (sym c.one-item.is)
          (run_node c.args.chunking (some_length size c.requires.cut.chunk) content c.args.own.now are.nodes i
          c.chunks-test.true c.one-item.result c.min-count.result counted),
    )

pub chunks-preserved : goal.chunks-preserved
chunks-preserved c =
    let p = c.args.chunking.piece_length in
    let size = c.args.chunking.size in
    let i = c.chunks.one-index in
    let next : (i + 1) * size ≡ i * size + size = omega arith in
    let f = λ (run : List ℕ). padded_subtree c.piece_level-level.result 0 (leaves run) in
    let g = λ (run : List ℕ). piece_roots run p in record {
      left = omega (arith, c.min-count.ensures, c.chunks.invariant.left, next);
      so_far = λ content are.
          let some = some_length size c.requires.cut.chunk in
          let before = c.chunks.invariant.so_far content are in
          let run = slice_chunk content size i in
          let counted : c.min-count.result ≡ min (length content - i * size) size =
          c.min-count.ensures
          ∙ ap (λ n. min n size) (c.chunks.invariant.left ∙ ap (λ n. n - i * size) (sym are.counted)) in
          let is = subst (λ (o : UnitSums). IsRunNode p c.min-count.result run o) (sym c.one-item.is)
          (run_node c.args.chunking some content c.args.own.now are.nodes i c.chunks-test.true c.one-item.result
          c.min-count.result counted) in
          let node = c.in_ok-hash.ensures run is in
          let more = runs_next c.args.chunking some content c.args.own.now are.nodes i c.chunks-test.true in
          let front = take i (runs_of size content) in (
            c.in_ok-push.ensures.items ∙ ap₂ (λ xs x. xs ++ x ∷ []) before.0 (ap (λ n. n.0) node)
                ∙ sym (map-append f front (run ∷ [])) ∙ ap (map f) (sym more),
            c.in_ok-append.ensures.joined ∙ ap₂ (λ xs ys. xs ++ ys) before.1 (ap (λ n. n.1) node)
                ∙ ap (λ xs. flat_map g front ++ xs) (sym (append-nil (g run)))
                ∙ sym (flat_map-append g front (run ∷ [])) ∙ ap (flat_map g) (sym more),
          );
    }

pub layer_root-requires-clause-some : goal.layer_root-requires-clause-some
layer_root-requires-clause-some c =
    let size = c.args.chunking.size in
    let content = c.requires.own.0 in
    let are = c.requires.own.1 in
    let some = some_length size c.requires.cut.chunk in
    let all = many c.args.chunking some content c.args.own.now are.nodes 0 in
    let bounds = div_ceil_times (length content) size some in
    let none : div_ceil (length content) size ≡ 0 → ⊥ =
    λ e. let zero : div_ceil (length content) size * size ≡ 0 = ap (λ n. n * size) e ∙ zero-mul size in
    omega (arith, bounds.0, zero, c.requires.several, are.counted) in
    omega (
      arith,
      ap length (c.deref.ensures.value ∙ (c.chunks.invariant.so_far content are).0),
      length-map (take c.chunks.one-index (runs_of size content))
          (λ run. padded_subtree c.piece_level-level.result 0 (leaves run)),
      length-take c.chunks.one-index (runs_of size content),
      count_of_runs size content,
      all,
      none,
      c.chunks-test.false,
    )

pub layer_root-requires-clause-small : goal.layer_root-requires-clause-small
layer_root-requires-clause-small c =
    let size = c.args.chunking.size in
    let content = c.requires.own.0 in
    let are = c.requires.own.1 in
    let few = few_chunks size (length content) c.requires.cut.chunk (omega (arith, are.small, are.counted)) in
    subst (λ (k : ℕ). length c.deref.result.now ≤ 2 ^ (36 - k)) (sym c.piece_level-level.ensures.value)
    (omega (
      arith,
      ap length (c.deref.ensures.value ∙ (c.chunks.invariant.so_far content are).0),
      length-map (take c.chunks.one-index (runs_of size content))
          (λ run. padded_subtree c.piece_level-level.result 0 (leaves run)),
      length-take c.chunks.one-index (runs_of size content),
      count_of_runs size content,
      few,
    ))

pub returns : goal.returns
returns c = λ content are.
    let p = c.args.chunking.piece_length in
    let size = c.args.chunking.size in
    let some = some_length size c.requires.cut.chunk in
    let level = c.piece_level-level.result in
    let all = many c.args.chunking some content c.args.own.now are.nodes 0 in
    let whole : take c.chunks.one-index (runs_of size content) ≡ runs_of size content =
    take_all c.chunks.one-index (runs_of size content)
    (omega (arith, all, count_of_runs size content, c.chunks-test.false)) in
    let so_far = c.chunks.invariant.so_far content are in
    let at : size ≡ 16384 * 2 ^ level =
    piece_at_level size c.requires.cut.chunk ∙ ap (λ k. 16384 * 2 ^ k) (sym c.piece_level-level.ensures.value) in
    let long : size < length content = omega (arith, c.requires.several, are.counted) in (
      c.layer_root.ensures
          ∙ ap (padded_root level)
          (c.deref.ensures.value ∙ so_far.0 ∙ ap (map (λ run. padded_subtree level 0 (leaves run))) whole)
          ∙ sym (root_of_runs c.args.chunking c.requires.cut level content at long),
      so_far.1 ∙ ap (flat_map (λ run. piece_roots run p)) whole
          ∙ layer_of_runs c.args.chunking c.requires.cut level content at long,
    )

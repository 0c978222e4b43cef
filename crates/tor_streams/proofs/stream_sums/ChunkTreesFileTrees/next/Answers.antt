-- the next content
use Rattle.std.proofs.Common.{◌≡◌, ℕ, length, map, min, arith, ap, sym, subst, ◌∙◌}
use Rattle.std.specs.Int.{div_ceil}
use Rattle.tor_merkle.specs.Layer.{piece_layer}
use Rattle.tor_streams.specs.steps.ChunkNodes.{AreNodesOf, AreNodesOfOne}
use Rattle.tor_streams.proofs.ChunkTrees.{first_content, later_chunks, own_chunks}
use Rattle.tor_streams.proofs.stream_sums.ChunkTreesFileTrees.next.Goals as goal

pub tree_of_content-requires-clause-own : goal.tree_of_content-requires-clause-own
tree_of_content-requires-clause-own c =
    let chunking = c.args.self.now.chunking in
    let rest = c.args.self.now.rest.now in
    let later = c.requires.0 in
    let may = c.requires.1 in
    let first = first_content chunking may.1.0 c.args.size later rest may.1.1 in
    let count : c.min.result ≡ min (div_ceil c.args.size chunking.size) (length rest) =
    omega (arith, c.min.ensures, c.div_ceil-count.ensures) in (
      first.0,
      subst (AreNodesOfOne chunking first.0 c.args.size) (sym c.split_at.ensures.front)
          (own_chunks chunking first.0 first.1 c.args.size later rest first.2 c.min.result count),
    )

pub returns-clause-left : goal.returns-clause-left
returns-clause-left c = λ later may.
    let chunking = c.args.self.now.chunking in
    let rest = c.args.self.now.rest.now in
    let first = first_content chunking may.1.0 c.args.size later rest may.1.1 in
    let count : c.min.result ≡ min (div_ceil c.args.size chunking.size) (length rest) =
    omega (arith, c.min.ensures, c.div_ceil-count.ensures) in (
      may.0,
      (
        first.1,
        subst (AreNodesOf chunking first.1 later) (sym c.split_at.ensures.back)
            (later_chunks chunking first.0 first.1 c.args.size later rest first.2 c.min.result count),
      ),
    )

pub returns-clause-tree : goal.returns-clause-tree
returns-clause-tree c = λ p content later same are.
    let chunking = c.args.self.now.chunking in
    let rest = c.args.self.now.rest.now in
    let count : c.min.result ≡ min (div_ceil (length content) chunking.size) (length rest) =
    let whole = ap (λ n. div_ceil n chunking.size) same in
    omega (arith, c.min.ensures, c.div_ceil-count.ensures, whole) in
    let own = subst (AreNodesOfOne chunking content (length content)) (sym c.split_at.ensures.front)
    (own_chunks chunking content later (length content) (map length later) rest are.1 c.min.result count) in
    let tree = c.in_ok-tree.ensures content
    (subst (λ (m : ℕ). AreNodesOfOne chunking content m c.split_at.result.0.now) same own) in (
      tree.0,
      tree.1 ∙ ap (piece_layer content) (sym are.0),
      (
        are.0,
        subst (AreNodesOf chunking later (map length later)) (sym c.split_at.ensures.back)
            (later_chunks chunking content later (length content) (map length later) rest are.1 c.min.result count),
      ),
    )

-- the nodes of the chunks of contents, where the kind has trees
use Rattle.std.proofs.Common.{◌≡◌, true, refl, ◌∙◌}
use Rattle.tor_tree.specs.Kinds.{has_v2}
use Rattle.tor_streams.proofs.ChunkTrees.{nodes_of_stream, tree_chunking}
use Rattle.tor_streams.proofs.Cutting.{some_size}
use Rattle.tor_streams.proofs.stream_sums.trees_of_stream.Goals as goal

pub trees_of-requires : goal.trees_of-requires
trees_of-requires c =
    let chunking = c.args.chunking in
    let contents = c.requires.chunks.0 in
    let are = c.requires.chunks.1 in
    let trees : has_v2 chunking.kind ≡ true = cc in (
      tree_chunking chunking c.requires.cut trees,
      (
        contents,
        record {
          counted = are.counted;
          small = are.small;
          nodes = are.nodes ∙ nodes_of_stream chunking (some_size chunking c.requires.cut) trees contents;
        },
      ),
    )

pub returns : goal.returns
returns c = λ contents are.
    let chunking = c.args.chunking in
    let trees : has_v2 chunking.kind ≡ true = cc in (
      trees,
      c.in_ok-trees.ensures chunking.piece_length contents are.counted (
        refl,
        record {
          counted = refl;
          small = are.small;
          nodes = are.nodes ∙ nodes_of_stream chunking (some_size chunking c.requires.cut) trees contents;
        },
      ),
    )

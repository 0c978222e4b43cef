-- the nodes of the chunks so far, and their hashes in the layer
use Rattle.std.proofs.Common.{◌≡◌, ◌*◌, ◌-◌, ℕ, List, map, take}
use Rattle.std.specs.List.{flat_map}
use Rattle.tor_merkle.specs.Block.{leaves}
use Rattle.tor_merkle.specs.Layer.{piece_roots}
use Rattle.tor_merkle.specs.Stack.{padded_subtree}
use Rattle.tor_streams.specs.steps.ChunkNodes.{AreNodesOfOne}
use Rattle.tor_streams.specs.steps.Cuts.{runs_of}
use Rattle.tor_streams.proofs.stream_sums.tree_of_chunks.Given as goal

abbrev pub invariant-chunks : goal.invariant-chunks
invariant-chunks l = record {
  left : l.left ≡ l.length - l.one-index * l.chunking.size;
  so_far : (content : List ℕ) → AreNodesOfOne l.chunking content l.length l.own →
      (l.hashes.items ≡ map (λ run. padded_subtree l.level 0 (leaves run))
      (take l.one-index (runs_of l.chunking.size content)))
      × (l.layer.items ≡ flat_map (λ run. piece_roots run l.chunking.piece_length)
      (take l.one-index (runs_of l.chunking.size content)));
}

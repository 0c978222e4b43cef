-- The roots and layers so far are those of the contents so far.
use Rattle.std.proofs.Common.{◌≡◌, map, take}
use Rattle.tor_merkle.specs.Layer.{piece_layer}
use Rattle.tor_meta.specs.steps.Contents.{bytes_of}
use Rattle.tor_sums.specs.Sums.{lists_of}
use Rattle.tor_merkle.specs.Layer.{root_of}
use Rattle.tor_meta.proofs.sums.sum_trees.Given as goal

abbrev pub invariant-loop-content : goal.invariant-loop-content
invariant-loop-content l = record {
  rooted : l.roots.items ≡ map root_of (bytes_of (take l.content-index l.contents));
  layered : lists_of l.layers.items
      ≡ map (λ content. piece_layer content l.piece_length) (bytes_of (take l.content-index l.contents));
}

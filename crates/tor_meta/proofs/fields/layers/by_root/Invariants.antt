-- The map has the layers of the files that were passed.
use Rattle.std.proofs.Common.{◌≡◌, ◌≤◌, List, length, drop}
use Rattle.tor_sums.specs.Sums.{lists_of}
use Rattle.tor_meta.specs.steps.Layers.{pairs_of_map}
use Rattle.tor_spec.specs.Facts.{Facts, listed, layers_in, roots_in}
use Rattle.tor_spec.specs.PieceLayers.{piece_layers}
use Rattle.tor_meta.proofs.fields.layers.by_root.Given as goal

abbrev pub invariant-files : goal.invariant-files
invariant-files l = record {
  within : l.left ≤ length l.files;
  passed : (facts : List Facts) → listed facts ≡ l.files → roots_in facts ≡ l.roots
      → layers_in facts ≡ lists_of l.layers
      → pairs_of_map l.by_root.entries ≡ piece_layers l.piece_length (drop l.left facts);
}

abbrev pub decreases-files : goal.decreases-files
decreases-files l = l.left

-- the trees of the files so far, and what is known of the others
use Rattle.std.proofs.Common.{◌≡◌, ℕ, List, length, map, take, drop}
use Rattle.tor_merkle.specs.Layer.{piece_layer, root_of}
use Rattle.tor_sums.specs.Sums.{lists_of}
use Rattle.tor_sums.proofs.trees.trees_of.Given as goal

abbrev pub invariant-each : goal.invariant-each
invariant-each g l = record {
  may : g.T.FileTrees.may_tell l.files (drop l.size-index l.sizes);
  told : (p : ℕ) (contents : List (List ℕ)) → map length contents ≡ l.sizes → g.T.FileTrees.are_of l.fn.files p contents
      → g.T.FileTrees.are_of l.files p (drop l.size-index contents)
      × (l.roots.items ≡ map root_of (take l.size-index contents))
      × (lists_of l.layers.items ≡ map (λ content. piece_layer content p) (take l.size-index contents));
}

use Rattle.tor_check.proofs.Names.{◌≡◌, map, length, keys_in, seen, viewed, IsKept, IsShared}
use Rattle.tor_check.proofs.views.views_of_tree.Given as goal

-- the files so far, each with its layer, and what is kept of their layers
abbrev pub invariant-files : goal.invariant-files
invariant-files l = record {
  told : l.views.items ≡ map (viewed l.layers.piece_length (seen l.layers)) l.yielded;
  one_each : length l.shared ≡ length (keys_in (seen l.layers));
  shared : IsKept (IsShared (seen l.layers)) (seen l.layers) l.shared;
}

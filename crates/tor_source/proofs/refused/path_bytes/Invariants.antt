use Rattle.std.proofs.Common.{◌≡◌, ◌++◌, ◌∷◌, [], take}
use Rattle.std.specs.List.{flat_map}
use Rattle.tor_tree.specs.Name.{slash}
use Rattle.tor_source.proofs.refused.path_bytes.Given as goal

abbrev pub invariant-loop-folder : goal.invariant-loop-folder
invariant-loop-folder l = l.path.items ≡ flat_map (λ folder. folder ++ slash ∷ []) (take l.folder-index l.above)

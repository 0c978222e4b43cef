use Rattle.std.proofs.Common.{◌≡◌, take}
use Rattle.tor_tree.specs.FileList.{paths_of}
use Rattle.tor_tree.proofs.paths.copy_paths.Given as goal

abbrev pub invariant-loop-path : goal.invariant-loop-path
invariant-loop-path g l = l.copies.items ≡ paths_of (take l.path-index l.files)

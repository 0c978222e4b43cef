use Rattle.tor_tree.proofs.Cited.{◌≡◌, map, file_from}
use Rattle.tor_tree.proofs.read_tree.files_of.Given as goal

abbrev pub invariant-loop-path : goal.invariant-loop-path
invariant-loop-path l = l.files.items ≡ map file_from l.yielded

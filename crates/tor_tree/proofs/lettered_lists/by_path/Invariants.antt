use Rattle.tor_tree.proofs.Cited.{◌≡◌, map}
use Rattle.tor_tree.proofs.lettered_lists.by_path.Given as goal

abbrev pub invariant-loop-path : goal.invariant-loop-path
invariant-loop-path l = l.entries.items ≡ map (λ file. (file.0, (file.1, file.2))) l.yielded

use Rattle.tor_tree.proofs.Cited.{◌≡◌, take}
use Rattle.tor_tree.proofs.names.copy_names.Given as goal

abbrev pub invariant-loop-name : goal.invariant-loop-name
invariant-loop-name l = l.copied.items ≡ take l.name-index l.names

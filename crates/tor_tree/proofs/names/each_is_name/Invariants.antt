use Rattle.tor_tree.proofs.Cited.{◌≡◌, None, take, name_fault}
use Rattle.std.proofs.Common.{All}
use Rattle.tor_tree.proofs.names.each_is_name.Given as goal

abbrev pub invariant-loop-name : goal.invariant-loop-name
invariant-loop-name l = All (λ name. name_fault name ≡ None) (take l.name-index l.names)

use Rattle.tor_tree.proofs.Cited.{◌≡◌, true, take, has_name_at}
use Rattle.std.proofs.Common.{All}
use Rattle.tor_tree.proofs.write_tree.run_len.Given as goal

abbrev pub invariant-loop-i : goal.invariant-loop-i
invariant-loop-i l = All (λ file. has_name_at l.depth l.name file.0 ≡ true) (take l.i l.files)

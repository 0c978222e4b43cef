use Rattle.tor_tree.proofs.Cited.{take, IsFilePath}
use Rattle.std.proofs.Common.{All}
use Rattle.tor_tree.proofs.paths.each_is_path.Given as goal

abbrev pub invariant-loop-path : goal.invariant-loop-path
invariant-loop-path g l = All (λ entry. IsFilePath entry.0) (take l.path-index l.entries)

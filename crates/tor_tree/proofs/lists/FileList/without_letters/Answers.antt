-- A search fails at these goals before `grind` finds the proof.
use Rattle.std.proofs.Common.{arith}
use Rattle.std.proofs.lemmas.Grind.{common_steps}
use Rattle.tor_tree.proofs.lists.FileList.without_letters.Goals as goal

pub of_sorted-requires-clause-one_each : goal.of_sorted-requires-clause-one_each
of_sorted-requires-clause-one_each c = grind (arith, common_steps)

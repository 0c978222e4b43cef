-- A search fails at these goals before `grind` finds the proof.
use Rattle.std.proofs.Common.{arith}
use Rattle.std.proofs.lemmas.Grind.{common_steps}
use Rattle.tor_tree.proofs.path_faults.paths_fault.Goals as goal

pub returns-then-not-rises-clause-value : goal.returns-then-not-rises-clause-value
returns-then-not-rises-clause-value g c = grind (arith, common_steps)

pub returns-then-nests-clause-value : goal.returns-then-nests-clause-value
returns-then-nests-clause-value g c = grind (arith, common_steps)

pub returns-clause-value : goal.returns-clause-value
returns-clause-value g c = grind (arith, common_steps)

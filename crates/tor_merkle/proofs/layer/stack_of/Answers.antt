-- A search fails at these goals before `grind` finds the proof.
use Rattle.std.proofs.Common.{arith}
use Rattle.std.proofs.lemmas.Grind.{common_steps}
use Rattle.tor_merkle.proofs.layer.stack_of.Goals as goal

pub pushes-preserved : goal.pushes-preserved
pushes-preserved c = grind (arith, common_steps)

pub returns-clause-hashes : goal.returns-clause-hashes
returns-clause-hashes c = grind (arith, common_steps)

-- A search fails at these goals before `grind` finds the proof.
use Rattle.std.proofs.Common.{arith}
use Rattle.std.proofs.lemmas.Grind.{common_steps}
use Rattle.tor_v1.proofs.runs.push_eight.Goals as goal

pub hashes-preserved : goal.hashes-preserved
hashes-preserved c = grind (arith, common_steps)

pub returns-clause-joined : goal.returns-clause-joined
returns-clause-joined c = grind (arith, common_steps)

-- A search fails at these goals before `grind` finds the proof.
use Rattle.std.proofs.Common.{arith}
use Rattle.std.proofs.lemmas.Grind.{common_steps}
use Rattle.tor_v1.proofs.sums.push_often.Goals as goal

pub pieces-preserved : goal.pieces-preserved
pieces-preserved c = grind (arith, common_steps)

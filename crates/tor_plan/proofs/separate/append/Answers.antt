-- A search fails at these goals before `grind` finds the proof.
use Rattle.std.proofs.Common.{arith}
use Rattle.std.proofs.lemmas.Grind.{common_steps}
use Rattle.tor_plan.proofs.separate.append.Goals as goal

pub units-preserved : goal.units-preserved
units-preserved c = grind (arith, common_steps)

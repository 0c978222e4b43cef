-- A search fails at these goals before `grind` finds the proof.
use Rattle.std.proofs.Common.{arith}
use Rattle.std.proofs.lemmas.Grind.{common_steps}
use Rattle.tor_meta.proofs.plans.lot_rows.all_rows.Goals as goal

pub slots-preserved-in-Continue-branch-2 : goal.slots-preserved-in-Continue-branch-2
slots-preserved-in-Continue-branch-2 c = grind (arith, common_steps)

pub slots-preserved : goal.slots-preserved
slots-preserved c = grind (arith, common_steps)

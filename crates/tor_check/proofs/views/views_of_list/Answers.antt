-- A search fails at these goals before `grind` finds the proof.
use Rattle.std.proofs.lemmas.Grind.{common_steps}
use Rattle.tor_check.proofs.Names.{arith}
use Rattle.tor_check.proofs.views.views_of_list.Goals as goal

-- padding adds no file
pub listed-preserved-in-Continue-branch-2 : goal.listed-preserved-in-Continue-branch-2
listed-preserved-in-Continue-branch-2 c = grind (arith, common_steps)

pub listed-preserved : goal.listed-preserved
listed-preserved c = grind (arith, common_steps)

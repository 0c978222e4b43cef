-- A search fails at these goals before `grind` finds the proof.
use Rattle.std.proofs.lemmas.Grind.{common_steps}
use Rattle.tor_check.proofs.Names.{arith}
use Rattle.tor_check.proofs.TailSteps.{at_filled, at_other}
use Rattle.tor_check.proofs.agree.has_wrong_tail.Goals as goal

pub listed-preserved : goal.listed-preserved
listed-preserved c = grind (arith, common_steps, at_filled, at_other)

pub overflow_add-tail : goal.overflow_add-tail
overflow_add-tail c = grind (arith, common_steps)

pub returns-then-tail-ne0 : goal.returns-then-tail-ne0
returns-then-tail-ne0 c = grind (arith, common_steps)

pub returns-else-tail-ne0 : goal.returns-else-tail-ne0
returns-else-tail-ne0 c = grind (arith, common_steps)

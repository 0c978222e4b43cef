-- A search fails at these goals before `grind` finds the proof.
use Rattle.std.proofs.lemmas.Grind.{common_steps}
use Rattle.tor_check.proofs.Names.{arith}
use Rattle.tor_check.proofs.agree.is_misaligned.Goals as goal

pub returns-then-start-aligned : goal.returns-then-start-aligned
returns-then-start-aligned c = grind (arith, common_steps)

pub overflow_add-start : goal.overflow_add-start
overflow_add-start c = grind (arith, common_steps)

pub listed-preserved : goal.listed-preserved
listed-preserved c = grind (arith, common_steps)

pub returns : goal.returns
returns c = grind (arith, common_steps)

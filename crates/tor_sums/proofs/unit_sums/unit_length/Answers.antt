-- A search fails at these goals before `grind` finds the proof.
use Rattle.std.proofs.Common.{arith}
use Rattle.std.proofs.lemmas.Grind.{common_steps}
use Rattle.tor_sums.proofs.unit_sums.unit_length.Goals as goal

pub overflow_add-count : goal.overflow_add-count
overflow_add-count c = grind (arith, common_steps)

pub overflow_add-count-in-parts : goal.overflow_add-count-in-parts
overflow_add-count-in-parts c = grind (arith, common_steps)

pub parts-preserved : goal.parts-preserved
parts-preserved c = grind (arith, common_steps)

pub returns : goal.returns
returns c = grind (arith, common_steps)

-- A search fails at these goals before `grind` finds the proof.
use Rattle.std.proofs.Common.{arith}
use Rattle.std.proofs.lemmas.Grind.{common_steps}
use Rattle.tor_v1.proofs.layout.lay_out.Goals as goal

pub returns-clause-made : goal.returns-clause-made
returns-clause-made c = grind (arith, common_steps)

-- A search fails at these goals before `grind` finds the proof.
use Rattle.std.proofs.Common.{arith}
use Rattle.std.proofs.lemmas.Grind.{common_steps}
use Rattle.tor_engine.proofs.lot.hashes_of.Goals as goal

pub units-preserved : goal.units-preserved
units-preserved c = grind (arith, common_steps)

pub returns : goal.returns
returns c = grind (arith, common_steps)

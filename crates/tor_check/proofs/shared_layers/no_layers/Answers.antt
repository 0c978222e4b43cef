-- A search fails at these goals before `grind` finds the proof.
use Rattle.std.proofs.lemmas.Grind.{common_steps}
use Rattle.tor_check.proofs.Names.{arith}
use Rattle.tor_check.proofs.shared_layers.no_layers.Goals as goal

pub roots-preserved : goal.roots-preserved
roots-preserved c = grind (arith, common_steps)

-- A search fails at these goals before `grind` finds the proof.
use Rattle.std.proofs.Common.{arith}
use Rattle.std.proofs.lemmas.Grind.{common_steps}
use Rattle.tor_cli.proofs.recheck.text.with_unreadable.Goals as goal

pub faults-preserved : goal.faults-preserved
faults-preserved g c = grind (arith, common_steps)

pub returns : goal.returns
returns g c = grind (arith, common_steps)

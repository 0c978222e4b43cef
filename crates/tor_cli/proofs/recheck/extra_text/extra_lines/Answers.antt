-- A search fails at these goals before `grind` finds the proof.
use Rattle.std.proofs.Common.{arith}
use Rattle.std.proofs.lemmas.Grind.{common_steps}
use Rattle.tor_cli.proofs.recheck.extra_text.extra_lines.Goals as goal

pub paths-preserved : goal.paths-preserved
paths-preserved c = grind (arith, common_steps)

pub returns : goal.returns
returns c = grind (arith, common_steps)

use Rattle.std.proofs.Common.{arith}
use Rattle.std.proofs.lemmas.Grind.{common_steps}
use Rattle.tor_source.proofs.refused.path_bytes.Goals as goal

pub loop-folder-preserved : goal.loop-folder-preserved
loop-folder-preserved c = grind (arith, common_steps)

pub returns : goal.returns
returns c = grind (arith, common_steps)

-- Each step leaves what stands beside it as it is.
use Rattle.std.proofs.Common.{arith}
use Rattle.std.proofs.lemmas.Grind.{common_steps}
use Rattle.tor_words.proofs.argument.flag_of.Goals as goal

pub returns : goal.returns
returns c = grind (arith, common_steps)

-- A search fails at these goals before `grind` finds the proof.
use Rattle.std.proofs.lemmas.Grind.{common_steps}
use Rattle.tor_check.proofs.Names.{arith}
use Rattle.tor_check.proofs.layer_roots.has_faulty.Goals as goal

pub returns-then-has_faulty_layer : goal.returns-then-has_faulty_layer
returns-then-has_faulty_layer c = grind (arith, common_steps)

pub files-preserved : goal.files-preserved
files-preserved c = grind (arith, common_steps)

pub returns : goal.returns
returns c = grind (arith, common_steps)

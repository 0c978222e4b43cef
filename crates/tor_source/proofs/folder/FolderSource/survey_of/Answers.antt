-- A search fails at these goals before `grind` finds the proof.
use Rattle.std.proofs.Common.{arith}
use Rattle.std.proofs.lemmas.Grind.{common_steps}
use Rattle.tor_source.proofs.folder.FolderSource.survey_of.Goals as goal

pub of_listed-requires : goal.of_listed-requires
of_listed-requires g c = grind (arith, common_steps)

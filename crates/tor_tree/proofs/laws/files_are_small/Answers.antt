use Rattle.tor_tree.proofs.ProvedLaws.{files_are_small}
use Rattle.tor_tree.proofs.laws.files_are_small.Goals as goal

pub returns : goal.returns
returns c = files_are_small

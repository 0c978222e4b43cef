use Rattle.tor_tree.proofs.ProvedLaws.{at_indices}
use Rattle.tor_tree.proofs.laws.at_indices.Goals as goal

pub returns : goal.returns
returns g c = at_indices

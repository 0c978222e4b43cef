use Rattle.tor_tree.proofs.ProvedLaws.{roots_by_index}
use Rattle.tor_tree.proofs.laws.roots_by_index.Goals as goal

pub returns : goal.returns
returns c = roots_by_index

use Rattle.tor_tree.proofs.ProvedLaws.{one_file_tree}
use Rattle.tor_tree.proofs.laws.one_file_tree.Goals as goal

pub returns : goal.returns
returns c = one_file_tree

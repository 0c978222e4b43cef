use Rattle.tor_tree.proofs.ProvedLaws.{file_tree_of_list}
use Rattle.tor_tree.proofs.laws.file_tree_of_list.Goals as goal

pub returns : goal.returns
returns c = file_tree_of_list

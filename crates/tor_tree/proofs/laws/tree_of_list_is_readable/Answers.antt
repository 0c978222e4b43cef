use Rattle.tor_tree.proofs.ProvedLaws.{tree_of_list_is_readable}
use Rattle.tor_tree.proofs.laws.tree_of_list_is_readable.Goals as goal

pub returns : goal.returns
returns c = tree_of_list_is_readable

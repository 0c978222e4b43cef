use Rattle.tor_tree.proofs.ProvedLaws.{tree_of_list_is_lawful}
use Rattle.tor_tree.proofs.laws.tree_of_list_is_lawful.Goals as goal

pub returns : goal.returns
returns c = tree_of_list_is_lawful

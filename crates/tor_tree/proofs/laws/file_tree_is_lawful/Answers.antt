use Rattle.tor_tree.proofs.ProvedLaws.{file_tree_is_lawful}
use Rattle.tor_tree.proofs.laws.file_tree_is_lawful.Goals as goal

pub returns : goal.returns
returns c = file_tree_is_lawful

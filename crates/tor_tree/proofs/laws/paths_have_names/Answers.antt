use Rattle.tor_tree.proofs.ProvedLaws.{lists_have_names, names_not_empty, paths_have_names}
use Rattle.tor_tree.proofs.laws.paths_have_names.Goals as goal

pub returns : goal.returns
returns c = record { name = names_not_empty; path = paths_have_names; list = lists_have_names }

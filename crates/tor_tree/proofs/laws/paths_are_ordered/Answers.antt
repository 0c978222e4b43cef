use Rattle.tor_tree.proofs.ProvedLaws.{folder_before_inside, paths_in_order}
use Rattle.tor_tree.proofs.laws.paths_are_ordered.Goals as goal

pub returns : goal.returns
returns c = record { total = paths_in_order; inside = folder_before_inside }

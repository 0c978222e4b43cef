use Rattle.tor_tree.proofs.ProvedLaws.{lengths_in_any_order, paths_in_any_order}
use Rattle.tor_tree.proofs.laws.faults_in_any_order.Goals as goal

pub returns : goal.returns
returns c = record { paths = paths_in_any_order; lengths = lengths_in_any_order }

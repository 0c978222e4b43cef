use Rattle.tor_tree.proofs.ProvedLaws.{rising_paths}
use Rattle.tor_tree.proofs.laws.rising_paths.Goals as goal

pub returns : goal.returns
returns c = rising_paths

use Rattle.tor_merkle.proofs.ProvedLaws.{root_over_units}
use Rattle.tor_merkle.proofs.laws.roots_over_units.Goals as goal

pub returns : goal.returns
returns c = root_over_units

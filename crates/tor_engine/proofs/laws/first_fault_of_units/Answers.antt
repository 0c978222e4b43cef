use Rattle.tor_engine.proofs.ProvedLaws.{first_fault_of_units}
use Rattle.tor_engine.proofs.laws.first_fault_of_units.Goals as goal

pub returns : goal.returns
returns g c = first_fault_of_units

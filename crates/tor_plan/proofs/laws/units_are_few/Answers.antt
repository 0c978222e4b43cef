use Rattle.tor_plan.proofs.ProvedLaws.{units_are_few}
use Rattle.tor_plan.proofs.laws.units_are_few.Goals as goal

pub returns : goal.returns
returns c = units_are_few

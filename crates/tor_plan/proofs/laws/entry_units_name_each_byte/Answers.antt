use Rattle.tor_plan.proofs.ProvedLaws.{entry_units_name_each_byte}
use Rattle.tor_plan.proofs.laws.entry_units_name_each_byte.Goals as goal

pub returns : goal.returns
returns c = entry_units_name_each_byte

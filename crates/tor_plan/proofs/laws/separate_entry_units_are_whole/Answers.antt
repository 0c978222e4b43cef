use Rattle.tor_plan.proofs.ProvedLaws.{separate_entry_units_are_whole}
use Rattle.tor_plan.proofs.laws.separate_entry_units_are_whole.Goals as goal

pub returns : goal.returns
returns c = separate_entry_units_are_whole

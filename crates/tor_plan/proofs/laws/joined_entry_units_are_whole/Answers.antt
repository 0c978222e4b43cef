use Rattle.tor_plan.proofs.ProvedLaws.{joined_entry_units_are_whole}
use Rattle.tor_plan.proofs.laws.joined_entry_units_are_whole.Goals as goal

pub returns : goal.returns
returns c = joined_entry_units_are_whole

use Rattle.tor_plan.proofs.ProvedLaws.{pieces_are_in_entry_units}
use Rattle.tor_plan.proofs.laws.pieces_are_in_entry_units.Goals as goal

pub returns : goal.returns
returns c = pieces_are_in_entry_units

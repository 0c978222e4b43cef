use Rattle.tor_view.proofs.ProvedLaws.{pieces_are_verified_by_units}
use Rattle.tor_view.proofs.laws.pieces_are_verified_by_units.Goals as goal

pub returns : goal.returns
returns c = pieces_are_verified_by_units

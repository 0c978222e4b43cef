use Rattle.tor_view.proofs.ProvedLaws.{pieces_are_counted}
use Rattle.tor_view.proofs.laws.pieces_are_counted.Goals as goal

pub returns : goal.returns
returns c = pieces_are_counted

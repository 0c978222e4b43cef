use Rattle.tor_plan.proofs.ProvedLaws.{pieces_are_so_long}
use Rattle.tor_plan.proofs.laws.pieces_are_so_long.Goals as goal

pub returns : goal.returns
returns c = pieces_are_so_long

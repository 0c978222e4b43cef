use Rattle.tor_plan.proofs.ProvedLaws.{units_are_cut_into_pieces}
use Rattle.tor_plan.proofs.laws.units_are_cut_into_pieces.Goals as goal

pub returns : goal.returns
returns c = units_are_cut_into_pieces

use Rattle.tor_plan.proofs.ProvedLaws.{aligned_pieces_are_joined}
use Rattle.tor_plan.proofs.laws.aligned_pieces_are_joined.Goals as goal

pub returns : goal.returns
returns c = aligned_pieces_are_joined

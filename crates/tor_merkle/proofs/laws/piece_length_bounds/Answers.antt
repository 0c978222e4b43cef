use Rattle.tor_merkle.proofs.ProvedLaws.{piece_length_bounds}
use Rattle.tor_merkle.proofs.laws.piece_length_bounds.Goals as goal

pub returns : goal.returns
returns c = piece_length_bounds

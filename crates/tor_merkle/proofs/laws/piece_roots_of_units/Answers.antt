use Rattle.tor_merkle.proofs.ProvedLaws.{piece_roots_of_units}
use Rattle.tor_merkle.proofs.laws.piece_roots_of_units.Goals as goal

pub returns : goal.returns
returns c = piece_roots_of_units

use Rattle.tor_merkle.proofs.ProvedLaws.{count_of_piece_roots}
use Rattle.tor_merkle.proofs.laws.count_of_piece_roots.Goals as goal

pub returns : goal.returns
returns c = count_of_piece_roots

use Rattle.tor_merkle.proofs.ProvedLaws.{piece_lengths_divide_the_greatest}
use Rattle.tor_merkle.proofs.laws.piece_lengths_divide_the_greatest.Goals as goal

pub returns : goal.returns
returns c = piece_lengths_divide_the_greatest

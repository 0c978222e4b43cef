use Rattle.tor_v1.proofs.ProvedLaws.{length-piece_sums}
use Rattle.tor_v1.proofs.laws.length_of_sums.Goals as goal

pub returns : goal.returns
returns c = length-piece_sums

use Rattle.tor_v1.proofs.ProvedLaws.{length_of_zeros}
use Rattle.tor_v1.proofs.laws.length_of_zeros.Goals as goal

pub returns : goal.returns
returns c = length_of_zeros

use Rattle.tor_v1.proofs.ProvedLaws.{sums_of_joined}
use Rattle.tor_v1.proofs.laws.sums_of_joined.Goals as goal

pub returns : goal.returns
returns c = sums_of_joined

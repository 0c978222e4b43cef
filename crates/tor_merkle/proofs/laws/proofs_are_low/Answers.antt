use Rattle.tor_merkle.proofs.ProvedLaws.{proofs_are_low}
use Rattle.tor_merkle.proofs.laws.proofs_are_low.Goals as goal

pub returns : goal.returns
returns c = proofs_are_low

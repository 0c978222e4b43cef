use Rattle.tor_merkle.proofs.ProvedLaws.{height_covers, height_least}
use Rattle.tor_merkle.proofs.laws.heights_are_least.Goals as goal

pub returns : goal.returns
returns c = record { covers = height_covers; least = height_least }

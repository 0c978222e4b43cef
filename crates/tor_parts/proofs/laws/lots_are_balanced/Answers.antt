use Rattle.tor_parts.proofs.ProvedLaws.{lots_are_balanced}
use Rattle.tor_parts.proofs.laws.lots_are_balanced.Goals as goal

pub returns : goal.returns
returns c = lots_are_balanced

use Rattle.tor_parts.proofs.ProvedLaws.{bytes_are_of_one_lot}
use Rattle.tor_parts.proofs.laws.bytes_are_of_one_lot.Goals as goal

pub returns : goal.returns
returns c = bytes_are_of_one_lot

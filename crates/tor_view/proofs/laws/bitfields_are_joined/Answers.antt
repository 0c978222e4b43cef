use Rattle.tor_view.proofs.ProvedLaws.{bitfields_joined}
use Rattle.tor_view.proofs.laws.bitfields_are_joined.Goals as goal

pub returns : goal.returns
returns c = bitfields_joined

use Rattle.tor_meta.proofs.ProvedLaws.{what_is_made_is_valid}
use Rattle.tor_meta.proofs.laws.what_is_made_is_valid.Goals as goal

pub returns : goal.returns
returns c = what_is_made_is_valid

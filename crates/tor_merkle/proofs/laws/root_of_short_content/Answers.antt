use Rattle.tor_merkle.proofs.ProvedLaws.{root_of_short_content}
use Rattle.tor_merkle.proofs.laws.root_of_short_content.Goals as goal

pub returns : goal.returns
returns c = root_of_short_content

use Rattle.tor_v1.proofs.ProvedLaws.{length-joined_content}
use Rattle.tor_v1.proofs.laws.length_of_content.Goals as goal

pub returns : goal.returns
returns c = length-joined_content

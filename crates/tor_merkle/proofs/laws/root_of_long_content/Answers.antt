use Rattle.tor_merkle.proofs.ProvedLaws.{root_of_long_content, layer_of_long_content}
use Rattle.tor_merkle.proofs.laws.root_of_long_content.Goals as goal

pub returns : goal.returns
returns c = record { root = root_of_long_content; layer = layer_of_long_content }

use Rattle.tor_bencode.proofs.ProvedLaws.{no_value_before_the_first_key}
use Rattle.tor_bencode.proofs.laws.no_value_before_the_first_key.Goals as goal

pub returns : goal.returns
returns c = no_value_before_the_first_key

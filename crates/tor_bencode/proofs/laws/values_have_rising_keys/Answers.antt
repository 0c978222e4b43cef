use Rattle.tor_bencode.proofs.ProvedLaws.{value_has_rising_keys}
use Rattle.tor_bencode.proofs.laws.values_have_rising_keys.Goals as goal

pub returns : goal.returns
returns c = value_has_rising_keys

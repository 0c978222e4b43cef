use Rattle.tor_bencode.proofs.ProvedLaws.{pairs_by_their_values}
use Rattle.tor_bencode.proofs.laws.pairs_by_their_values.Goals as goal

pub returns : goal.returns
returns c = pairs_by_their_values

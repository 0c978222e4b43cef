use Rattle.tor_bencode.proofs.ProvedLaws.{no_spelling_begins_another}
use Rattle.tor_bencode.proofs.laws.no_spelling_begins_another.Goals as goal

pub returns : goal.returns
returns c = no_spelling_begins_another

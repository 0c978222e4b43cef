use Rattle.tor_bencode.proofs.ProvedLaws.{lawful_within_more, items_lawful_within_more, pairs_lawful_within_more}
use Rattle.tor_bencode.proofs.laws.lawful_within_more.Goals as goal

pub returns : goal.returns
returns c = record { value = lawful_within_more; items = items_lawful_within_more; pairs = pairs_lawful_within_more }

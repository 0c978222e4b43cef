use Rattle.tor_bencode.proofs.ProvedLaws.{no_items_are_lawful, items_are_lawful, no_pairs_are_lawful, pairs_are_lawful}
use Rattle.tor_bencode.proofs.laws.lawful_one_by_one.Goals as goal

pub returns : goal.returns
returns c = record {
  no_items = no_items_are_lawful;
  item = items_are_lawful;
  no_pairs = no_pairs_are_lawful;
  pair = pairs_are_lawful;
}

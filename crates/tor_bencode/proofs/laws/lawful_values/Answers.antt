use Rattle.tor_bencode.proofs.ProvedLaws.{integer_is_lawful, string_is_lawful, list_is_lawful, dictionary_is_lawful}
use Rattle.tor_bencode.proofs.laws.lawful_values.Goals as goal

pub returns : goal.returns
returns c = record {
  integer = integer_is_lawful;
  string = string_is_lawful;
  list = list_is_lawful;
  dictionary = dictionary_is_lawful;
}

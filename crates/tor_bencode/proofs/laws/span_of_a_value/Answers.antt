use Rattle.tor_bencode.proofs.ProvedLaws.{span_of_a_value, no_span_no_value}
use Rattle.tor_bencode.proofs.laws.span_of_a_value.Goals as goal

pub returns : goal.returns
returns c = record { spelled = span_of_a_value; none = no_span_no_value }

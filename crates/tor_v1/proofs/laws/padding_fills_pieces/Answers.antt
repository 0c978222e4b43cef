use Rattle.tor_v1.proofs.ProvedLaws.{no_padding, whole_with_padding}
use Rattle.tor_v1.proofs.laws.padding_fills_pieces.Goals as goal

pub returns : goal.returns
returns c = record { whole = whole_with_padding; none = no_padding }

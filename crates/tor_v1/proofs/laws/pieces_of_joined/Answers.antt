use Rattle.tor_v1.proofs.ProvedLaws.{pieces-append}
use Rattle.tor_v1.proofs.laws.pieces_of_joined.Goals as goal

pub returns : goal.returns
returns c = λ piece_length count whole rest pos long. pieces-append piece_length pos count whole rest long

use Rattle.tor_view.proofs.BytesOfPieces.{pieces_have_bytes}
use Rattle.tor_view.proofs.laws.pieces_have_their_bytes.Goals as goal

pub returns : goal.returns
returns c = pieces_have_bytes

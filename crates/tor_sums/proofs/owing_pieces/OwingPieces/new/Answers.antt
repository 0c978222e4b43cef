-- nothing was taken
use Rattle.std.proofs.Common.{arith}
use Rattle.tor_sums.proofs.OwedPieces.{pieces_none}
use Rattle.tor_sums.proofs.owing_pieces.OwingPieces.new.Goals as goal

pub returns : goal.returns
returns c =
    pieces_none c.args.piece_length (omega (arith, c.requires.0)) _ c.in_ok-sums.ensures.taken c.in_ok-sums.ensures.none

-- the ranges up to the piece
use Rattle.tor_view.proofs.Names.{◌-◌}
use Rattle.tor_view.proofs.RangeSteps.{AreUpToPiece}
use Rattle.tor_view.proofs.file_pieces.bad_ranges.Given as goal

abbrev pub invariant-pieces : goal.invariant-pieces
invariant-pieces l =
    AreUpToPiece l.piece_length l.span l.bits (l.piece - l.span.first) l.begun l.from l.room l.ranges.items

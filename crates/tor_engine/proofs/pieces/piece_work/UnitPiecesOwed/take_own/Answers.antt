-- its pieces get their own
use Rattle.std.proofs.Common.{List, ap, sym, ◌∙◌}
use Rattle.tor_engine.specs.declared.pieces.piece_hash.FoundPiece.{FoundPiece}
use Rattle.tor_engine.specs.declared.pieces.piece_work.UnitPieces.{UnitPieces}
use Rattle.tor_engine.specs.steps.Pieces.{owed_to_piece, paid_piece}
use Rattle.tor_engine.proofs.Unsummed.{paid_front}
use Rattle.tor_engine.proofs.pieces.piece_work.UnitPiecesOwed.take_own.Goals as goal

abbrev with_founds : UnitPieces → List FoundPiece → UnitPieces
with_founds one founds = record { unit = one.unit; pieces = founds }

pub returns-clause-paid : goal.returns-clause-paid
returns-clause-paid c =
    let one = c.args.self.now in
    ap (with_founds one)
    (c.take_own.ensures.paid ∙ sym (paid_front owed_to_piece paid_piece one.pieces c.args.sums.now))

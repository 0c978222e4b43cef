-- what is found of the unit's pieces
use Rattle.std.proofs.Common.{◌++◌, List, subst, sym}
use Rattle.tor_plan.specs.Pieces.{pieces_of_unit}
use Rattle.tor_sums.specs.steps.Each.{OweEach}
use Rattle.tor_engine.specs.declared.pieces.piece_hash.FoundPiece.{FoundPiece}
use Rattle.tor_engine.specs.steps.Unsummed.{FindsPiece, OwePieces}
use Rattle.tor_sums.proofs.PaidSums.{owe_next}
use Rattle.tor_engine.proofs.pieces.piece_work.PieceWorkUnitWork.hash.Goals as goal

pub find_pieces_of-requires-clause-owing : goal.find_pieces_of-requires-clause-owing
find_pieces_of-requires-clause-owing g c = (c.requires.stands.2.0, c.requires.stands.2.1)

pub returns-clause-stands : goal.returns-clause-stands
returns-clause-stands g c = λ units before stands.
    let work = c.args.self.now in
    let is_steady = g.S.FileBytes.is_steady work.source.now in
    let told = work.known.now.lengths.items in
    let pieces = pieces_of_unit work.plan.now.piece_length c.args.unit.now in
    let found = c.in-Ok.ensures.owing stands.0 stands.1 in
    let each = subst (λ (founds : List FoundPiece).
    OweEach (FindsPiece is_steady work.plan.now told) pieces founds found.0) (sym c.in_ok-pieces.ensures) found.1 in (
      stands.0 ++ found.0,
      found.2,
      owe_next (OwePieces is_steady work.plan.now told) units before stands.0 c.args.unit.now _ found.0 stands.2
          each,
    )

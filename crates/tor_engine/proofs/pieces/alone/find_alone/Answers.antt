-- all that is owed is the piece's
use Rattle.std.proofs.Common.{◌≡◌, [], ap, arith, length, subst, sym, take, ◌∙◌}
use Rattle.std.proofs.lemmas.List.{take_all}
use Rattle.tor_engine.specs.declared.pieces.piece_hash.FoundPiece.{FoundPiece}
use Rattle.tor_engine.specs.steps.Pieces.{owed_to_piece, paid_piece}
use Rattle.tor_engine.specs.steps.Unsummed.{FindsPiece}
use Rattle.tor_engine.proofs.PaidAlone.{piece_alone}
use Rattle.tor_engine.proofs.pieces.alone.find_alone.Goals as goal

pub settle-requires-clause-owing : goal.settle-requires-clause-owing
settle-requires-clause-owing g c =
    let read = c.in-Ok.ensures.owing [] c.requires.owing in
    (read.0, read.2)

pub take_own-requires : goal.take_own-requires
take_own-requires g c =
    let read = c.in-Ok.ensures.owing [] c.requires.owing in
    let same = ap length
    (c.deref.ensures.value ∙ c.in_ok-owed.ensures.sums read.0 read.2) in
    omega (arith, same, read.1.long)

pub returns-clause-found : goal.returns-clause-found
returns-clause-found g c =
    let plan = c.args.plan.now in
    let is_steady = g.S.FileBytes.is_steady c.args.source.now in
    let told = c.args.known.now.lengths.items in
    let piece = c.args.piece.now in
    let found = c.in-Ok.found in
    let read = c.in-Ok.ensures.owing [] c.requires.owing in
    let same = c.deref.ensures.value ∙ c.in_ok-owed.ensures.sums read.0 read.2 in
    let own : take (owed_to_piece found) c.deref.result.now ≡ read.0 =
    ap (take (owed_to_piece found)) same ∙ take_all (owed_to_piece found) read.0 (omega (arith, read.1.long)) in
    subst (λ (one : FoundPiece). FindsPiece is_steady plan told piece one [])
    (sym (c.take_own.ensures.paid ∙ ap (paid_piece found) own))
    (piece_alone is_steady plan told piece found read.0 read.1)

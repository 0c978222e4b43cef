-- the tree over the one part of a piece
use Rattle.std.proofs.Common.{Some, get_or, ap, ◌∙◌}
use Rattle.tor_merkle.specs.PieceHash.{merkle_hash}
use Rattle.tor_engine.proofs.PieceNodes.{hash_of_piece}
use Rattle.tor_engine.proofs.pieces.piece_hash.merkle_hash_of_piece.Goals as goal

pub returns : goal.returns
returns c = λ contents are of.
    let tree = c.in-Some.tree in
    let first = c.in-Some-first.part.now in
    hash_of_piece c.args.plan.now c.args.piece.now c.requires.unit contents tree first c.args.tree c.merkle_hash.result
    c.in-Some.is of are
    (λ d. c.in-Some-first.ensures.item.3.1 d ∙ ap (λ parts. get_or parts 0 d) c.as_slice.ensures)
    (λ some fits. c.merkle_hash.ensures some fits
    ∙ ap (λ lengths. Some (merkle_hash tree.piece_length (get_or lengths first.file 0) tree.bytes)) c.lengths.ensures)

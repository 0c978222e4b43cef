-- one unit more, and room for its sums
use Rattle.std.proofs.Common.{◌++◌, ◌+◌, ◌*◌, ◌∙◌, [], ap, arith, length, length-append, sym}
use Rattle.std.specs.Int.{div_ceil}
use Rattle.tor_tree.specs.declared.kinds.Kind.TheVariants.{V1}
use Rattle.tor_v1.specs.Piece.{zeros}
use Rattle.tor_v1.proofs.ProvedLaws.{length_of_zeros}
use Rattle.tor_sums.proofs.OwedPieces.{pieces_more}
use Rattle.tor_sums.proofs.owing_pieces.OwingPieces.add_unit.Goals as goal

pub returns-clause-room : goal.returns-clause-room
returns-clause-room c =
    let p = c.args.piece_length in
    let bytes = c.args.bytes.now in
    let long = length-append bytes (zeros c.args.count)
    ∙ ap (λ n. length bytes + n) (length_of_zeros c.args.count) in
    let sums = c.length_of_sums.ensures p (bytes ++ zeros c.args.count) ∙ ap (λ n. 20 * div_ceil n p) long in
    sym c.in_ok-room.room.ok.0 ∙ c.in_ok-room.ensures.length ∙ ap (λ n. 20 * n) c.div_ceil-pieces.ensures ∙ sym sums

pub returns-clause-owes : goal.returns-clause-owes
returns-clause-owes c = λ owed owes.
    let p = c.args.piece_length in
    let bytes = c.args.bytes.now in
    let fed = c.in_ok-feed_pieces.ensures V1 p [] owes.joined owes.taken in
    let all = c.in_ok-feed_zeros.ensures.taken V1 p [] (owes.joined ++ bytes) fed in
    pieces_more p (omega (arith, c.requires.pieces.0)) owed bytes c.args.count c.args.self.now _ owes c.requires.whole
    (c.in_ok-reserve.ensures.keeps V1 p [] ((owes.joined ++ bytes) ++ zeros c.args.count) all)
    c.in_ok-reserve.ensures.room

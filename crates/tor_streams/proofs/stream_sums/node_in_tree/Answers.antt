-- the roots of its pieces are those of the chunk
use Rattle.std.proofs.Common.{length, arith, ap}
use Rattle.tor_merkle.proofs.ProvedLaws.{some_piece_root}
use Rattle.tor_streams.proofs.stream_sums.node_in_tree.Goals as goal

pub node_over_pieces-requires-clause-some : goal.node_over_pieces-requires-clause-some
node_over_pieces-requires-clause-some c =
    let run = c.requires.one.0 in
    let is = c.requires.one.1 in
    let some = some_piece_root run c.args.piece_length c.requires.pieces (omega (arith, is.some, is.counted)) in
    omega (arith, some, ap length (c.in_ok-layer.ensures run is))

pub node_over_pieces-requires-clause-room : goal.node_over_pieces-requires-clause-room
node_over_pieces-requires-clause-room c =
    let run = c.requires.one.0 in
    let is = c.requires.one.1 in
    let room = c.requires.room in (
      run,
      (room.0, room.1, omega (arith, is.counted, room.2)),
      c.in_ok-layer.ensures run is,
    )

pub returns : goal.returns
returns c = λ run is.
    let room = c.requires.room in
    c.node_over_pieces.ensures run (room.0, room.1, omega (arith, is.counted, room.2)) (c.in_ok-layer.ensures run is)

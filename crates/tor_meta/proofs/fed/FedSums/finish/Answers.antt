-- The tree of what was fed, and the pieces of that and the zeros after it.
use Rattle.std.proofs.Common.{◌++◌}
use Rattle.tor_v1.specs.Piece.{zeros}
use Rattle.tor_meta.proofs.fed.FedSums.finish.Goals as goal

pub returns : goal.returns
returns c = λ kind piece_length bytes fed.
    let hashed = c.finish-tree.ensures kind piece_length bytes (bytes ++ zeros c.args.tail)
    (c.in_ok-feed_zeros.ensures.fed kind piece_length bytes bytes fed.content) in
    record {
      roots = λ e. (c.in_ok-roots.ensures piece_length bytes (rw e at hashed.tree)).0;
      layers = λ e. (c.in_ok-roots.ensures piece_length bytes (rw e at hashed.tree)).1;
      pieces = λ e. rw e at hashed.pieces;
    }

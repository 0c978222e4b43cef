-- the order's numbers are those that streams can be cut by
use Rattle.tor_meta.proofs.Refused.{stream_numbers}
use Rattle.tor_meta.proofs.StreamSums.{plan_pieces}
use Rattle.tor_meta.proofs.from_streams.sums_of.Goals as goal

pub hash_streams-requires-clause-cut : goal.hash_streams-requires-clause-cut
hash_streams-requires-clause-cut g c κs within =
    let order = c.args.order.now in
    let numbers = stream_numbers order c.requires.accepted in record {
      pieces = plan_pieces order.kind order.piece_length
          ((c.piece_length_bounds.ensures order.piece_length).0 numbers.0);
      is_span = numbers.2;
      small = numbers.3;
    }

pub hash_streams-requires-clause-workers : goal.hash_streams-requires-clause-workers
hash_streams-requires-clause-workers g c κs within =
    c.workers-workers.ensures.allowed (stream_numbers c.args.order.now c.requires.accepted).1

-- one more was hashed
use Rattle.tor_streams.proofs.OwedChunks.{owed_more}
use Rattle.tor_streams.proofs.stream_worker.StreamWorker.add.Goals as goal

pub returns-in-Ok-push-clause-sums : goal.returns-in-Ok-push-clause-sums
returns-in-Ok-push-clause-sums c = λ none. (
  none,
  λ chunks are.
      let own = c.in-Ok.ensures are.owed are.owes in
      owed_more c.args.chunking chunks c.args.chunk.now c.args.self.now.sums.items _ c.args.self.now.owing _
      c.in-Ok.sums are own.0 own.1 own.2 c.in-Ok-push.ensures.items,
)

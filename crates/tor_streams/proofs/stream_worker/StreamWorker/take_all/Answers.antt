-- one chunk more, or the mark
use Rattle.std.proofs.Common.{refl}
use Rattle.tor_streams.specs.declared.stream_worker.StreamWorker.{StreamWorker}
use Rattle.tor_streams.proofs.StreamWorkers.{worker_done, worker_more}
use Rattle.tor_streams.proofs.stream_worker.StreamWorker.take_all.Goals as goal

pub chunks-preserved : goal.chunks-preserved
chunks-preserved g c = (
  tt,
  tt,
  λ feeder is.
      let old = c.chunks.self in
      let mid : StreamWorker = record old { taker = c.take.new.self } in
      let new : StreamWorker = record c.add.new.self { give_back = c.give.new.self } in
      worker_more c.args.chunking feeder old mid new c.in-Some-take.chunk
      (c.chunks.invariant.2 feeder is) c.take.ensures.lane c.in-Some-take.ensures.some refl refl refl
      c.add.ensures.taker c.add.ensures.sums,
)

pub returns-in-None-take : goal.returns-in-None-take
returns-in-None-take g c = λ feeder is.
    let old = c.chunks.self in
    let new : StreamWorker = record old { taker = c.take.new.self } in
    let none = c.in-None-take.ensures.none in
    worker_done c.args.chunking feeder old new (c.chunks.invariant.2 feeder is) c.take.ensures.lane
    none.0 none.1 refl refl refl

-- what was taken so far was hashed
use Rattle.tor_lane.specs.declared.feeder.Feeder.{Feeder}
use Rattle.tor_streams.specs.steps.StreamWorkers.{IsWorkerOf}
use Rattle.tor_streams.proofs.stream_worker.StreamWorker.take_all.Given as goal

abbrev pub invariant-chunks : goal.invariant-chunks
invariant-chunks g l =
    (goal.iterator-chunks g).can_next l.iterator' × (goal.iterator-chunks g).is_finite l.iterator'
    × ((feeder : Feeder) → IsWorkerOf l.chunking feeder l.fn.self → IsWorkerOf l.chunking feeder l.self)

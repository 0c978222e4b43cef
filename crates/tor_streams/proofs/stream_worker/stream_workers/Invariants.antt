-- a worker for each taker so far
use Rattle.std.proofs.Common.{◌≡◌, ◌++◌, [], length}
use Rattle.std.specs.List.{AllByRecursion}
use Rattle.std.specs.Vec.Iter.{into_iter_items, into_iter_len}
use Rattle.tor_lane.specs.Lane.{IsTakerOf, taken_by}
use Rattle.tor_lane.specs.declared.feeder.Feeder.{Feeder}
use Rattle.tor_streams.specs.declared.chunking.Chunking.{Chunking}
use Rattle.tor_streams.specs.steps.StreamWorkers.{IsWorkerOf}
use Rattle.tor_streams.proofs.stream_worker.stream_workers.Given as goal

abbrev pub invariant-takers : goal.invariant-takers
invariant-takers l = record {
  items : l.yielded ++ into_iter_items l.taker-iterator ≡ l.fn.takers.items;
  left : into_iter_len l.taker-iterator ≡ length (into_iter_items l.taker-iterator);
  all : length l.workers.items ≡ length l.yielded;
  each : (chunking : Chunking) (feeder : Feeder) →
      AllByRecursion (λ taker. IsTakerOf feeder taker × (taken_by taker ≡ [])) l.yielded →
      AllByRecursion (IsWorkerOf chunking feeder) l.workers.items;
}

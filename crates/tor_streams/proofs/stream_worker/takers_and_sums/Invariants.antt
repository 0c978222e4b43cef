-- the takers and the sums of the workers so far
use Rattle.std.proofs.Common.{◌≡◌, ◌++◌, length, map}
use Rattle.std.specs.List.{AllByRecursion, flat_map}
use Rattle.std.specs.Vec.Iter.{into_iter_items, into_iter_len}
use Rattle.tor_lane.specs.Lane.{IsAtMark, IsTakerOf, taken_by}
use Rattle.tor_lane.specs.declared.feeder.Feeder.{Feeder}
use Rattle.tor_streams.specs.declared.chunking.Chunking.{Chunking}
use Rattle.tor_streams.specs.steps.Cuts.{facts_of, facts_of_chunk}
use Rattle.tor_streams.specs.steps.StreamWorkers.{IsDoneOf}
use Rattle.tor_streams.proofs.stream_worker.takers_and_sums.Given as goal

abbrev pub invariant-workers : goal.invariant-workers
invariant-workers l = record {
  items : l.yielded ++ into_iter_items l.worker-iterator ≡ l.fn.workers.items;
  left : into_iter_len l.worker-iterator ≡ length (into_iter_items l.worker-iterator);
  count : length l.takers.items ≡ length l.yielded;
  done : (chunking : Chunking) (feeder : Feeder) →
      AllByRecursion (IsDoneOf chunking feeder) l.yielded →
      AllByRecursion (λ t. IsTakerOf feeder t × IsAtMark t) l.takers.items
      × (map facts_of l.all.items
      ≡ map (facts_of_chunk chunking) (flat_map taken_by l.takers.items));
}

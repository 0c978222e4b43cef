-- The workers of a lane, and what they made of the chunks that they took. Only private clauses cite these.
use Rattle.std.specs.Prelude.{◌≡◌, false, All, List, length, map}
use Rattle.std.specs.List.{AllByRecursion, flat_map}
use Rattle.tor_lane.specs.Lane.{IsAtMark, IsTakerOf, taken_by, takers_of}
use Rattle.tor_lane.specs.declared.feeder.Feeder.{Feeder}
use Rattle.tor_lane.specs.declared.taker.Taker.{Taker}
use Rattle.tor_streams.specs.declared.chunking.Chunking.{Chunking}
use Rattle.tor_streams.specs.declared.stream_worker.StreamWorker.{StreamWorker}
use Rattle.tor_sums.specs.declared.unit_sums.UnitSums.{UnitSums}
use Rattle.tor_streams.specs.steps.Cuts.{facts_of, facts_of_chunk}
use Rattle.tor_streams.specs.steps.OwedChunks.{AreOwed}

-- a worker of the feeder's lane; where no memory was refused it has the sums of what it took, in that order, but for
-- those that are owed
pub record IsWorkerOf (chunking : Chunking) (feeder : Feeder) (worker : StreamWorker) : Type 0 where
  pub taker : IsTakerOf feeder worker.taker
  pub sums : worker.is_refused ≡ false
      → AreOwed chunking (taken_by worker.taker) worker.sums.items worker.owing

-- it has taken its mark
pub record IsDoneOf (chunking : Chunking) (feeder : Feeder) (worker : StreamWorker) : Type 0 where
  pub is : IsWorkerOf chunking feeder worker
  pub mark : IsAtMark worker.taker

-- the same workers, each of which took until its mark
pub record TookAll (chunking : Chunking) (old new : List StreamWorker) : Type 0 where
  pub done : (feeder : Feeder) → AllByRecursion (IsWorkerOf chunking feeder) old
      → AllByRecursion (IsDoneOf chunking feeder) new
  pub all : length new ≡ length old

-- all workers of the lane
pub record AreWorkers (chunking : Chunking) (feeder : Feeder) (workers : List StreamWorker) : Type 0 where
  pub each : AllByRecursion (IsWorkerOf chunking feeder) workers
  pub all : length workers ≡ takers_of feeder

-- and each is done
pub record AreDone (chunking : Chunking) (feeder : Feeder) (workers : List StreamWorker) : Type 0 where
  pub each : AllByRecursion (IsDoneOf chunking feeder) workers
  pub all : length workers ≡ takers_of feeder

-- all takers of the lane, each at its mark, and the sums of what they took
pub record AreParted (chunking : Chunking) (feeder : Feeder) (takers : List Taker) (sums : List UnitSums)
    : Type 0 where
  pub each : All (λ taker. IsTakerOf feeder taker × IsAtMark taker) takers
  pub all : length takers ≡ takers_of feeder
  pub summed : map facts_of sums ≡ map (facts_of_chunk chunking) (flat_map taken_by takers)

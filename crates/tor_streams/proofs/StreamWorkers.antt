-- The workers of a lane, while they take, and once they are done.
use Rattle.std.proofs.Common.{◌≡◌, false, List, [], ◌∷◌, ◌++◌, length, arith, get_or, set, ap, sym, ◌∙◌}
use Rattle.std.proofs.Common.{length-append, refl, subst}
use Rattle.std.specs.Prelude.{All}
use Rattle.std.proofs.lemmas.List.Elements.{recursion_from_All}
use Rattle.std.specs.List.{AllByRecursion}
use Rattle.tor_lane.specs.Lane.{FeedsLaneOf, IsAtMark, IsTakerOf, TakesFromLaneOf, taken_by}
use Rattle.tor_lane.specs.declared.chunk.Chunk.{Chunk}
use Rattle.tor_lane.specs.declared.feeder.Feeder.{Feeder}
use Rattle.tor_lane.specs.declared.taker.Taker.{Taker}
use Rattle.tor_streams.specs.declared.chunking.Chunking.{Chunking}
use Rattle.tor_streams.specs.declared.stream_worker.StreamWorker.{StreamWorker}
use Rattle.tor_streams.specs.steps.OwedChunks.{AreOwed}
use Rattle.tor_streams.specs.steps.StreamWorkers.{AreDone, AreWorkers, IsDoneOf, IsWorkerOf, TookAll}

-- ---- lists

module _ {X : Type 0} (P : X → Type 0) where
  pub all_joined : (xs ys : List X) → AllByRecursion P xs → AllByRecursion P ys → AllByRecursion P (xs ++ ys)
  all_joined [] ys first rest = rest
  all_joined (x ∷ xs) ys first rest = (first.0, all_joined xs ys first.1 rest)

  pub all_front : (xs ys : List X) → AllByRecursion P (xs ++ ys) → AllByRecursion P xs
  all_front [] ys all = tt
  all_front (x ∷ xs) ys all = (all.0, all_front xs ys all.1)

  pub all_back : (xs ys : List X) → AllByRecursion P (xs ++ ys) → AllByRecursion P ys
  all_back [] ys all = all
  all_back (x ∷ xs) ys all = all_back xs ys all.1

-- the only one was changed
pub one_set : {X : Type 0} (P Q : X → Type 0) (xs : List X) (x y : X) → length xs ≡ 1
    → AllByRecursion P xs → (P (get_or xs 0 x) → Q y) → AllByRecursion Q (set xs 0 y)
one_set P Q [] x y long all step = absurd (omega (arith, long))
one_set P Q (a ∷ []) x y long all step = (step all.0, tt)
one_set P Q (a ∷ b ∷ xs) x y long all step = absurd (omega (arith, long))

-- of no element, whatever is asked
pub all_of_none : {X : Type 0} (P : X → Type 0) (xs : List X) → length xs ≡ 0 → AllByRecursion P xs
all_of_none P [] none = tt
all_of_none P (x ∷ xs) none = absurd (omega (arith, none))

pub took_none : (chunking : Chunking) (xs : List StreamWorker) → length xs ≡ 0 → TookAll chunking xs xs
took_none chunking xs none = record { done = λ feeder all. all_of_none _ xs none; all = refl }

-- one after the other
pub took_both : (chunking : Chunking) (xs ys front back : List StreamWorker) → TookAll chunking xs front
    → TookAll chunking ys back → TookAll chunking (xs ++ ys) (front ++ back)
took_both chunking xs ys front back one other = record {
  done = λ feeder all.
      let P = IsWorkerOf chunking feeder in
      all_joined (IsDoneOf chunking feeder) front back (one.done feeder (all_front P xs ys all))
      (other.done feeder (all_back P xs ys all));
  all = omega (arith, one.all, other.all, length-append xs ys, length-append front back);
}

-- all workers of a lane
pub took_done : (chunking : Chunking) (feeder : Feeder) (old new : List StreamWorker) → AreWorkers chunking feeder old
    → TookAll chunking old new → AreDone chunking feeder new
took_done chunking feeder old new are took = record { each = took.done feeder are.each; all = took.all ∙ are.all }

-- takers of a lane that is new
pub fresh_takers : (feeder : Feeder) (takers : List Taker)
    → All (λ t. IsTakerOf feeder t × (taken_by t ≡ []) × ¬ IsAtMark t) takers
    → AllByRecursion (λ t. IsTakerOf feeder t × (taken_by t ≡ [])) takers
fresh_takers feeder takers all =
    recursion_from_All (λ t. IsTakerOf feeder t × (taken_by t ≡ [])) takers
    (λ k d lt. let is = all k d lt in (is.0, is.1))

module _ (chunking : Chunking) (feeder : Feeder) where
  -- one chunk more was taken, and hashed where no memory was refused
  pub worker_more : (old mid new : StreamWorker) (chunk : Chunk) → IsWorkerOf chunking feeder old
      → TakesFromLaneOf old.taker mid.taker → taken_by mid.taker ≡ taken_by old.taker ++ chunk ∷ []
      → mid.sums ≡ old.sums → mid.owing ≡ old.owing → mid.is_refused ≡ old.is_refused → new.taker ≡ mid.taker
      → (new.is_refused ≡ false → (mid.is_refused ≡ false)
      × ((chunks : List Chunk) → AreOwed chunking chunks mid.sums.items mid.owing
      → AreOwed chunking (chunks ++ chunk ∷ []) new.sums.items new.owing))
      → IsWorkerOf chunking feeder new
  worker_more old mid new chunk is lane took sums owing refused same hashed = record {
    taker = subst (IsTakerOf feeder) (sym same) (lane ∙ is.taker);
    sums = λ none.
        let more = hashed none in
        let chunks = taken_by old.taker in
        let was = is.sums (sym refused ∙ more.0) in
        let all : chunks ++ chunk ∷ [] ≡ taken_by new.taker = sym (ap taken_by same ∙ took) in
        subst (λ (taken : List Chunk). AreOwed chunking taken new.sums.items new.owing) all
        (more.1 chunks (subst (λ s. AreOwed chunking chunks s.items mid.owing) (sym sums)
        (subst (AreOwed chunking chunks old.sums.items) (sym owing) was)));
  }

  -- it is at its mark
  pub worker_done : (old new : StreamWorker) → IsWorkerOf chunking feeder old → TakesFromLaneOf old.taker new.taker
      → IsAtMark new.taker → taken_by new.taker ≡ taken_by old.taker → new.sums ≡ old.sums → new.owing ≡ old.owing
      → new.is_refused ≡ old.is_refused → IsDoneOf chunking feeder new
  worker_done old new is lane mark took sums owing refused = record {
    is = record {
      taker = lane ∙ is.taker;
      sums = λ none.
          let was = is.sums (sym refused ∙ none) in
          let chunks = taken_by old.taker in
          subst (λ (taken : List Chunk). AreOwed chunking taken new.sums.items new.owing) (sym took)
          (subst (λ s. AreOwed chunking chunks s.items new.owing) (sym sums)
          (subst (AreOwed chunking chunks old.sums.items) (sym owing) was));
    };
    mark = mark;
  }

  -- another feeder value of the same lane
  module _ (other : Feeder) (lane : FeedsLaneOf feeder other) where
    same_worker : (worker : StreamWorker) → IsDoneOf chunking feeder worker → IsDoneOf chunking other worker
    same_worker worker is = record {
      is = record { taker = is.is.taker ∙ sym lane.0; sums = is.is.sums };
      mark = is.mark;
    }

    same_workers : (workers : List StreamWorker) → AllByRecursion (IsDoneOf chunking feeder) workers
        → AllByRecursion (IsDoneOf chunking other) workers
    same_workers [] all = tt
    same_workers (worker ∷ workers) all = (same_worker worker all.0, same_workers workers all.1)

    pub same_lane : (workers : List StreamWorker) → AreDone chunking feeder workers → AreDone chunking other workers
    same_lane workers are = record { each = same_workers workers are.each; all = are.all ∙ sym lane.1 }

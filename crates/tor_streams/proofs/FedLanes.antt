-- What the threads of a lane leave, and what it sums up to.
use Rattle.std.proofs.Common.{◌≡◌, ◌≤◌, ◌∙◌, ℕ, Bool, List, length, Result, Ok, Err, IfOk, Vec, Option, ap, false}
use Rattle.std.proofs.Common.{refl, subst, sym, true}
use Rattle.std.specs.Prelude.{IfErr, IsOk, IsOkAnd}
use Rattle.std.specs.List.{AllByRecursion, list_any}
use Rattle.std.specs.declared.alloc.Global.{Global}
use Rattle.tor_lane.specs.Lane.{FeedsLaneOf, IsEnded, put_by}
use Rattle.tor_lane.specs.declared.chunk.Chunk.{Chunk}
use Rattle.tor_lane.specs.declared.feeder.Feeder.{Feeder}
use Rattle.tor_merkle.specs.declared.TheConstants.{MAX_LENGTH}
use Rattle.tor_tree.specs.declared.kinds.Kind.{Kind}
use Rattle.tor_streams.specs.Streams.{AreSumsOfContents, GiveContents, IsFaultOfReaders}
use Rattle.tor_sums.specs.declared.errors.EngineError.{EngineError}
use Rattle.tor_sums.specs.declared.errors.EngineError.TheVariants.{Resources}
use Rattle.tor_streams.specs.declared.chunking.Chunking.{Chunking}
use Rattle.tor_streams.specs.declared.feeding.Fed.{Fed}
use Rattle.tor_sums.specs.declared.sums.Sums.{Sums}
use Rattle.tor_streams.specs.steps.Cuts.{PutsContents, told_of}
use Rattle.tor_streams.specs.declared.stream_worker.StreamWorker.{StreamWorker}
use Rattle.tor_streams.specs.steps.Fed.{AnswersFed, IsFed, IsFedByReaders, IsFedSome, PutsGiven}
use Rattle.tor_streams.specs.steps.StreamWorkers.{AreDone}
use Rattle.tor_streams.proofs.StreamWorkers.{same_lane}

-- contents of which this holds, none too long, sum up to this
abbrev pub SumUp : Kind → Bool → ℕ → (List (List ℕ) → Type 0) → Sums → Type 0
SumUp kind tail p Gives sums =
    (contents : List (List ℕ)) × Gives contents × AllByRecursion (λ content. length content ≤ MAX_LENGTH) contents
    × AreSumsOfContents kind tail p contents sums

module _ {F : Type 0} (chunking : Chunking) (Gives : List (List ℕ) → Type 0) (Stops : F → Type 0) where
  abbrev Read : Type 0
  Read = Result (Vec ℕ Global) F

  abbrev Puts : Feeder → Read → Type 0
  Puts feeder read = IfOk read (λ lengths. PutsGiven chunking Gives lengths.items (put_by feeder))

  -- the marks come after all that was put
  pub is_fed : (first mid : Feeder) (read : Read) (fed : Fed F) → FeedsLaneOf first mid
      → FeedsLaneOf mid fed.feeder → IsEnded fed.feeder → put_by fed.feeder ≡ put_by mid → fed.read ≡ read
      → AreDone chunking first fed.workers.items → Puts mid read → IfErr read Stops
      → IsFed chunking Gives Stops fed
  is_fed first mid read fed lane later is_end put same done puts stops = record {
    done = same_lane chunking first fed.feeder (later.0 ∙ lane.0, later.1 ∙ lane.1) fed.workers.items done;
    ended = is_end;
    put = subst (Puts fed.feeder) (sym same)
        (subst (λ (chunks : List Chunk). IfOk read (λ lengths. PutsGiven chunking Gives lengths.items chunks))
        (sym put) puts);
    stopped = subst (λ (r : Read). IfErr r Stops) (sym same) stops;
  }

  module _ (fed : Fed F) (is : IsFed chunking Gives Stops fed) where
    pub some_fed : IsFedSome chunking fed
    some_fed = record { done = is.done; ended = is.ended; put = by_read fed.read is.put }
      where
        by_read : (read : Read) → Puts fed.feeder read → IfOk read (λ lengths. (contents : List (List ℕ))
            × PutsContents chunking contents lengths.items (put_by fed.feeder))
        by_read (Ok lengths) put = (put.0, put.2)
        by_read (Err fault) put = tt

    pub was_given : IsOk fed.read → (contents : List (List ℕ)) × Gives contents
        × AllByRecursion (λ content. length content ≤ MAX_LENGTH) contents
    was_given = by_read fed.read is.put
      where
        by_read : (read : Read) → Puts fed.feeder read → IsOk read → (contents : List (List ℕ)) × Gives contents
            × AllByRecursion (λ content. length content ≤ MAX_LENGTH) contents
        by_read (Ok lengths) put all = (put.0, put.1, put.2.small)
        by_read (Err fault) put all = cc

    -- what is wanted of the answer, if it holds of the sums of any contents of which `Gives` holds
    pub summed : (kind : Kind) (tail : Bool) (p : ℕ) → told_of chunking ≡ (kind, tail, p) → (Wanted : Sums → Type 0)
        → ((sums : Sums) → SumUp kind tail p Gives sums → Wanted sums) → (answer : Result Sums F)
        → AnswersFed chunking fed answer → IfOk answer Wanted
    summed kind tail p told Wanted wanted (Err fault) same = tt
    summed kind tail p told Wanted wanted (Ok sums) sum = by_read fed.read is.put sum
      where
        by_read : (read : Read) → Puts fed.feeder read → IsOkAnd read (λ lengths. (contents : List (List ℕ))
            → PutsContents chunking contents lengths.items (put_by fed.feeder)
            → AreSumsOfContents chunking.kind chunking.tail chunking.piece_length contents sums) → Wanted sums
        by_read (Ok lengths) put sum =
            let S : Kind × Bool × ℕ → Type 0 = λ q. AreSumsOfContents q.0 q.1 q.2 put.0 sums in
            wanted sums (put.0, put.1, put.2.small, subst S told (sum put.0 put.2))
        by_read (Err fault) put sum = absurd sum

    pub stopped : (answer : Result Sums F) → AnswersFed chunking fed answer → IfErr answer Stops
    stopped (Err fault) same = subst (λ (read : Read). IfErr read Stops) same is.stopped
    stopped (Ok sums) sum = tt

-- one of two, by a test
chosen : {X : Type 0} (P : X → Type 0) (x y z : X) (test : Bool) → (test ≡ true → z ≡ x) → (test ≡ false → z ≡ y)
    → P x → P y → P z
chosen P x y z true one other is_one is_other = subst P (sym (one refl)) is_one
chosen P x y z false one other is_one is_other = subst P (sym (other refl)) is_other

-- where memory was refused to a worker, this is told
pub fed_by_readers : {F : Type 0} (chunking : Chunking) (known : List (Option (List ℕ)))
    (fed new : Fed (EngineError F)) → IsFed chunking (GiveContents known) (IsFaultOfReaders known) fed
    → (list_any (λ worker. worker.is_refused) fed.workers.items ≡ true → new.read ≡ Err Resources)
    → (list_any (λ worker. worker.is_refused) fed.workers.items ≡ false → new.read ≡ fed.read)
    → new.feeder ≡ fed.feeder → new.workers ≡ fed.workers → IsFedByReaders chunking known new
fed_by_readers {F} chunking known fed new is refused read feeder workers =
    let Read : Type 0 = Result (Vec ℕ Global) (EngineError F) in
    let any : Bool = list_any (λ (worker : StreamWorker). worker.is_refused) fed.workers.items in
    let Put : Feeder → Read → Type 0 =
    λ f r. IfOk r (λ lengths. PutsGiven chunking (GiveContents known) lengths.items (put_by f)) in
    record {
      is = record {
        done = subst (λ (ws : Vec StreamWorker Global). AreDone chunking new.feeder ws.items) (sym workers)
            (subst (λ (f : Feeder). AreDone chunking f fed.workers.items) (sym feeder) is.done);
        ended = subst IsEnded (sym feeder) is.ended;
        put = subst (λ (f : Feeder). Put f new.read) (sym feeder)
            (chosen (Put fed.feeder) (Err Resources) fed.read new.read any refused read tt is.put);
        stopped = chosen (λ (r : Read). IfErr r (IsFaultOfReaders known)) (Err Resources) fed.read new.read any refused
            read tt is.stopped;
      };
      refused = λ told. refused
          (ap (λ (ws : Vec StreamWorker Global). list_any (λ (worker : StreamWorker). worker.is_refused) ws.items)
          (sym workers) ∙ told);
    }

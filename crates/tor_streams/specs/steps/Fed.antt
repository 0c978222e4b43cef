-- What the threads of a lane leave. Only private clauses cite these.
use Rattle.std.specs.Prelude.{◌≡◌, [], ◌∷◌, ℕ, List, Err, IfErr, IfOk, IsOkAnd, MatchResult}
use Rattle.std.specs.Prelude.{Option, Result, true}
use Rattle.std.specs.List.{list_any}
use Rattle.tor_lane.specs.Lane.{IsEnded, put_by}
use Rattle.tor_lane.specs.declared.chunk.Chunk.{Chunk}
use Rattle.tor_source.specs.Input.{EndsInput, ReadsAll, ReadsSome}
use Rattle.tor_source.specs.declared.input.InputFault.{InputFault}
use Rattle.tor_source.specs.declared.input.TheConstants.{MAX_INPUT_LENGTH}
use Rattle.tor_streams.specs.Streams.{AreSumsOfContents, GiveContents, IsFaultOfReaders}
use Rattle.tor_sums.specs.declared.errors.EngineError.{EngineError}
use Rattle.tor_sums.specs.declared.errors.EngineError.TheVariants.{Resources}
use Rattle.tor_sums.specs.declared.sums.Sums.{Sums}
use Rattle.tor_streams.specs.declared.chunking.Chunking.{Chunking}
use Rattle.tor_streams.specs.declared.feeding.Fed.{Fed}
use Rattle.tor_streams.specs.steps.Cuts.{PutsContents}
use Rattle.tor_streams.specs.steps.StreamWorkers.{AreDone}

-- a reader gave this one content, within the limit of an input, and has no more
abbrev pub GivesInput : Option (List ℕ) → Option (List ℕ) → List (List ℕ) → Type 0
GivesInput old new contents = (content : List ℕ) × (contents ≡ content ∷ []) × ReadsAll old new content

-- it was read until this fault
abbrev pub StopsInput : Option (List ℕ) → Option (List ℕ) → InputFault → Type 0
StopsInput old new fault = ReadsSome old new (EndsInput MAX_INPUT_LENGTH fault)

-- contents of which this holds have these lengths, and were put
abbrev pub PutsGiven : Chunking → (List (List ℕ) → Type 0) → List ℕ → List Chunk → Type 0
PutsGiven chunking Gives lengths put =
    (contents : List (List ℕ)) × Gives contents × PutsContents chunking contents lengths put

-- all workers are done, and contents of which this holds were put, or what was read ended in such a fault
pub record IsFed {F : Type 0} (chunking : Chunking) (Gives : List (List ℕ) → Type 0) (Stops : F → Type 0)
    (fed : Fed F) : Type 0 where
  pub done : AreDone chunking fed.feeder fed.workers.items
  pub ended : IsEnded fed.feeder
  pub put : IfOk fed.read (λ lengths. PutsGiven chunking Gives lengths.items (put_by fed.feeder))
  pub stopped : IfErr fed.read Stops

-- whatever they are, and whatever the fault is
pub record IsFedSome {F : Type 0} (chunking : Chunking) (fed : Fed F) : Type 0 where
  pub done : AreDone chunking fed.feeder fed.workers.items
  pub ended : IsEnded fed.feeder
  pub put : IfOk fed.read (λ lengths. (contents : List (List ℕ))
      × PutsContents chunking contents lengths.items (put_by fed.feeder))

-- contents that readers gave; where memory was refused to a worker this is told, whatever the readers did
pub record IsFedByReaders {F : Type 0} (chunking : Chunking) (known : List (Option (List ℕ)))
    (fed : Fed (EngineError F)) : Type 0 where
  pub is : IsFed chunking (GiveContents known) (IsFaultOfReaders known) fed
  pub refused : list_any (λ worker. worker.is_refused) fed.workers.items ≡ true → fed.read ≡ Err Resources

-- the sums of the contents that were put, or the fault
abbrev pub AnswersFed : {F : Type 0} → Chunking → Fed F → Result Sums F → Type 0
AnswersFed chunking fed answer =
    MatchResult answer (λ sums. IsOkAnd fed.read (λ lengths. (contents : List (List ℕ))
    → PutsContents chunking contents lengths.items (put_by fed.feeder)
    → AreSumsOfContents chunking.kind chunking.tail chunking.piece_length contents sums))
    (λ fault. fed.read ≡ Err fault)

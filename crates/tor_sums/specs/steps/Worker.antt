-- What the units of a worker sum up to, while their bytes come.
-- Only clauses of the crates that hash cite these.
use Rattle.std.specs.Prelude.{◌≡◌, ℕ, ◌<◌, ◌≤◌, true, List, [], ◌++◌, drop, length, take}
use Rattle.std.specs.Option.{ForSome}
use Rattle.tor_plan.specs.PlanFacts.{PlanFacts}
use Rattle.tor_source.specs.Source.{SourceFacts, bytes_from}
use Rattle.tor_tree.specs.Kinds.{has_v1, has_v2}
use Rattle.tor_tree.specs.declared.kinds.Kind.{Kind}
use Rattle.tor_v1.specs.Feeding.{HasRoom}
use Rattle.tor_sums.specs.declared.hasher.ContentHasher.{ContentHasher}
use Rattle.tor_sums.specs.declared.room.Room.{Room}
use Rattle.tor_sums.specs.declared.worker.WorkerSums.{WorkerSums}
use Rattle.tor_sums.specs.Hasher.{HasFedContent, IsTreeOf, pieces_of, tree_of}
use Rattle.tor_sums.specs.steps.Room.{count_in, held_in}

abbrev pub room_of : WorkerSums → Room
room_of sums = sums.room

abbrev pub hasher_of : WorkerSums → ContentHasher
hasher_of sums = sums.hasher

-- how many of the bytes that wait the tree does not want any more: they were fed, or are zeros
abbrev pub treed_of : WorkerSums → ℕ
treed_of sums = sums.treed

-- the sums took these bytes of files of the present unit, and these bytes in all since the pieces began, with zeros:
-- the pieces were fed the front of them and the rest is held, of which the tree has the front
pub record HasTaken (kind : Kind) (piece_length : ℕ) (bytes unit : List ℕ) (sums : WorkerSums) : Type 0 where
  pub fed_bytes : List ℕ
  pub fed_unit : List ℕ
  pub fed : HasFedContent kind piece_length fed_bytes fed_unit sums.hasher
  pub bytes_joined : has_v2 kind ≡ true → fed_bytes ++ drop sums.treed (held_in sums.room) ≡ bytes
  pub unit_joined : has_v1 kind ≡ true → fed_unit ++ held_in sums.room ≡ unit

-- how many bytes of files were taken of the present unit
abbrev pub begun_of : WorkerSums → ℕ
begun_of sums = sums.begun

-- a unit can begin, after these bytes since the pieces began
pub record IsFresh (plan : PlanFacts) (before : List ℕ) (sums : WorkerSums) : Type 0 where
  pub taken : HasTaken plan.kind plan.piece_length [] before sums
  pub begun : begun_of sums ≡ 0

-- the tree of a unit was ended, and the next one was begun
pub record IsTreed (plan : PlanFacts) (sums : WorkerSums) : Type 0 where
  pub all : sums.treed ≡ count_in sums.room
  pub tree : IsTreeOf plan.kind plan.piece_length [] (tree_of sums.hasher)
  pub begun : begun_of sums ≡ 0

-- there is room for the sums of all that waits
abbrev pub CanFinish : WorkerSums → Type 0
CanFinish sums = ForSome (pieces_of sums.hasher) (λ pieces. HasRoom pieces (count_in sums.room))

-- whatever was taken before, the same was taken now
abbrev pub Keeps : WorkerSums → WorkerSums → Type 0
Keeps old new =
    (kind : Kind) (piece_length : ℕ) (bytes unit : List ℕ) → HasTaken kind piece_length bytes unit old
    → HasTaken kind piece_length bytes unit new

-- so many bytes were read and taken; a steady source has as many there, and they are those
pub record TakesMore {F : Type 0} (is_steady : SourceFacts F → Type 0) (file start count : ℕ)
    (old new : WorkerSums) : Type 0 where
  pub bytes : List ℕ
  pub counted : length bytes ≡ count
  pub steady : (facts : SourceFacts F) → is_steady facts → 0 < length (bytes_from facts file start)
      → bytes ≡ take count (bytes_from facts file start)
  pub there : (facts : SourceFacts F) → is_steady facts → count ≤ length (bytes_from facts file start)
  pub taken : (kind : Kind) (piece_length : ℕ) (before unit : List ℕ) → HasTaken kind piece_length before unit old
      → HasTaken kind piece_length (before ++ bytes) (unit ++ bytes) new

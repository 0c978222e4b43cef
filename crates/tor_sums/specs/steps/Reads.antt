-- What was read of a source, whether it is steady or not. Only clauses of the crates that hash cite these.
use Rattle.std.specs.Prelude.{◌≡◌, ◌+◌, ◌≤◌, ℕ, List, ◌++◌, length, map, sum_by, take}
use Rattle.std.specs.List.{AllByRecursion, flat_map}
use Rattle.tor_plan.specs.Content.{part_content}
use Rattle.tor_plan.specs.PlanFacts.{PlanFacts}
use Rattle.tor_plan.specs.declared.units.Part.{Part}
use Rattle.tor_source.specs.Source.{SourceFacts, bytes_from}
use Rattle.tor_tree.specs.declared.kinds.Kind.{Kind}
use Rattle.tor_v1.specs.Piece.{zeros}
use Rattle.tor_sums.specs.Contents.{contents_in}
use Rattle.tor_sums.specs.declared.worker.WorkerSums.{WorkerSums}
use Rattle.tor_sums.specs.steps.Hashes.{bytes_of_part}
use Rattle.tor_sums.specs.steps.Worker.{HasTaken, begun_of}

-- the files have the lengths of the plan
abbrev pub HasLengths : {F : Type 0} → PlanFacts → SourceFacts F → Type 0
HasLengths plan facts = map length (contents_in facts (length plan.lengths)) ≡ plan.lengths

-- the source has all bytes of a part
abbrev pub HasPart : {F : Type 0} → SourceFacts F → Part → Type 0
HasPart facts part = part.length ≤ length (bytes_from facts part.file part.start)

-- and those of each of these
abbrev pub HasParts : {F : Type 0} → SourceFacts F → List Part → Type 0
HasParts facts parts = AllByRecursion (HasPart facts) parts

-- the first so many bytes of a part were read and taken; a steady source has as many there, and they are those
pub record TakesPart {F : Type 0} (is_steady : SourceFacts F → Type 0) (part : Part) (count : ℕ)
    (old new : WorkerSums) : Type 0 where
  pub bytes : List ℕ
  pub counted : length bytes ≡ count
  pub steady : (facts : SourceFacts F) → is_steady facts → HasPart facts part
      → bytes ≡ take count (bytes_from facts part.file part.start)
  pub there : (facts : SourceFacts F) → is_steady facts → count ≤ length (bytes_from facts part.file part.start)
  pub taken : (kind : Kind) (piece_length : ℕ) (before unit : List ℕ) → HasTaken kind piece_length before unit old
      → HasTaken kind piece_length (before ++ bytes) (unit ++ bytes) new

-- the bytes of a part were read and taken; a steady source has them
pub record AddsPart {F : Type 0} (is_steady : SourceFacts F → Type 0) (plan : PlanFacts) (part : Part)
    (old new : WorkerSums) : Type 0 where
  pub bytes : List ℕ
  pub counted : length bytes ≡ part.length
  pub steady : (facts : SourceFacts F) → is_steady facts → HasPart facts part
      → bytes_of_part (contents_in facts (length plan.lengths)) part ≡ bytes
  pub there : (facts : SourceFacts F) → is_steady facts → HasPart facts part
  pub begun : begun_of new ≡ begun_of old + part.length
  pub taken : (before unit : List ℕ) → HasTaken plan.kind plan.piece_length before unit old
      → HasTaken plan.kind plan.piece_length (before ++ bytes) (unit ++ bytes) new

-- a part, and the bytes that were read of it
abbrev pub PartRead : Type 0
PartRead = Part × List ℕ

-- the contents have the bytes that were read
abbrev pub HaveRead : List (List ℕ) → List PartRead → Type 0
HaveRead contents reads = AllByRecursion (λ read. bytes_of_part contents read.0 ≡ read.1) reads

-- as many bytes were read of each part as it has; a steady source has as many there, and they are those
pub record AreReads {F : Type 0} (is_steady : SourceFacts F → Type 0) (plan : PlanFacts) (parts : List Part)
    (reads : List PartRead) : Type 0 where
  pub each : map (λ read. read.0) reads ≡ parts
  pub whole : AllByRecursion (λ read. length read.1 ≡ read.0.length) reads
  pub steady : (facts : SourceFacts F) → is_steady facts → HasParts facts parts
      → HaveRead (contents_in facts (length plan.lengths)) reads
  pub there : (facts : SourceFacts F) → is_steady facts → HasParts facts parts

-- the parts of a unit were read so far, after these bytes, and so many zeros that come next were not taken yet
pub record ReadsParts {F : Type 0} (is_steady : SourceFacts F → Type 0) (plan : PlanFacts) (before : List ℕ)
    (parts : List Part) (left : ℕ) (sums : WorkerSums) : Type 0 where
  pub reads : List PartRead
  pub are : AreReads is_steady plan parts reads
  pub bytes : List ℕ
  pub joined : List ℕ
  pub long : length joined ≡ sum_by (λ part. part.length + part.zeros) parts
  pub same : (contents : List (List ℕ)) → HaveRead contents reads
      → (flat_map (bytes_of_part contents) parts ≡ bytes) × (flat_map (part_content contents) parts ≡ joined)
  pub front : List ℕ
  pub all : front ++ zeros left ≡ before ++ joined
  pub taken : HasTaken plan.kind plan.piece_length bytes front sums

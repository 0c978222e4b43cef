-- Readers that are read to their ends, one after the other, and what their bytes sum up to.
use Rattle.std.specs.Prelude.{◌≡◌, ◌*◌, ◌<◌, ◌≤◌, ℕ, Bool, List, length, slice_index_or, take, Option, None, Some}
use Rattle.std.specs.Io.KnownBytes.{Consumes, IsAtEnd}
use Rattle.std.specs.List.{AllByRecursion, AllZip}
use Rattle.tor_merkle.specs.declared.TheConstants.{MAX_LENGTH}
use Rattle.tor_plan.specs.Content.{AreContentsOfFiles, cut_content}
use Rattle.tor_plan.specs.PlanFacts.{IsPlanPieceLength, IsSpan}
use Rattle.tor_tree.specs.declared.kinds.Kind.{Kind}
use Rattle.tor_sums.specs.Sums.{AreSumsOf}
use Rattle.tor_sums.specs.declared.errors.EngineError.{EngineError}
use Rattle.tor_sums.specs.declared.errors.EngineError.TheVariants.{Read, Changed, Missing, Resources, StreamTooLong}
use Rattle.tor_streams.specs.declared.streams.TheConstants.{MAX_UNIT_LENGTH}
use Rattle.tor_sums.specs.declared.sums.Sums.{Sums}

-- pieces and spans of at most 2^30 bytes a unit. Streams can be cut by them (profile)
pub record IsStreamCut (kind : Kind) (piece_length span : ℕ) : Type 0 where
  pub pieces : IsPlanPieceLength kind piece_length
  pub is_span : IsSpan span
  pub small : span * piece_length ≤ MAX_UNIT_LENGTH

-- a reader gives these bytes, as far as what it has is known. Those are the bytes that it has left (profile)
abbrev pub GivesSome : Option (List ℕ) → List ℕ → Type 0
GivesSome known bytes = (left : Option (List ℕ)) × Consumes known left bytes

-- and then has no more (profile)
abbrev pub GivesWhole : Option (List ℕ) → List ℕ → Type 0
GivesWhole known content = (left : Option (List ℕ)) × Consumes known left content × IsAtEnd left

-- each reader gives its content (profile)
abbrev pub GiveContents : List (Option (List ℕ)) → List (List ℕ) → Type 0
GiveContents known contents = AllZip GivesWhole known contents

-- the sums of contents, whatever the paths of their files. With a tail the last of a hybrid is padded too (BEP 52,
-- "pieces root", "piece layers"; BEP 3, "info dictionary")
abbrev pub AreSumsOfContents : Kind → Bool → ℕ → List (List ℕ) → Sums → Type 0
AreSumsOfContents kind tail piece_length contents sums =
    (files : List (List (List ℕ) × ℕ)) → AreContentsOfFiles files contents
    → AreSumsOf kind piece_length contents (cut_content kind tail piece_length files contents) sums

-- those of what readers give, none more than 2^50 bytes. That is what a file may have (BEP 52, "pieces root", "piece
-- layers"; BEP 3, "info dictionary")
pub record AreSumsOfReaders (kind : Kind) (tail : Bool) (piece_length : ℕ) (known : List (Option (List ℕ)))
    (sums : Sums) : Type 0 where
  pub contents : List (List ℕ)
  pub given : GiveContents known contents
  pub small : AllByRecursion (λ content. length content ≤ MAX_LENGTH) contents
  pub sums_up : AreSumsOfContents kind tail piece_length contents sums

-- the reader of this number gave these bytes, and each before it a content to its end (profile)
pub record ReadsUpTo (known : List (Option (List ℕ))) (file : ℕ) (bytes : List ℕ) : Type 0 where
  pub is_there : file < length known
  pub came : GivesSome (slice_index_or known file None) bytes
  pub contents : List (List ℕ)
  pub before : GiveContents (take file known) contents
  pub small : AllByRecursion (λ content. length content ≤ MAX_LENGTH) contents

-- a fault of the first reader that has one, after the bytes that it gave; or it gave too many. That is more than a file
-- may have; or it is want of memory (profile)
abbrev pub IsFaultOfReaders : {F : Type 0} → List (Option (List ℕ)) → EngineError F → Type 0
IsFaultOfReaders known (Read file None fault) = ⊥
IsFaultOfReaders known (Read file (Some start) fault) =
    (bytes : List ℕ) × ReadsUpTo known file bytes × (length bytes ≡ start)
IsFaultOfReaders known (Changed file) = ⊥
IsFaultOfReaders known (Missing file) = ⊥
IsFaultOfReaders known Resources = Unit {0}
IsFaultOfReaders known (StreamTooLong file) =
    (bytes : List ℕ) × ReadsUpTo known file bytes × (MAX_LENGTH < length bytes)

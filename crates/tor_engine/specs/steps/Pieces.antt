-- What the pieces of units hash to. Only private clauses cite these.
use Rattle.std.specs.Prelude.{◌≡◌, ℕ, ◌/◌, ◌<◌, ◌≤◌, true, false, All, List, length, map}
use Rattle.std.specs.Prelude.{Bool, nat_le, ◌||◌, Option, None}
use Rattle.std.specs.Prelude.{Some, unwrap_or}
use Rattle.std.specs.List.{AllByRecursion, list_any}
use Rattle.std.specs.Simd.{first_chunks}
use Rattle.tor_plan.specs.Pieces.{pieces_of_unit}
use Rattle.tor_plan.specs.PlanFacts.{PlanFacts}
use Rattle.tor_plan.specs.WithinEntries.{unit_length}
use Rattle.tor_plan.specs.declared.units.Part.{Part}
use Rattle.tor_plan.specs.declared.units.PlanUnit.{PlanUnit}
use Rattle.tor_source.specs.Source.{SourceFacts}
use Rattle.tor_tree.specs.Kinds.{has_v2}
use Rattle.tor_v1.specs.Piece.{piece_sums, zeros}
use Rattle.tor_sums.specs.Contents.{contents_in}
use Rattle.tor_sums.specs.Fault.{first_of}
use Rattle.tor_engine.specs.PieceFault.{pieces_fault}
use Rattle.tor_engine.specs.PieceHashes.{hash_if_there}
use Rattle.tor_engine.specs.There.{HaveHashesOf}
use Rattle.tor_sums.specs.declared.errors.EngineError.{EngineError}
use Rattle.tor_engine.specs.declared.pieces.piece_hash.FoundPiece.{FoundPiece}
use Rattle.tor_engine.specs.declared.pieces.piece_hash.FoundPiece.TheVariants.{Hashed, Missing, Unsummed}
use Rattle.tor_engine.specs.declared.pieces.piece_hash.PieceHash.{PieceHash}
use Rattle.tor_engine.specs.declared.pieces.piece_hash.TheConstants.{SUM_LENGTH}
use Rattle.tor_sums.specs.steps.Hashes.{bytes_of_part}
use Rattle.tor_sums.specs.steps.Run.{IsUnitOf}

-- ---- of a piece that is there

-- joined SHA-1, one by one
abbrev pub sums_in : List ℕ → List (List ℕ)
sums_in text = first_chunks 20 (length text / 20) text

-- contents have some bytes of each part, and no more than a piece
abbrev pub HasPieces : ℕ → List (List ℕ) → List Part → Type 0
HasPieces piece_length contents parts =
    AllByRecursion (λ part. (0 < length (bytes_of_part contents part))
    × (length (bytes_of_part contents part) ≤ piece_length)) parts

-- ---- of a piece whose SHA-1 is owed

-- the hashes of a piece, as far as they are known
abbrev pub hashes_in : FoundPiece → Option PieceHash
hashes_in Missing = None
hashes_in (Hashed hashes) = Some hashes
hashes_in (Unsummed v2) = Some (record { v1 = None; v2 = v2 })

-- how many bytes are owed to it
abbrev pub owed_to_piece : FoundPiece → ℕ
owed_to_piece Missing = 0
owed_to_piece (Hashed hashes) = 0
owed_to_piece (Unsummed v2) = SUM_LENGTH

-- it, with these
abbrev pub paid_piece : FoundPiece → List ℕ → FoundPiece
paid_piece Missing own = Missing
paid_piece (Hashed hashes) own = Hashed hashes
paid_piece (Unsummed v2) own = Hashed (record { v1 = Some own; v2 = v2 })

-- ---- of any unit

-- the files have these lengths; a missing one has none
abbrev pub AreTold : List (Option ℕ) → List (List ℕ) → Type 0
AreTold told contents = map (λ size. unwrap_or size 0) told ≡ map length contents

abbrev pub unit_hashes : PlanFacts → List (List ℕ) → PlanUnit → List (Option PieceHash)
unit_hashes plan contents unit = map (hash_if_there plan contents) (pieces_of_unit plan.piece_length unit)

abbrev pub unit_pieces_fault : {F : Type 0} → SourceFacts F → PlanFacts → List (List ℕ) → PlanUnit
    → Option (EngineError F)
unit_pieces_fault facts plan contents unit = pieces_fault facts contents (pieces_of_unit plan.piece_length unit)

-- of units, one after another
abbrev pub first_unit_fault : {F : Type 0} → SourceFacts F → PlanFacts → List (List ℕ) → List PlanUnit
    → Option (EngineError F)
first_unit_fault facts plan contents units = first_of (unit_pieces_fault facts plan contents) units

-- as many zeros after one another as a piece has bytes: before the parts of a unit, or after one of them
abbrev pub has_long_zeros : ℕ → PlanUnit → Bool
has_long_zeros piece_length unit =
    nat_le piece_length unit.zeros || list_any (λ part. nat_le piece_length part.zeros) unit.parts

-- the plan has no trees, and a piece of it may be padding alone
abbrev pub MayHavePadding : PlanFacts → Type 0
MayHavePadding plan =
    (has_v2 plan.kind ≡ false) × (list_any (has_long_zeros plan.piece_length) plan.units ≡ true)

-- the SHA-1 of a piece of zeros alone
abbrev pub IsPaddingSum : PlanFacts → Option (List ℕ) → Type 0
IsPaddingSum plan None = Unit {0}
IsPaddingSum plan (Some sum) =
    (has_v2 plan.kind ≡ false) × (sum ≡ piece_sums plan.piece_length (zeros plan.piece_length))

-- a piece of a plan, which is not empty
pub record IsPiece (plan : PlanFacts) (piece : PlanUnit) : Type 0 where
  pub unit : IsUnitOf plan piece
  pub some : 0 < unit_length piece
  pub within : unit_length piece ≤ plan.piece_length

-- a unit whose pieces can be hashed
pub record IsUnitToHash (plan : PlanFacts) (unit : PlanUnit) : Type 0 where
  pub within : IsUnitOf plan unit
  pub pieces : All (IsPiece plan) (pieces_of_unit plan.piece_length unit)

-- these are the hashes of the pieces of a unit of files with these lengths: of a steady source those of what it has,
-- and of any source one for each piece that is there by the lengths
pub record HashesPieces {F : Type 0} (is_steady : SourceFacts F → Type 0) (plan : PlanFacts) (told : List (Option ℕ))
    (unit : PlanUnit) (hashes : List (Option PieceHash)) : Type 0 where
  pub steady : (facts : SourceFacts F) → is_steady facts
      → AreTold told (contents_in facts (length plan.lengths))
      → hashes ≡ unit_hashes plan (contents_in facts (length plan.lengths)) unit
  pub there : HaveHashesOf told (pieces_of_unit plan.piece_length unit) hashes

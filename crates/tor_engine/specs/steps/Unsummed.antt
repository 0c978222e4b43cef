-- Pieces that were found while their SHA-1s are owed. Only private clauses cite these.
use Rattle.std.specs.Prelude.{◌≡◌, ◌∷◌, ◌<◌, [], ℕ, List, length, is_some, slice_index_or, sum_by, true, Option, None}
use Rattle.std.specs.Prelude.{if◌then◌else◌}
use Rattle.tor_plan.specs.Pieces.{pieces_of_unit}
use Rattle.tor_plan.specs.PlanFacts.{PlanFacts}
use Rattle.tor_plan.specs.declared.units.Part.{Part}
use Rattle.tor_plan.specs.declared.units.PlanUnit.{PlanUnit}
use Rattle.tor_source.specs.Source.{SourceFacts}
use Rattle.tor_tree.specs.Kinds.{has_v1, has_v2}
use Rattle.tor_tree.specs.declared.kinds.Kind.{Kind}
use Rattle.tor_sums.specs.Contents.{contents_in}
use Rattle.tor_sums.specs.steps.Each.{OweEach}
use Rattle.tor_sums.specs.steps.Owing.{paid_each}
use Rattle.tor_engine.specs.PieceHashes.{hash_if_there}
use Rattle.tor_engine.specs.There.{is_within}
use Rattle.tor_engine.specs.declared.pieces.piece_hash.FoundPiece.{FoundPiece}
use Rattle.tor_engine.specs.declared.pieces.piece_hash.FoundPiece.TheVariants.{Hashed, Unsummed}
use Rattle.tor_engine.specs.declared.pieces.piece_work.UnitPieces.{UnitPieces}
use Rattle.tor_engine.specs.steps.Pieces.{AreTold, hashes_in, owed_to_piece, paid_piece}

-- this was found of a piece of files with these lengths, and so much is owed to it: of a steady source it has then the
-- hashes of what the source has, and of any source it is there just if the lengths say so
pub record FindsPiece {F : Type 0} (is_steady : SourceFacts F → Type 0) (plan : PlanFacts) (told : List (Option ℕ))
    (piece : PlanUnit) (found : FoundPiece) (own : List ℕ) : Type 0 where
  pub steady : (facts : SourceFacts F) → is_steady facts
      → AreTold told (contents_in facts (length plan.lengths))
      → hashes_in (paid_piece found own) ≡ hash_if_there plan (contents_in facts (length plan.lengths)) piece
  pub there : is_some (hashes_in found) ≡ is_within told piece
  pub long : owed_to_piece found ≡ length own

-- what is owed to the pieces of a unit
abbrev pub owed_to_pieces : UnitPieces → ℕ
owed_to_pieces one = sum_by owed_to_piece one.pieces

-- the unit, with these
abbrev pub paid_pieces : UnitPieces → List ℕ → UnitPieces
paid_pieces one own =
    record { unit = one.unit; pieces = paid_each owed_to_piece paid_piece one.pieces own }

-- these were found of the pieces of a unit, and so much is owed to them
abbrev pub OwePieces : {F : Type 0} → (SourceFacts F → Type 0) → PlanFacts → List (Option ℕ) → PlanUnit → UnitPieces
    → List ℕ → Type 0
OwePieces is_steady plan told unit one own =
    OweEach (FindsPiece is_steady plan told) (pieces_of_unit plan.piece_length unit) one.pieces own

-- the pieces of a unit can be hashed together: all its bytes are there by the lengths that were told, and in a kind
-- with trees its file is longer than a piece
pub record IsTogether (plan : PlanFacts) (told : List (Option ℕ)) (unit : PlanUnit) : Type 0 where
  pub long : has_v2 plan.kind ≡ true → (part : Part) → unit.parts ≡ part ∷ []
      → plan.piece_length < slice_index_or plan.lengths part.file 0
  pub there : is_within told unit ≡ true

-- what was found of a piece that has this Merkle hash, none in V1
abbrev pub found_of : Kind → Option (List ℕ) → FoundPiece
found_of kind v2 = if has_v1 kind then Unsummed v2 else Hashed (record { v1 = None; v2 = v2 })

-- Which pieces are there by the lengths that were told of their files, whether the files keep to these or not.
use Rattle.std.specs.Prelude.{◌≡◌, ℕ, ◌+◌, Bool, is_some, nat_le, List, map, slice_index_or, unwrap_or, Option, None}
use Rattle.std.specs.List.{list_all}
use Rattle.tor_plan.specs.PlanFacts.{PlanFacts}
use Rattle.tor_plan.specs.declared.units.Part.{Part}
use Rattle.tor_plan.specs.declared.units.PlanUnit.{PlanUnit}
use Rattle.tor_engine.specs.PieceHashes.{pieces_of_plan}
use Rattle.tor_engine.specs.declared.pieces.piece_hash.PieceHash.{PieceHash}

-- the length that was told of a file; one that is missing has no byte
abbrev pub length_told : List (Option ℕ) → ℕ → ℕ
length_told told file = unwrap_or (slice_index_or told file None) 0

-- a part lies within its file
abbrev pub is_part_within : List (Option ℕ) → Part → Bool
is_part_within told part = nat_le (part.start + part.length) (length_told told part.file)

-- a piece lies within the lengths that were told of its files. Each part of it does, or of a unit; then it is there
-- (profile)
abbrev pub is_within : List (Option ℕ) → PlanUnit → Bool
is_within told unit = list_all (is_part_within told) unit.parts

-- those of these pieces have a hash that are there, and no other
abbrev pub HaveHashesOf : List (Option ℕ) → List PlanUnit → List (Option PieceHash) → Type 0
HaveHashesOf told pieces hashes = map is_some hashes ≡ map (is_within told) pieces

-- those pieces of a plan have a hash, and no other (profile)
abbrev pub HasHashesWithin : PlanFacts → List (Option ℕ) → List (Option PieceHash) → Type 0
HasHashesWithin plan told hashes = HaveHashesOf told (pieces_of_plan plan) hashes

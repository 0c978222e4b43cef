-- What the pieces of a plan hash to, where the files have these contents. They may be shorter than the plan says, or
-- missing: a byte past the end of a content is not there.
use Rattle.std.specs.Prelude.{ℕ, ◌-◌, List, [], ◌∷◌, map, take, drop, slice_index_or, Option, None, Some}
use Rattle.std.specs.Prelude.{if◌then◌else◌}
use Rattle.std.specs.List.{flat_map}
use Rattle.tor_plan.specs.Content.{unit_content}
use Rattle.tor_plan.specs.Pieces.{pieces_of_unit}
use Rattle.tor_plan.specs.PlanFacts.{PlanFacts}
use Rattle.tor_plan.specs.Present.{is_there}
use Rattle.tor_plan.specs.declared.units.Part.{Part}
use Rattle.tor_plan.specs.declared.units.PlanUnit.{PlanUnit}
use Rattle.tor_tree.specs.Kinds.{has_v1, has_v2}
use Rattle.tor_v1.specs.Piece.{piece_sums}
use Rattle.tor_merkle.specs.PieceHash.{merkle_hash}
use Rattle.tor_engine.specs.declared.pieces.piece_hash.PieceHash.{PieceHash}

-- all pieces of units, each as a unit (profile)
abbrev pub pieces_of_units : ℕ → List PlanUnit → List PlanUnit
pieces_of_units piece_length units = flat_map (pieces_of_unit piece_length) units

-- all pieces of a plan, each as a unit (profile)
abbrev pub pieces_of_plan : PlanFacts → List PlanUnit
pieces_of_plan plan = flat_map (pieces_of_unit plan.piece_length) plan.units

-- the pieces of a plan from one number on, and before another (profile)
abbrev pub pieces_between : PlanFacts → ℕ → ℕ → List PlanUnit
pieces_between plan from to = take (to - from) (drop from (pieces_of_plan plan))

-- that of what a part has of its file, which has the length that the plan says
abbrev pub part_hash : PlanFacts → List (List ℕ) → Part → List ℕ
part_hash plan contents part =
    merkle_hash plan.piece_length (slice_index_or plan.lengths part.file 0)
    (take part.length (drop part.start (slice_index_or contents part.file [])))

-- that of the one part of a piece
abbrev pub hash_of_parts : PlanFacts → List (List ℕ) → List Part → List ℕ
hash_of_parts plan contents [] = []
hash_of_parts plan contents (part ∷ _) = part_hash plan contents part

-- the hashes of a piece: the SHA-1 of its bytes, zeros of padding among them, as in "info dictionary" of BEP 3; and the
-- Merkle hash of what it has of its file
abbrev pub piece_hash : PlanFacts → List (List ℕ) → PlanUnit → PieceHash
piece_hash plan contents piece = record {
  v1 = if has_v1 plan.kind then Some (piece_sums plan.piece_length (unit_content contents piece)) else None;
  v2 = if has_v2 plan.kind then Some (hash_of_parts plan contents piece.parts) else None;
}

-- none, where a byte is not there
abbrev pub hash_if_there : PlanFacts → List (List ℕ) → PlanUnit → Option PieceHash
hash_if_there plan contents piece =
    if is_there contents piece then Some (piece_hash plan contents piece) else None

-- each piece's SHA-1 and Merkle hash, none if a byte is not there (BEP 3, "info dictionary"; BEP 52, "piece layers",
-- "pieces root")
abbrev pub piece_hashes : PlanFacts → List (List ℕ) → List (Option PieceHash)
piece_hashes plan contents = map (hash_if_there plan contents) (pieces_of_plan plan)

-- those of some pieces (BEP 3, "info dictionary"; BEP 52, "piece layers", "pieces root")
abbrev pub hashes_of_pieces : PlanFacts → List (List ℕ) → List PlanUnit → List (Option PieceHash)
hashes_of_pieces plan contents pieces = map (hash_if_there plan contents) pieces

-- those of the pieces of some units (BEP 3, "info dictionary"; BEP 52, "piece layers", "pieces root")
abbrev pub hashes_of_units : PlanFacts → List (List ℕ) → List PlanUnit → List (Option PieceHash)
hashes_of_units plan contents units = map (hash_if_there plan contents) (pieces_of_units plan.piece_length units)

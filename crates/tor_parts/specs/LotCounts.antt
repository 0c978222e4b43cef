-- How many hashes and sums the pieces of a lot have.
use Rattle.std.specs.Prelude.{◌≡◌, ◌*◌, ℕ, List, length, sum_by, if◌then◌else◌}
use Rattle.std.specs.Int.{div_ceil}
use Rattle.tor_engine.specs.declared.lot.PieceRow.{PieceRow}
use Rattle.tor_plan.specs.PlanFacts.{PlanFacts}
use Rattle.tor_plan.specs.WithinEntries.{unit_length}
use Rattle.tor_plan.specs.declared.units.PlanUnit.{PlanUnit}
use Rattle.tor_tree.specs.Kinds.{has_v1, has_v2}

-- how many pieces of files units have, those of each part by themselves
abbrev pub pieces_of_parts : ℕ → List PlanUnit → ℕ
pieces_of_parts piece_length units =
    sum_by (λ unit. sum_by (λ part. div_ceil part.length piece_length) unit.parts) units

-- how many pieces of all bytes they have, those of each unit by themselves
abbrev pub pieces_of_units : ℕ → List PlanUnit → ℕ
pieces_of_units piece_length units = sum_by (λ unit. div_ceil (unit_length unit) piece_length) units

-- a row has a Merkle hash for each piece of the files of units, and 20 bytes of SHA-1 for each piece of all their
-- bytes; none of either if the kind has none (BEP 52, "piece layers"; BEP 3, "info dictionary")
pub record HasOwnPieces (plan : PlanFacts) (units : List PlanUnit) (row : PieceRow) : Type 0 where
  pub hashes : length row.hashes.items
      ≡ (if has_v2 plan.kind then pieces_of_parts plan.piece_length units else 0)
  pub sums : length row.pieces.items ≡ (if has_v1 plan.kind then pieces_of_units plan.piece_length units * 20 else 0)

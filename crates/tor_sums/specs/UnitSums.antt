-- What a unit of a plan sums up to.
use Rattle.std.specs.Prelude.{◌≡◌, ◌<◌, ℕ, true, false, List, [], ◌∷◌, length, replicate, slice_index_or}
use Rattle.std.specs.Prelude.{if◌then◌else◌}
use Rattle.tor_plan.specs.Content.{unit_content}
use Rattle.tor_plan.specs.PlanFacts.{PlanFacts}
use Rattle.tor_plan.specs.declared.units.PlanUnit.{PlanUnit}
use Rattle.tor_tree.specs.Kinds.{has_v1, has_v2}
use Rattle.tor_v1.specs.Piece.{piece_sums}
use Rattle.tor_sums.specs.UnitNodes.{Node, level_of, nodes_of_unit}
use Rattle.tor_sums.specs.declared.unit_sums.UnitSums.{UnitSums}

-- the unit of that number
abbrev pub unit_at : List PlanUnit → ℕ → PlanUnit
unit_at units number = slice_index_or units number (record { zeros = 0; parts = [] })

-- a unit's hash, and its part of the layer
abbrev pub node_in : UnitSums → Node
node_in sums = (sums.hash, sums.layer.items)

-- those of a unit of no tree
abbrev pub bare_node : Node
bare_node = (replicate 32 0, [])

-- hash, part of the layer and SHA-1s of a unit. These are the sums of the unit of their number, if the files have these
-- contents: its node and its part of the layer if the kind has trees, else zeros and none; the SHA-1 of its pieces if
-- the kind has them (BEP 52, "pieces root", "piece layers"; BEP 3, "info dictionary")
pub record IsUnitSums (plan : PlanFacts) (contents : List (List ℕ)) (sums : UnitSums) : Type 0 where
  pub number : sums.unit < length plan.units
  pub node : has_v2 plan.kind ≡ true → node_in sums ∷ []
      ≡ nodes_of_unit plan.piece_length (level_of plan.trees) contents (unit_at plan.units sums.unit)
  pub bare : has_v2 plan.kind ≡ false → node_in sums ≡ bare_node
  pub pieces : sums.pieces.items ≡ (if has_v1 plan.kind
      then piece_sums plan.piece_length (unit_content contents (unit_at plan.units sums.unit)) else [])

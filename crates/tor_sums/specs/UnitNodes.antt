-- What the parts and units of a plan have in the trees of their files.
use Rattle.std.specs.Prelude.{ℕ, List, [], ◌∷◌, length, map, take, drop, nat_lt, slice_index_or, Option, None, Some}
use Rattle.std.specs.Prelude.{if◌then◌else◌}
use Rattle.tor_merkle.specs.Block.{leaves}
use Rattle.tor_merkle.specs.Layer.{pieces_root, piece_layer, piece_roots}
use Rattle.tor_merkle.specs.Stack.{padded_subtree}
use Rattle.tor_plan.specs.declared.forests.Run.{Run}
use Rattle.tor_plan.specs.declared.units.Part.{Part}
use Rattle.tor_plan.specs.declared.units.PlanUnit.{PlanUnit}

-- the bytes of a part
abbrev pub bytes_of_part : List (List ℕ) → Part → List ℕ
bytes_of_part contents part = take part.length (drop part.start (slice_index_or contents part.file []))

-- the level of the units of files that have several; all trees have the same
abbrev pub level_of : List Run → Option ℕ
level_of [] = None
level_of (run ∷ runs) = Some run.level

-- that of a unit which has so many of the bytes of its file; none of one that is alone there
abbrev pub level_in : Option ℕ → ℕ → ℕ → Option ℕ
level_in level size count = if nat_lt count size then level else None

-- a node of a tree, and the hashes below it where one covers one piece
abbrev pub Node : Type 0
Node = List ℕ × List (List ℕ)

-- that of the bytes of a unit: alone in its file the root and the layer, which are the "pieces root" and the "piece
-- layers" of BEP 52, else the node at its level, over zero leaves past the end, and the hashes that it has in the layer
-- of its file
abbrev pub node_over : ℕ → Option ℕ → List ℕ → Node
node_over piece_length None bytes = (pieces_root bytes, piece_layer bytes piece_length)
node_over piece_length (Some level) bytes = (padded_subtree level 0 (leaves bytes), piece_roots bytes piece_length)

abbrev pub node_of_part : ℕ → Option ℕ → List (List ℕ) → Part → Node
node_of_part piece_length level contents part =
    node_over piece_length (level_in level (length (slice_index_or contents part.file [])) part.length)
    (bytes_of_part contents part)

-- for each part one
abbrev pub nodes_of_unit : ℕ → Option ℕ → List (List ℕ) → PlanUnit → List Node
nodes_of_unit piece_length level contents unit = map (node_of_part piece_length level contents) unit.parts

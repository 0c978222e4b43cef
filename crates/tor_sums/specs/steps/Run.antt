-- What units sum up to. Only clauses of the crates that hash cite these.
use Rattle.std.specs.Prelude.{◌≡◌, ℕ, ◌*◌, ◌^◌, ◌≤◌, true, List, [], ◌∷◌, ◌++◌, All, false, length, map, Option}
use Rattle.std.specs.Prelude.{if◌then◌else◌}
use Rattle.std.specs.List.{flat_map}
use Rattle.std.specs.Option.{ForSome}
use Rattle.tor_merkle.specs.Feeding.{Feeding}
use Rattle.tor_merkle.specs.Layer.{piece_level}
use Rattle.tor_merkle.specs.declared.TheConstants.{BLOCK_LENGTH}
use Rattle.tor_plan.specs.Content.{unit_content}
use Rattle.tor_plan.specs.PlanFacts.{PlanFacts}
use Rattle.tor_plan.specs.WithinEntries.{IsInFile, unit_length}
use Rattle.tor_plan.specs.declared.units.Part.{Part}
use Rattle.tor_plan.specs.declared.units.PlanUnit.{PlanUnit}
use Rattle.tor_source.specs.Source.{SourceFacts}
use Rattle.tor_tree.specs.Kinds.{has_v1, has_v2}
use Rattle.tor_tree.specs.declared.kinds.Kind.{Kind}
use Rattle.tor_v1.specs.Piece.{piece_sums}
use Rattle.tor_sums.specs.declared.unit_sums.UnitSums.{UnitSums}
use Rattle.tor_sums.specs.declared.worker.WorkerSums.{WorkerSums}
use Rattle.tor_sums.specs.Hasher.{IsTreeOf}
pub use Rattle.tor_sums.specs.UnitSums.{bare_node, node_in}
use Rattle.tor_sums.specs.steps.Hashes.{Node, bytes_of_part, level_of, nodes_of_unit}
use Rattle.tor_sums.specs.steps.Reads.{AreReads, HaveRead, PartRead}
use Rattle.tor_sums.specs.steps.Worker.{IsFresh}

-- the joined SHA-1 of the pieces of each unit, where the kind has them
abbrev pub sums_of_units : Kind → ℕ → List (List ℕ) → List PlanUnit → List ℕ
sums_of_units kind piece_length contents units =
    if has_v1 kind then flat_map (λ unit. piece_sums piece_length (unit_content contents unit)) units else []

-- the parts of units, one after the other
abbrev pub parts_of : List PlanUnit → List Part
parts_of units = flat_map (λ unit. unit.parts) units

-- the nodes, where the kind has trees, and the joined SHA-1 are those of the units of files with these contents
pub record AreSumsOfUnits (plan : PlanFacts) (contents : List (List ℕ)) (units : List PlanUnit)
    (given : List Node) (sums : List ℕ) : Type 0 where
  pub nodes : has_v2 plan.kind ≡ true
      → given ≡ flat_map (nodes_of_unit plan.piece_length (level_of plan.trees) contents) units
  pub bare : has_v2 plan.kind ≡ false → given ≡ map (λ _. bare_node) units
  pub pieces : sums ≡ sums_of_units plan.kind plan.piece_length contents units

-- a unit was read after these bytes, and has this tree, as it has in any contents that have what was read; its bytes
-- and zeros go on with the bytes before
pub record ReadsUnit {F : Type 0} (is_steady : SourceFacts F → Type 0) (plan : PlanFacts) (unit : PlanUnit)
    (before : List ℕ) (sums : WorkerSums) (tree : Option Feeding) : Type 0 where
  pub reads : List PartRead
  pub are : AreReads is_steady plan unit.parts reads
  pub trees : (contents : List (List ℕ)) → HaveRead contents reads
      → IsTreeOf plan.kind plan.piece_length (flat_map (bytes_of_part contents) unit.parts) tree
  pub joined : List ℕ
  pub long : length joined ≡ unit_length unit
  pub same : (contents : List (List ℕ)) → HaveRead contents reads → unit_content contents unit ≡ joined
  pub fresh : IsFresh plan (before ++ joined) sums

-- a unit was read, and has this tree and these joined SHA-1s of its pieces, as it has in any contents that have what
-- was read
pub record TakesUnit {F : Type 0} (is_steady : SourceFacts F → Type 0) (plan : PlanFacts) (unit : PlanUnit)
    (tree : Option Feeding) (own : List ℕ) : Type 0 where
  pub reads : List PartRead
  pub are : AreReads is_steady plan unit.parts reads
  pub trees : (contents : List (List ℕ)) → HaveRead contents reads
      → IsTreeOf plan.kind plan.piece_length (flat_map (bytes_of_part contents) unit.parts) tree
  pub joined : List ℕ
  pub long : length joined ≡ unit_length unit
  pub same : (contents : List (List ℕ)) → HaveRead contents reads → unit_content contents unit ≡ joined
  pub is_own : own ≡ (if has_v1 plan.kind then piece_sums plan.piece_length joined else [])

-- units were read, and these are the sums of any contents that have what was read
pub record HashesUnits {F : Type 0} (is_steady : SourceFacts F → Type 0) (plan : PlanFacts) (units : List PlanUnit)
    (nodes : List Node) (pieces : List ℕ) : Type 0 where
  pub reads : List PartRead
  pub are : AreReads is_steady plan (parts_of units) reads
  pub sums : (contents : List (List ℕ)) → map length contents ≡ plan.lengths → HaveRead contents reads
      → AreSumsOfUnits plan contents units nodes pieces

-- so is one unit
abbrev pub SumsUpUnit : {F : Type 0} → (SourceFacts F → Type 0) → PlanFacts → PlanUnit → UnitSums → Type 0
SumsUpUnit is_steady plan unit sums =
    HashesUnits is_steady plan (unit ∷ []) (node_in sums ∷ []) sums.pieces.items

-- so is one unit once it has these sums of its pieces, as many bytes of which it has room for
abbrev pub OwesUnit : {F : Type 0} → (SourceFacts F → Type 0) → PlanFacts → PlanUnit → UnitSums → List ℕ → Type 0
OwesUnit is_steady plan unit sums own =
    HashesUnits is_steady plan (unit ∷ []) (node_in sums ∷ []) own × (length sums.pieces.items ≡ length own)

-- the unit is one part, and nothing else
abbrev pub IsOnePart : PlanUnit → Type 0
IsOnePart unit = (part : Part) × (unit ≡ record { zeros = 0; parts = part ∷ [] })

-- the parts of a unit are in the files of the plan; it has no more bytes than 1,024 of the longest pieces; in a kind
-- with trees it is one part
pub record IsUnitOf (plan : PlanFacts) (unit : PlanUnit) : Type 0 where
  pub within : unit_length unit ≤ 2 ^ 40
  pub parts : All (IsInFile plan.lengths) unit.parts
  pub alone : has_v2 plan.kind ≡ true → IsOnePart unit

-- a node at this level has room for so many bytes
abbrev pub HasRoomAt : ℕ → ℕ → ℕ → Type 0
HasRoomAt piece_length count level =
    (piece_level piece_length ≤ level) × (level ≤ 36) × (count ≤ BLOCK_LENGTH * 2 ^ level)

-- so is a unit of the plan; it has no more bytes than its level has room for
pub record IsUnitToSum (plan : PlanFacts) (unit : PlanUnit) : Type 0 where
  pub within : IsUnitOf plan unit
  pub room : ForSome (level_of plan.trees)
      (λ k. (has_v2 plan.kind ≡ true) × HasRoomAt plan.piece_length (unit_length unit) k)

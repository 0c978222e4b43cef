-- The hashes of the pieces of units, one after another: what some units of a plan come to, wherever they are hashed.
use Rattle.std.specs.Prelude.{◌≡◌, ◌-◌, ◌≤◌, ℕ, true, false, List, [], ◌∷◌, drop, length, nat_le, take, if◌then◌else◌}
use Rattle.std.specs.List.{All, AllByRecursion, flat_map}
use Rattle.tor_merkle.specs.Layer.{pieces_root, piece_roots}
use Rattle.tor_plan.specs.Content.{unit_content}
use Rattle.tor_plan.specs.PlanFacts.{PlanFacts}
use Rattle.tor_plan.specs.WithinEntries.{IsInFile}
use Rattle.tor_plan.specs.declared.units.PlanUnit.{PlanUnit}
use Rattle.tor_source.specs.Source.{SourceFacts, bytes_from}
use Rattle.tor_tree.specs.Kinds.{has_v1, has_v2}
use Rattle.tor_v1.specs.Piece.{piece_sums}
use Rattle.tor_sums.specs.UnitNodes.{Node, bytes_of_part, level_of, nodes_of_unit}

-- the units from one number on, and before another (profile)
abbrev pub units_between : ℕ → ℕ → List PlanUnit → List PlanUnit
units_between from to units = take (to - from) (drop from units)

-- the layer, or the hash alone if there is none
abbrev pub or_alone : List ℕ → List (List ℕ) → List (List ℕ)
or_alone hash [] = hash ∷ []
or_alone hash (first ∷ layer) = first ∷ layer

-- the hash of each piece of a unit that has this node: its part of the layer of its file, or the root of a file of at
-- most one piece
abbrev pub row_in : Node → List (List ℕ)
row_in node = or_alone node.0 node.1

-- those of units, where the files have these contents
abbrev pub row_of_units : PlanFacts → List (List ℕ) → List PlanUnit → List (List ℕ)
row_of_units plan contents units =
    flat_map row_in (flat_map (nodes_of_unit plan.piece_length (level_of plan.trees) contents) units)

-- the joined SHA-1 of the pieces of units
abbrev pub sums_of_pieces : PlanFacts → List (List ℕ) → List PlanUnit → List ℕ
sums_of_pieces plan contents units =
    flat_map (λ unit. piece_sums plan.piece_length (unit_content contents unit)) units

-- the hashes of the pieces of units. They are the Merkle hashes and the SHA-1s, as far as the kind has them, if the
-- files have these contents (BEP 52, "piece layers", "pieces root"; BEP 3, "info dictionary")
pub record IsRowOf (plan : PlanFacts) (contents : List (List ℕ)) (units : List PlanUnit)
    (hashes : List (List ℕ)) (pieces : List ℕ) : Type 0 where
  pub nodes : has_v2 plan.kind ≡ true → hashes ≡ row_of_units plan contents units
  pub bare : has_v2 plan.kind ≡ false → hashes ≡ []
  pub sums : pieces ≡ (if has_v1 plan.kind then sums_of_pieces plan contents units else [])

-- the root of a content of at most one piece; an empty one has no piece
abbrev pub hash_of_short : List ℕ → List (List ℕ)
hash_of_short [] = []
hash_of_short (byte ∷ bytes) = pieces_root (byte ∷ bytes) ∷ []

-- the hash of each piece of a file. It is the file's root if it has at most one (BEP 52, "piece layers", "pieces root")
abbrev pub hashes_of_file : ℕ → List ℕ → List (List ℕ)
hashes_of_file piece_length content =
    if nat_le (length content) piece_length then hash_of_short content else piece_roots content piece_length

-- a source has all bytes of units. No file of theirs ends before the last that is wanted of it (profile)
abbrev pub HasBytesAt : {F : Type 0} → SourceFacts F → List PlanUnit → Type 0
HasBytesAt facts units =
    AllByRecursion (λ part. part.length ≤ length (bytes_from facts part.file part.start))
    (flat_map (λ unit. unit.parts) units)

-- contents have the same bytes at units. It is so at each part of them (profile)
abbrev pub AreSameAt : List (List ℕ) → List (List ℕ) → List PlanUnit → Type 0
AreSameAt contents other units =
    AllByRecursion (λ part. bytes_of_part contents part ≡ bytes_of_part other part)
    (flat_map (λ unit. unit.parts) units)

-- the parts of units are in files of these lengths. They say no more of a file of which no unit has a part (profile)
abbrev pub AreInFiles : List ℕ → List PlanUnit → Type 0
AreInFiles lengths units = All (λ unit. All (IsInFile lengths) unit.parts) units

-- The hashes of all lots of a plan, one lot after another.
use Rattle.std.specs.Prelude.{◌≡◌, ℕ, ◌<◌, ◌*◌, List, length, map}
use Rattle.std.specs.Prelude.{if◌then◌else◌}
use Rattle.std.specs.Int.{div_ceil}
use Rattle.std.specs.List.{flat_map}
use Rattle.std.specs.Prelude.{slice_index_or}
use Rattle.tor_engine.specs.Rows.{AreSameAt, IsRowOf}
use Rattle.tor_sums.specs.Sums.{AreSumsOfPlan}
use Rattle.tor_engine.specs.declared.lot.PieceRow.{PieceRow}
use Rattle.tor_sums.specs.declared.sums.Sums.{Sums}
use Rattle.tor_plan.specs.PlanFacts.{PlanFacts}
use Rattle.tor_parts.specs.Dealing.{bytes_of, dealt}
use Rattle.tor_parts.specs.Joining.{pieces_of_lengths}
use Rattle.tor_tree.specs.Kinds.{has_v1, has_v2}

abbrev pub hashes_of : List PieceRow → List (List ℕ)
hashes_of rows = flat_map (λ row. row.hashes.items) rows

abbrev pub sums_of : List PieceRow → List ℕ
sums_of rows = flat_map (λ row. row.pieces.items) rows

-- there is a Merkle hash, and 20 bytes of SHA-1, for each piece, as the kind has them. In all there are as many Merkle
-- hashes as the files have pieces, each file by itself, and 20 bytes for each piece of the whole content, in `pieces`;
-- none of either if the kind has none (BEP 52, "piece layers"; BEP 3, "info dictionary")
pub record HasAllPieces (plan : PlanFacts) (rows : List PieceRow) : Type 0 where
  pub hashes : length (hashes_of rows)
      ≡ (if has_v2 plan.kind then pieces_of_lengths plan.piece_length plan.lengths else 0)
  pub sums : length (sums_of rows)
      ≡ (if has_v1 plan.kind then div_ceil (bytes_of plan.units) plan.piece_length * 20 else 0)

-- each row is that of its lot, if the files have these contents (profile)
abbrev pub AreRowsOf : PlanFacts → List (List ℕ) → List PieceRow → Type 0
AreRowsOf plan contents rows =
    (lot : ℕ) (d : PieceRow) → lot < length rows
    → IsRowOf plan contents (dealt (length rows) lot plan.units) (slice_index_or rows lot d).hashes.items
    (slice_index_or rows lot d).pieces.items

-- the same, if they have at each lot contents of its own (profile)
abbrev pub AreRowsOfEach : PlanFacts → (ℕ → List (List ℕ)) → List PieceRow → Type 0
AreRowsOfEach plan others rows =
    (lot : ℕ) (d : PieceRow) → lot < length rows → (map length (others lot) ≡ plan.lengths)
    × IsRowOf plan (others lot) (dealt (length rows) lot plan.units) (slice_index_or rows lot d).hashes.items
    (slice_index_or rows lot d).pieces.items

-- contents that have at each lot the bytes of the lot's own. They have the plan's lengths (profile)
pub record AreContentsOfEach (plan : PlanFacts) (others : ℕ → List (List ℕ)) (lots : ℕ)
    (contents : List (List ℕ)) : Type 0 where
  pub fit : map length contents ≡ plan.lengths
  pub same : (lot : ℕ) → lot < lots → AreSameAt contents (others lot) (dealt lots lot plan.units)

-- the sums of such contents (profile)
abbrev pub AreSumsOfEach : PlanFacts → (ℕ → List (List ℕ)) → ℕ → Sums → Type 0
AreSumsOfEach plan others lots sums =
    (contents : List (List ℕ)) × AreContentsOfEach plan others lots contents × AreSumsOfPlan plan contents sums

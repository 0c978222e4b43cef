-- Lots put into slots by their numbers. Only private clauses cite these.
use Rattle.std.specs.Prelude.{◌≡◌, ◌<◌, ℕ, List, [], ◌∷◌, ◌+◌, length, map, Option, None, Some, IfSome, option_map, slice_index_or, Vec}
use Rattle.std.specs.declared.alloc.Global.{Global}
use Rattle.tor_engine.specs.declared.lot.PieceRow.{PieceRow}
use Rattle.tor_meta.specs.Lots.{AreFirstLots, row_at}
use Rattle.tor_parts.specs.Dealing.{dealt}
use Rattle.tor_parts.specs.LotCounts.{HasOwnPieces}
use Rattle.tor_parts.specs.LotText.{LotFacts}
use Rattle.tor_plan.specs.PlanFacts.{PlanFacts}

-- the bytes of texts
abbrev pub texts_of : List (Vec ℕ Global) → List (List ℕ)
texts_of texts = map (λ text. text.items) texts

-- the hashes and the sums of a row
abbrev pub row_in : PieceRow → List (List ℕ) × List ℕ
row_in row = (row.hashes.items, row.pieces.items)

-- each slot has the row of the lot of its number, if it is there
abbrev pub AreSlots : List (Option PieceRow) → List LotFacts → Type 0
AreSlots slots lots =
    (k : ℕ) → k < length slots → option_map row_in (slice_index_or slots k None) ≡ row_at k lots

-- each row has all its pieces
abbrev pub HavePieces : PlanFacts → ℕ → List (Option PieceRow) → Type 0
HavePieces plan count slots =
    (k : ℕ) → k < length slots → IfSome (slice_index_or slots k None) (HasOwnPieces plan (dealt count k plan.units))

-- the first texts are lots, and stand in the slots
pub record IsGathered (plan : PlanFacts) (digest : List ℕ) (count n : ℕ) (texts : List (List ℕ))
    (slots : List (Option PieceRow)) : Type 0 where
  pub lots : List LotFacts
  pub are : AreFirstLots plan digest count n texts lots
  pub slotted : AreSlots slots lots
  pub pieces : HavePieces plan count slots
  pub long : length slots ≡ count

-- the numbers of empty slots; the first slot has this number
abbrev pub empty_from : ℕ → List (Option PieceRow) → List ℕ
empty_from n [] = []
empty_from n (None ∷ slots) = n ∷ empty_from (n + 1) slots
empty_from n (Some row ∷ slots) = empty_from (n + 1) slots

-- the row of a slot, if there is one
abbrev pub rows_in : Option PieceRow → List PieceRow
rows_in None = []
rows_in (Some row) = row ∷ []

-- the rows are those of all lots
pub record AreRowsOfLots (plan : PlanFacts) (rows : List PieceRow) (lots : List LotFacts) : Type 0 where
  pub some : 0 < length rows
  pub each : (k : ℕ) (d : PieceRow) → k < length rows → Some (row_in (slice_index_or rows k d)) ≡ row_at k lots
  pub pieces : (k : ℕ) (d : PieceRow) → k < length rows
      → HasOwnPieces plan (dealt (length rows) k plan.units) (slice_index_or rows k d)

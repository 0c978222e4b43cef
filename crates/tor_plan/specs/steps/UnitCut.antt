-- A unit while it is cut. Only private clauses cite this.
use Rattle.std.specs.Prelude.{◌≡◌, ℕ, ◌+◌, ◌*◌, ◌^◌, ◌<◌, ◌≤◌, max, map}
use Rattle.std.specs.List.{range_with_len}
use Rattle.tor_plan.specs.Pieces.{piece_of_unit, unit_between}
use Rattle.tor_plan.specs.declared.unit_cut.Stretch.{Stretch}
use Rattle.tor_plan.specs.declared.unit_cut.Stretch.TheVariants.{Bytes, Zeros}
use Rattle.tor_plan.specs.declared.unit_cut.UnitCut.{UnitCut}
use Rattle.tor_plan.specs.declared.units.PlanUnit.{PlanUnit}
use Rattle.tor_plan.specs.steps.Joined.{joined, part_alone, zeros_alone}

-- n bytes of a stretch, after so many of it
abbrev pub stretch_at : Stretch → ℕ → ℕ → PlanUnit
stretch_at (Bytes file start) done n =
    part_alone (record { file = file; start = start + done; length = n; zeros = 0 })
stretch_at Zeros done n = zeros_alone n

-- its offsets are numbers that a file can have
abbrev pub IsSmall : Stretch → ℕ → Type 0
IsSmall (Bytes file start) n = start + n < 2 ^ 64
IsSmall Zeros n = Unit {0}

-- at byte at of the unit there begin n bytes of a stretch: where the range that ends with i of them begins before them,
-- or has none of them, k more are so many more of it
abbrev pub IsStretchAt : PlanUnit → ℕ → Stretch → ℕ → Type 0
IsStretchAt unit at stretch n =
    (a i k : ℕ) → max a at ≡ at + i → 0 < k → i + k ≤ n
    → unit_between a (at + i + k) unit ≡ joined (unit_between a (at + i) unit) (stretch_at stretch i k)

-- the first x bytes of the unit were cut
pub record HasCut (cut : UnitCut) (unit : PlanUnit) (x : ℕ) : Type 0 where
  pub whole : ℕ
  pub units : cut.units.items ≡ map (piece_of_unit cut.size unit) (range_with_len 0 whole)
  pub begun : cut.begun ≡ unit_between (whole * cut.size) x unit
  pub room : x + cut.room ≡ (whole + 1) * cut.size

-- Units that are cut of one file.
use Rattle.std.specs.Prelude.{◌≡◌, ℕ, ◌+◌, ◌<◌, List, [], ◌∷◌, slice_index}
use Rattle.tor_plan.specs.declared.units.Part.{Part}
use Rattle.tor_plan.specs.declared.units.PlanUnit.{PlanUnit}

-- the unit is one part; where it does not end its file it has exactly size bytes, and no zeros
pub record IsFileUnit (lengths : List ℕ) (size : ℕ) (unit : PlanUnit) : Type 0 where
  pub part : Part
  pub alone : unit ≡ record { zeros = 0; parts = part ∷ [] }
  pub whole : part.start + part.length < slice_index lengths part.file → (part.length ≡ size) × (part.zeros ≡ 0)

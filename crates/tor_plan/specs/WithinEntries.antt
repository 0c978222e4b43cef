-- Where the parts of units are in the files of entries, and how many bytes units have.
use Rattle.std.specs.Prelude.{ℕ, ◌+◌, ◌<◌, ◌≤◌, All, List, length, sum_by, slice_index}
use Rattle.tor_plan.specs.declared.units.Part.{Part}
use Rattle.tor_plan.specs.declared.units.PlanUnit.{PlanUnit}

-- the part has bytes, all of them in a file of a list with these lengths
pub record IsInFile (lengths : List ℕ) (part : Part) : Type 0 where
  pub named : part.file < length lengths
  pub some : 0 < part.length
  pub within : part.start + part.length ≤ slice_index lengths part.file

-- all bytes of the unit: its zeros, those of files, and the zeros after them
abbrev pub unit_length : PlanUnit → ℕ
unit_length unit = unit.zeros + sum_by (λ part. part.length + part.zeros) unit.parts

-- the unit has at most size bytes, zeros among them
pub record IsUnitWithin (lengths : List ℕ) (size : ℕ) (unit : PlanUnit) : Type 0 where
  pub parts : All (IsInFile lengths) unit.parts
  pub within : unit_length unit ≤ size

-- Whether the bytes of parts are there, where the files have these contents.
use Rattle.std.specs.Prelude.{ℕ, ◌+◌, Bool, nat_le, List, [], length, slice_index_or}
use Rattle.std.specs.List.{list_all}
use Rattle.tor_plan.specs.declared.units.Part.{Part}
use Rattle.tor_plan.specs.declared.units.PlanUnit.{PlanUnit}

-- all bytes of the part are in its file
abbrev pub is_part_there : List (List ℕ) → Part → Bool
is_part_there contents part = nat_le (part.start + part.length) (length (slice_index_or contents part.file []))

-- all bytes of files that a piece has are there. So it is of a unit (profile)
abbrev pub is_there : List (List ℕ) → PlanUnit → Bool
is_there contents unit = list_all (is_part_there contents) unit.parts

-- A unit, and then another. Only private clauses cite this.
use Rattle.std.specs.Prelude.{ℕ, nat_lt, List, [], ◌∷◌, if◌then◌else◌}
use Rattle.tor_plan.specs.Entries.{after_part, after_zeros, empty_unit}
use Rattle.tor_plan.specs.declared.units.Part.{Part}
use Rattle.tor_plan.specs.declared.units.PlanUnit.{PlanUnit}

abbrev pub parts_then : List Part → PlanUnit → PlanUnit
parts_then [] v = v
parts_then (part ∷ parts) v =
    after_part part.file part.start part.length (after_zeros part.zeros (parts_then parts v))

abbrev pub joined : PlanUnit → PlanUnit → PlanUnit
joined u v = after_zeros u.zeros (parts_then u.parts v)

abbrev pub zeros_alone : ℕ → PlanUnit
zeros_alone n = record { zeros = n; parts = [] }

abbrev pub part_alone : Part → PlanUnit
part_alone part = record { zeros = 0; parts = part ∷ [] }

-- a whole file of m bytes, and none of no byte
abbrev pub file_alone : ℕ → ℕ → PlanUnit
file_alone index m =
    if nat_lt 0 m then part_alone (record { file = index; start = 0; length = m; zeros = 0 }) else empty_unit

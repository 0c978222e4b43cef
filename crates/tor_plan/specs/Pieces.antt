-- A unit cut into pieces, for work that answers piece by piece.
use Rattle.std.specs.Prelude.{ℕ, ◌+◌, ◌-◌, ◌*◌, max, nat_lt, List, [], ◌∷◌, map}
use Rattle.std.specs.Prelude.{if◌then◌else◌}
use Rattle.std.specs.Int.{div_ceil}
use Rattle.std.specs.List.{range_with_len}
use Rattle.tor_plan.specs.Entries.{after_part, after_zeros, empty_unit, shared}
use Rattle.tor_plan.specs.WithinEntries.{unit_length}
use Rattle.tor_plan.specs.declared.units.Part.{Part}
use Rattle.tor_plan.specs.declared.units.PlanUnit.{PlanUnit}

-- the bytes from a to b of parts and of the zeros after each; the first part begins at byte at
unfoldable pub parts_between : ℕ → ℕ → ℕ → List Part → PlanUnit
parts_between a b at [] = empty_unit
parts_between a b at (part ∷ parts) =
    if nat_lt 0 (shared a b at part.length) then
    after_part part.file (part.start + (max a at - at)) (shared a b at part.length)
    (after_zeros (shared a b (at + part.length) part.zeros)
    (parts_between a b (at + part.length + part.zeros) parts))
    else after_zeros (shared a b (at + part.length) part.zeros)
    (parts_between a b (at + part.length + part.zeros) parts)

-- the bytes from a to b of a unit
abbrev pub unit_between : ℕ → ℕ → PlanUnit → PlanUnit
unit_between a b unit = after_zeros (shared a b 0 unit.zeros) (parts_between a b unit.zeros unit.parts)

-- its k-th piece
abbrev pub piece_of_unit : ℕ → PlanUnit → ℕ → PlanUnit
piece_of_unit piece_length unit k = unit_between (k * piece_length) ((k + 1) * piece_length) unit

-- the pieces of a unit, each as a unit. The last may be shorter (profile)
unfoldable pub pieces_of_unit : ℕ → PlanUnit → List PlanUnit
pieces_of_unit piece_length unit =
    map (piece_of_unit piece_length unit) (range_with_len 0 (div_ceil (unit_length unit) piece_length))

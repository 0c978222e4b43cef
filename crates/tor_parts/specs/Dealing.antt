-- How the units of a plan are dealt to so many lots: each lot has the units that begin among its bytes. All lots have
-- equally many bytes, the first ones perhaps one more. Lots are counted from 0.
use Rattle.std.specs.Prelude.{ℕ, suc, ◌+◌, ◌-◌, ◌*◌, ◌/◌, ◌%◌, min, nat_lt, List, [], ◌∷◌, drop, length, sum_by, take}
use Rattle.std.specs.Prelude.{if◌then◌else◌}
use Rattle.tor_plan.specs.WithinEntries.{unit_length}
use Rattle.tor_plan.specs.declared.units.PlanUnit.{PlanUnit}

-- all bytes of units, those of padding among them (profile)
abbrev pub bytes_of : List PlanUnit → ℕ
bytes_of units = sum_by unit_length units

-- the byte at which a lot begins. All lots have equally many of so many bytes, the first ones perhaps one more
-- (profile)
abbrev pub first_byte : ℕ → ℕ → ℕ → ℕ
first_byte total lots lot = lot * (total / lots) + min lot (total % lots)

-- how many units begin before a byte. The first of them begins at byte at (profile)
unfoldable pub units_before : ℕ → ℕ → List PlanUnit → ℕ
units_before byte at [] = 0
units_before byte at (unit ∷ units) =
    if nat_lt at byte then suc (units_before byte (at + unit_length unit) units) else 0

-- the number of a lot's first unit. Past the last lot it is how many units there are (profile)
abbrev pub first_unit : ℕ → ℕ → List PlanUnit → ℕ
first_unit lots lot units =
    if nat_lt lot lots then units_before (first_byte (bytes_of units) lots lot) 0 units else length units

-- the units of a lot: those that begin among its bytes (profile)
abbrev pub dealt : ℕ → ℕ → List PlanUnit → List PlanUnit
dealt lots lot units =
    take (first_unit lots (lot + 1) units - first_unit lots lot units) (drop (first_unit lots lot units) units)

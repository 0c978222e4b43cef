-- How much came of a reader where a buffer was not filled.
use Rattle.std.specs.Prelude.{◌≡◌, ◌<◌, ◌≤◌, ℕ, List, length}
use Rattle.tor_source.specs.declared.filling.FillFault.{FillFault}
use Rattle.tor_source.specs.declared.filling.FillFault.TheVariants.{Read, TooLong}

-- bytes came before a fault of the reader, or more than there is room for. As many came as the fault tells, and no more
-- than the room (profile)
abbrev pub EndsFill : ℕ → FillFault → List ℕ → Type 0
EndsFill room (Read count fault) bytes = (length bytes ≡ count) × (length bytes ≤ room)
EndsFill room TooLong bytes = room < length bytes

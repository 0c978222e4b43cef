-- The pieces of a torrent dealt to many machines: each has its own run of the bytes of the bitfield.
use Rattle.std.specs.Prelude.{◌≡◌, ℕ, ◌+◌, ◌-◌, ◌*◌, ◌/◌, ◌%◌, min, true, List, drop, filter, length, take, Option}
use Rattle.std.specs.Prelude.{option_map}
use Rattle.std.specs.Int.{div_ceil}
use Rattle.std.specs.List.{list_any, range_with_len}
use Rattle.std.specs.Option.{option_or}
use Rattle.tor_engine.specs.PieceFault.{asked_fault, pieces_fault}
use Rattle.tor_view.specs.Files.{has_bytes_of}
use Rattle.tor_view.specs.Pieces.{pieces_of}
use Rattle.tor_recheck.specs.Recheck.{of_engine_error}
use Rattle.tor_recheck.specs.declared.errors.RecheckError.{RecheckError}
use Rattle.tor_recheck.specs.declared.errors.RecheckError.TheVariants.{Changed, Read, Resources, Workers}
use Rattle.tor_source.specs.Source.{SourceFacts}
use Rattle.tor_spec.specs.valid.View.{View}
use Rattle.tor_sums.specs.Contents.{contents_in}
use Rattle.tor_sums.specs.Fault.{first_of}

-- the byte at which a lot begins. All lots have equally many of so many bytes, the first ones perhaps one more
-- (profile)
abbrev pub lot_byte : ℕ → ℕ → ℕ → ℕ
lot_byte bytes lots lot = lot * (bytes / lots) + min lot (bytes % lots)

-- the first of so many pieces that a lot has, or if it has none the first after it. Each byte of the bitfield has eight
-- (BEP 3, "peer messages"; profile)
abbrev pub first_of_lot : ℕ → ℕ → ℕ → ℕ
first_of_lot count lots lot = min count (8 * lot_byte (div_ceil count 8) lots lot)

-- what a lot has of a list with one item for each piece (profile)
abbrev pub in_lot : {X : Type 0} → ℕ → ℕ → List X → List X
in_lot lots lot items =
    take (first_of_lot (length items) lots (lot + 1) - first_of_lot (length items) lots lot)
    (drop (first_of_lot (length items) lots lot) items)

-- the files that have bytes in the pieces of a lot, rising (profile)
abbrev pub files_of_lot : View → ℕ → ℕ → List ℕ
files_of_lot view lots lot =
    filter (λ file. list_any (has_bytes_of file) (in_lot lots lot (pieces_of view)))
    (range_with_len 0 (length view.files))

-- the first fault of a steady source in a lot. The lengths of its files come first, then its pieces that are there
-- (profile)
abbrev pub first_lot_fault : {F : Type 0} → SourceFacts F → View → ℕ → ℕ → Option (RecheckError F)
first_lot_fault facts view lots lot =
    option_map of_engine_error (option_or (first_of (asked_fault facts) (files_of_lot view lots lot))
    (pieces_fault facts (contents_in facts (length view.files)) (in_lot lots lot (pieces_of view))))

-- ---- of any source

-- the file has bytes in the pieces of a lot
abbrev pub IsFileOfLot : View → ℕ → ℕ → ℕ → Type 0
IsFileOfLot view lots lot file = list_any (has_bytes_of file) (in_lot lots lot (pieces_of view)) ≡ true

-- an error names no file but of the lot. A fault is of a file that has bytes in its pieces, be it of the length or of a
-- byte, and so is a change (profile)
abbrev pub IsOfLot : {F : Type 0} → View → ℕ → ℕ → RecheckError F → Type 0
IsOfLot view lots lot (Read file start fault) = IsFileOfLot view lots lot file
IsOfLot view lots lot (Changed file) = IsFileOfLot view lots lot file
IsOfLot view lots lot Resources = Unit {0}
IsOfLot view lots lot Workers = Unit {0}

-- What a recheck tells of a source: which pieces are there and right, or why that is not answered.
use Rattle.std.specs.Prelude.{◌≡◌, ◌⊎◌, ℕ, length, Option, Some}
use Rattle.std.specs.Prelude.{option_map}
use Rattle.std.specs.Option.{option_or}
use Rattle.tor_sums.specs.Contents.{contents_in}
use Rattle.tor_sums.specs.Given.{IsGivenPieces}
use Rattle.tor_engine.specs.PieceFault.{first_asked_fault, pieces_fault}
use Rattle.tor_sums.specs.declared.errors.EngineError.{EngineError}
use Rattle.tor_sums.specs.declared.errors.EngineError.TheVariants as engine
use Rattle.tor_view.specs.Pieces.{pieces_of}
use Rattle.tor_recheck.specs.declared.errors.RecheckError.{RecheckError}
use Rattle.tor_recheck.specs.declared.errors.RecheckError.TheVariants.{Read, Changed, Resources, Workers}
use Rattle.tor_source.specs.Answers.{Answers}
use Rattle.tor_source.specs.Source.{SourceFacts}
use Rattle.tor_spec.specs.valid.View.{View}

-- a recheck's name for a fault of the hashing. If pieces are hashed a missing file is no fault, and there is no stream
-- (profile)
abbrev pub of_engine_error : {F : Type 0} → EngineError F → RecheckError F
of_engine_error (engine.Read file start fault) = Read file start fault
of_engine_error (engine.Changed file) = Changed file
of_engine_error (engine.Missing file) = Changed file
of_engine_error engine.Resources = Resources
of_engine_error (engine.StreamTooLong file) = Changed file

-- the first fault of a steady source: lengths, then pieces that are there (profile)
abbrev pub first_fault : {F : Type 0} → SourceFacts F → View → Option (RecheckError F)
first_fault facts view =
    option_map of_engine_error (option_or (first_asked_fault facts (length view.files))
    (pieces_fault facts (contents_in facts (length view.files)) (pieces_of view)))

-- memory or a thread was refused, or this is the fault
abbrev pub IsFault : {F : Type 0} → Option (RecheckError F) → RecheckError F → Type 0
IsFault first error = (error ≡ Resources) ⊎ (first ≡ Some error)

-- what is answered of the source it gave or told, steady or not: a fault for this file and offset; a size of a changed
-- file, to which it did not keep. The file that is named is one of so many
abbrev pub IsGiven : {F : Type 0} → Answers F → ℕ → RecheckError F → Type 0
IsGiven answers count (Read file start fault) = IsGivenPieces answers count (engine.Read file start fault)
IsGiven answers count (Changed file) = IsGivenPieces answers count (engine.Changed file)
IsGiven answers count Resources = Unit {0}
IsGiven answers count Workers = Unit {0}

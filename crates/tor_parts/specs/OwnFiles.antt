-- The files of which units have parts, and what asking their lengths comes to.
use Rattle.std.specs.Prelude.{◌==◌, ℕ, Contains, List, length, map, slice_index, Option, None, Some, Result, Ok, Err}
use Rattle.std.specs.Prelude.{if◌then◌else◌}
use Rattle.std.specs.List.{AllByRecursion, flat_map}
use Rattle.std.specs.Option.{option_or}
use Rattle.tor_plan.specs.declared.units.PlanUnit.{PlanUnit}
use Rattle.tor_source.specs.Answers.{Answers}
use Rattle.tor_source.specs.Source.{SourceFacts, told_length}
use Rattle.tor_sums.specs.Fault.{first_of, units_fault}
use Rattle.tor_sums.specs.Given.{Departs, HasCause}
use Rattle.tor_sums.specs.declared.errors.EngineError.{EngineError}
use Rattle.tor_sums.specs.declared.errors.EngineError.TheVariants.{Changed, Missing, Read, Resources, StreamTooLong}

-- the files of which units have parts, one for each part, in the order of the parts (profile)
abbrev pub files_of : List PlanUnit → List ℕ
files_of units = flat_map (λ unit. map (λ part. part.file) unit.parts) units

-- what was told of the length of a file, if another is no fault: its fault, or that the file is missing or changed
abbrev pub unless_planned : {F : Type 0} → ℕ → ℕ → Result (Option ℕ) F → Option (EngineError F)
unless_planned file planned (Err fault) = Some (Read file None fault)
unless_planned file planned (Ok None) = Some (Missing file)
unless_planned file planned (Ok (Some count)) = if count == planned then None else Some (Changed file)

-- if the length of a file is asked, which was planned to have one of these: its fault, or that the file is missing, or
-- that it has another (profile)
abbrev pub planned_fault : {F : Type 0} → SourceFacts F → List ℕ → ℕ → Option (EngineError F)
planned_fault facts lengths file = unless_planned file (slice_index lengths file) (told_length facts file)

-- the first fault of the lengths of the files of units, file by file in the order of the parts (profile)
abbrev pub own_length_fault : {F : Type 0} → SourceFacts F → List ℕ → List PlanUnit → Option (EngineError F)
own_length_fault facts lengths units = first_of (planned_fault facts lengths) (files_of units)

-- the first fault of units: lengths, then bytes. The lengths are those of their own files alone (profile)
abbrev pub own_fault : {F : Type 0} → SourceFacts F → List ℕ → List PlanUnit → Option (EngineError F)
own_fault facts lengths units = option_or (own_length_fault facts lengths units) (units_fault facts units)

-- the source told the planned length of each of these files (profile)
abbrev pub HasToldOf : {F : Type 0} → Answers F → List ℕ → List ℕ → Type 0
HasToldOf answers lengths files =
    AllByRecursion (λ file. answers.told file (Some (slice_index lengths file))) files

-- what is answered of the source it gave. It is a fault that it gave for a length or a byte of one of the plan's files,
-- that it told that one is missing, or that it does not keep to the plan's length of one (profile)
abbrev pub IsGivenOwn : {F : Type 0} → Answers F → List ℕ → EngineError F → Type 0
IsGivenOwn answers lengths error = HasCause (record {
  count = length lengths;
  fault = answers.gave;
  changed = λ file. Departs answers file (Some (slice_index lengths file));
  missing = λ file. answers.told file None;
}) error

-- an error names no file but one of these: a fault is of one of them, be it of the length or of a byte, so is a change,
-- and so is what is missing; no stream is read (profile)
abbrev pub IsOfFiles : {F : Type 0} → List ℕ → EngineError F → Type 0
IsOfFiles files (Read file start fault) = Contains files file
IsOfFiles files (Changed file) = Contains files file
IsOfFiles files (Missing file) = Contains files file
IsOfFiles files Resources = Unit {0}
IsOfFiles files (StreamTooLong file) = ⊥

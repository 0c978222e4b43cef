-- The first fault of a steady source, in the order in which it is asked.
use Rattle.std.specs.Prelude.{◌≡◌, ◌⊎◌, ◌<◌, ◌≤◌, ℕ, ◌==◌, List, [], ◌∷◌, length, map, ◌+◌, Option, None, Some, Result}
use Rattle.std.specs.Prelude.{Ok, Err, option_map, if◌then◌else◌}
use Rattle.std.specs.List.{AllByRecursion, enumerate_from, flat_map, range_with_len}
use Rattle.std.specs.Option.{option_or}
use Rattle.tor_plan.specs.declared.units.Part.{Part}
use Rattle.tor_plan.specs.declared.units.PlanUnit.{PlanUnit}
use Rattle.tor_source.specs.Source.{SourceFacts, bytes_from, told_length}
use Rattle.tor_sums.specs.Contents.{contents_in}
use Rattle.tor_sums.specs.declared.errors.EngineError.{EngineError}
use Rattle.tor_sums.specs.declared.errors.EngineError.TheVariants.{Read, Changed, Missing, Resources}

-- the first that there is, in the order of the list (profile)
unfoldable pub first_of : {A B : Type 0} → (A → Option B) → List A → Option B
first_of found [] = None
first_of found (x ∷ xs) = option_or (found x) (first_of found xs)

-- if the length of a file is asked: its fault, or that the file is missing
abbrev pub unless_told : {F : Type 0} → ℕ → Result (Option ℕ) F → Option (EngineError F)
unless_told file (Err fault) = Some (Read file None fault)
unless_told file (Ok None) = Some (Missing file)
unless_told file (Ok (Some count)) = None

-- if a file's length is asked, its fault, or that the file is missing (profile)
abbrev pub length_fault : {F : Type 0} → SourceFacts F → ℕ → Option (EngineError F)
length_fault facts file = unless_told file (told_length facts file)

-- the lengths that a steady source tells. None of them fails or is missing (profile)
pub record ToldLengths {F : Type 0} (facts : SourceFacts F) (count : ℕ) (lengths : List ℕ) : Type 0 where
  pub told : lengths ≡ map length (contents_in facts count)
  pub faultless : first_of (length_fault facts) (range_with_len 0 count) ≡ None

-- the first file of which another length was told than was planned; the first of the list has this number
unfoldable pub change_from : ℕ → List ℕ → List ℕ → Option ℕ
change_from file [] planned = None
change_from file (one ∷ told) [] = None
change_from file (one ∷ told) (other ∷ planned) =
    if one == other then change_from (file + 1) told planned else Some file

-- the first fault of the lengths, or the first that is not the plan's. All lengths are asked, in the files' order, and
-- then compared with those that were planned (profile)
abbrev pub first_length_fault : {F : Type 0} → SourceFacts F → List ℕ → Option (EngineError F)
first_length_fault facts planned =
    option_or (first_of (length_fault facts) (range_with_len 0 (length planned)))
    (option_map (λ file. Changed file) (change_from 0 (map length (contents_in facts (length planned))) planned))

-- where a byte is read
abbrev pub byte_fault : {F : Type 0} → SourceFacts F → ℕ → ℕ → Option (EngineError F)
byte_fault facts file offset = option_map (λ fault. Read file (Some offset) fault) (facts.byte_fault file offset)

-- where the bytes of files of these lengths are read, file by file, each from its first byte to its last
abbrev pub file_fault : {F : Type 0} → SourceFacts F → ℕ → ℕ → Option (EngineError F)
file_fault facts file count = first_of (byte_fault facts file) (range_with_len 0 count)

-- the first fault of the bytes, file by file. Each is read from its first byte to its last (profile)
abbrev pub first_byte_fault : {F : Type 0} → SourceFacts F → List ℕ → Option (EngineError F)
first_byte_fault facts lengths = first_of (λ file. file_fault facts file.0 file.1) (enumerate_from 0 lengths)

-- the first fault of a steady source: lengths, then bytes (profile)
abbrev pub first_fault : {F : Type 0} → SourceFacts F → List ℕ → Option (EngineError F)
first_fault facts lengths = option_or (first_length_fault facts lengths) (first_byte_fault facts lengths)

-- if the bytes of a part are read
abbrev pub part_fault : {F : Type 0} → SourceFacts F → Part → Option (EngineError F)
part_fault facts part = first_of (byte_fault facts part.file) (range_with_len part.start part.length)

-- the first fault of the bytes of a unit (profile)
abbrev pub unit_fault : {F : Type 0} → SourceFacts F → PlanUnit → Option (EngineError F)
unit_fault facts unit = first_of (part_fault facts) unit.parts

-- the same of units. Their parts are read one after the other (profile)
abbrev pub units_fault : {F : Type 0} → SourceFacts F → List PlanUnit → Option (EngineError F)
units_fault facts units = first_of (unit_fault facts) units

-- if a byte is wanted, which a file may not have: its fault, or past the end of the file that this was changed
abbrev pub wanted_byte_fault : {F : Type 0} → SourceFacts F → ℕ → ℕ → Option (EngineError F)
wanted_byte_fault facts file offset =
    if length (bytes_from facts file offset) == 0 then Some (Changed file) else byte_fault facts file offset

-- if those of a part are wanted
abbrev pub wanted_part_fault : {F : Type 0} → SourceFacts F → Part → Option (EngineError F)
wanted_part_fault facts part = first_of (wanted_byte_fault facts part.file) (range_with_len part.start part.length)

-- the first fault of the bytes of a unit, where one past the end of its file counts as a change (profile)
abbrev pub wanted_unit_fault : {F : Type 0} → SourceFacts F → PlanUnit → Option (EngineError F)
wanted_unit_fault facts unit = first_of (wanted_part_fault facts) unit.parts

-- the same of units (profile)
abbrev pub wanted_units_fault : {F : Type 0} → SourceFacts F → List PlanUnit → Option (EngineError F)
wanted_units_fault facts units = first_of (wanted_unit_fault facts) units

-- no byte of a part fails past the end of the file
abbrev pub PartFailsWithin : {F : Type 0} → SourceFacts F → Part → Type 0
PartFailsWithin facts part = (offset : ℕ) → part.start ≤ offset → offset < part.start + part.length
    → length (bytes_from facts part.file offset) ≡ 0 → facts.byte_fault part.file offset ≡ None

-- no byte of these units fails past the end of its file (profile)
abbrev pub FailsWithin : {F : Type 0} → SourceFacts F → List PlanUnit → Type 0
FailsWithin facts units = AllByRecursion (PartFailsWithin facts) (flat_map (λ unit. unit.parts) units)

-- memory was refused, or this is the fault (profile)
abbrev pub IsFault : {F : Type 0} → Option (EngineError F) → EngineError F → Type 0
IsFault first error = (error ≡ Resources) ⊎ (first ≡ Some error)

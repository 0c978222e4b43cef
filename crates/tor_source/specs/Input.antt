-- What a reader gave.
use Rattle.std.specs.Prelude.{ℕ, ◌<◌, ◌≤◌, List, length, Option}
use Rattle.std.specs.Io.KnownBytes.{Consumes, IsAtEnd}
use Rattle.tor_source.specs.declared.input.TheConstants.{MAX_INPUT_LENGTH}
use Rattle.tor_source.specs.declared.input.InputFault.{InputFault}
use Rattle.tor_source.specs.declared.input.InputFault.TheVariants.{TooLong, Read, Memory}

-- the reader gave these bytes, and has no more
pub record ReadsWhole (old new : Option (List ℕ)) (bytes : List ℕ) : Type 0 where
  pub given : Consumes old new bytes
  pub end : IsAtEnd new

-- the reader gave these bytes, at most 2^30, and has no more. That is what the program reads of an input (profile)
abbrev pub ReadsAll : Option (List ℕ) → Option (List ℕ) → List ℕ → Type 0
ReadsAll old new bytes = ReadsWhole old new bytes × (length bytes ≤ MAX_INPUT_LENGTH)

-- the reader gave some bytes, of which the fact holds
abbrev pub ReadsSome : Option (List ℕ) → Option (List ℕ) → (List ℕ → Type 0) → Type 0
ReadsSome old new P = (bytes : List ℕ) × Consumes old new bytes × P bytes

-- how much was read where it ended in this fault
abbrev pub EndsInput : ℕ → InputFault → List ℕ → Type 0
EndsInput limit TooLong bytes = limit < length bytes
EndsInput limit (Read fault) bytes = length bytes ≤ limit
EndsInput limit Memory bytes = length bytes ≤ limit

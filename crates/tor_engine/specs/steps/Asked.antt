-- Lengths that are asked again. Only private clauses cite these.
use Rattle.std.specs.Prelude.{ℕ, List, Option, None, Some, Result, Ok, Err, nat_eq, if◌then◌else◌}
use Rattle.std.specs.List.{enumerate_from}
use Rattle.std.specs.Option.{option_eq}
use Rattle.tor_source.specs.Source.{SourceFacts, told_length}
use Rattle.tor_sums.specs.Fault.{first_of}
use Rattle.tor_sums.specs.declared.errors.EngineError.{EngineError}
use Rattle.tor_sums.specs.declared.errors.EngineError.TheVariants.{Changed, Read}

-- where a file is asked again of which this size was told: its fault, or that another is told
abbrev pub unless_same : {F : Type 0} → ℕ → Option ℕ → Result (Option ℕ) F → Option (EngineError F)
unless_same file size (Err fault) = Some (Read file None fault)
unless_same file size (Ok again) = if option_eq nat_eq again size then None else Some (Changed file)

abbrev pub again_fault : {F : Type 0} → SourceFacts F → ℕ × Option ℕ → Option (EngineError F)
again_fault facts file = unless_same file.0 file.1 (told_length facts file.0)

-- the first of files of which these sizes were told
abbrev pub first_again_fault : {F : Type 0} → SourceFacts F → List (Option ℕ) → Option (EngineError F)
first_again_fault facts sizes = first_of (again_fault facts) (enumerate_from 0 sizes)

-- The file that was asked last. Only private clauses cite these.
use Rattle.std.specs.Prelude.{◌≡◌, ℕ, List, slice_index, Option, None, Some, IfSome}
use Rattle.tor_parts.specs.OwnFiles.{planned_fault}
use Rattle.tor_source.specs.Answers.{Answers}
use Rattle.tor_source.specs.Source.{SourceFacts}

-- it had no fault
abbrev pub IsAsked : {F : Type 0} → SourceFacts F → List ℕ → Option ℕ → Type 0
IsAsked facts lengths last = IfSome last (λ file. planned_fault facts lengths file ≡ None)

-- it has the planned length
abbrev pub IsToldOf : {F : Type 0} → Answers F → List ℕ → Option ℕ → Type 0
IsToldOf answers lengths last = IfSome last (λ file. answers.told file (Some (slice_index lengths file)))

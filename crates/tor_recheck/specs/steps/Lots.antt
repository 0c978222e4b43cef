-- A source of which some files alone are asked. Only private clauses cite these.
use Rattle.std.specs.Prelude.{◌≡◌, ℕ, Bool, true, false, List, None, slice_index_or, if◌then◌else◌}
use Rattle.tor_source.specs.Answers.{Answers}
use Rattle.tor_source.specs.Source.{SourceFacts}

-- the file is one of them
abbrev pub is_own : List Bool → ℕ → Bool
is_own own file = slice_index_or own file false

-- the facts of these files alone; each other one is missing
abbrev pub own_facts : {F : Type 0} → List Bool → SourceFacts F → SourceFacts F
own_facts own facts = record {
  contents = λ file. if is_own own file then facts.contents file else None;
  length_fault = λ file. if is_own own file then facts.length_fault file else None;
  byte_fault = λ file offset. if is_own own file then facts.byte_fault file offset else None;
}

-- what a source answered of these files; of any other it is told to be missing, and gave no fault
abbrev pub own_answers : {F : Type 0} → List Bool → Answers F → Answers F
own_answers own answers = record {
  gave = λ file offset fault. (is_own own file ≡ true) × answers.gave file offset fault;
  told = λ file size. (is_own own file ≡ true → answers.told file size) × (is_own own file ≡ false → size ≡ None);
  ended = λ file start. is_own own file ≡ true → answers.ended file start;
}

-- What a source answered.
use Rattle.std.specs.Prelude.{◌≡◌, ◌<◌, ◌≤◌, ℕ, false, Option, None, Some, length, option_map}
use Rattle.std.specs.IoError.{error_kind}
use Rattle.std.specs.declared.io.Error.{Error}
use Rattle.tor_source.specs.Faults.{is_absence}
use Rattle.tor_source.specs.Source.{SourceFacts, bytes_from, fault_at}

-- what a source answered, whether it is steady or not. It gave faults, for the length of a file (none) or for a byte of
-- it at an offset; it told sizes of files, none of one that is missing; and from offsets of files reads gave no byte,
-- though the buffer had room (profile)
pub record Answers (F : Type 0) : Type 1 where
  pub gave : ℕ → Option ℕ → F → Type 0
  pub told : ℕ → Option ℕ → Type 0
  pub ended : ℕ → ℕ → Type 0

-- what a source answers that answers by these facts, each time
abbrev pub answers_of : {F : Type 0} → SourceFacts F → Answers F
answers_of facts = record {
  gave = λ file offset fault. fault_at facts file offset ≡ Some fault;
  told = λ file size. size ≡ option_map length (facts.contents file);
  ended = λ file start. length (bytes_from facts file start) ≡ 0;
}

-- what the system may answer of so many files. Only these have faults, of which none of a length says that nothing is
-- there; any other file is missing; and a read can end at any offset (profile)
abbrev pub system_answers : ℕ → Answers Error
system_answers count = record {
  gave = λ file offset fault. (file < count) × (offset ≡ None → is_absence (error_kind fault) ≡ false);
  told = λ file size. count ≤ file → size ≡ None;
  ended = λ _ _. Unit {0};
}

-- of a source of which nothing is said: it may have answered anything
abbrev pub any_answers : {F : Type 0} → Answers F
any_answers = record { gave = λ _ _ _. Unit {0}; told = λ _ _. Unit {0}; ended = λ _ _. Unit {0} }

-- What the sources in memory have: files by their numbers, and where they fail.
use Rattle.std.specs.Prelude.{◌==◌, ◌&&◌, ℕ, Bool, List, [], Option, Some, None, find, length, nat_eq}
use Rattle.std.specs.Prelude.{nat_lt, option_map, slice_index_or, unwrap_or, if◌then◌else◌}
use Rattle.std.specs.Option.{option_eq}
use Rattle.tor_source.specs.Source.{SourceFacts}

-- the content of a file, none where it is missing, as all are past the end of the list
abbrev pub content_of : List (Option (List ℕ)) → ℕ → Option (List ℕ)
content_of files file = slice_index_or files file None

-- the facts of files in memory. Nothing of them fails (profile)
abbrev pub mem_facts : List (Option (List ℕ)) → SourceFacts ℕ
mem_facts files = record {
  contents = content_of files;
  length_fault = λ _. None;
  byte_fault = λ _ _. None;
}

-- files, and faults at them: each is a file, the offset of a byte, none for the length, and a number
pub record FailingFiles : Type 0 where
  pub files : List (Option (List ℕ))
  pub faults : List (ℕ × Option ℕ × ℕ)

-- the fault is at this offset
abbrev pub is_at : ℕ → Option ℕ → (ℕ × Option ℕ × ℕ) → Bool
is_at file offset fault = fault.0 == file && option_eq nat_eq fault.1 offset

-- the number of the first fault at an offset
abbrev pub first_fault : List (ℕ × Option ℕ × ℕ) → ℕ → Option ℕ → Option ℕ
first_fault faults file offset = option_map (λ fault. fault.2) (find (is_at file offset) faults)

-- the facts of such files with faults at chosen offsets. Of the faults at one offset the first counts, and none at a
-- byte that the file does not have (profile)
abbrev pub fail_facts : FailingFiles → SourceFacts ℕ
fail_facts source = record {
  contents = content_of source.files;
  length_fault = λ file. first_fault source.faults file None;
  byte_fault = λ file offset.
      if nat_lt offset (length (unwrap_or (content_of source.files file) []))
      then first_fault source.faults file (Some offset) else None;
}

-- files, and the most bytes that one read gives
pub record ShortFiles : Type 0 where
  pub files : List (Option (List ℕ))
  pub step : ℕ

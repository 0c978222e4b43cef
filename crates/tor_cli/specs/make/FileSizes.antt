-- How many bytes files have together.
use Rattle.std.specs.Prelude.{ℕ, ◌-◌, ◌^◌, List, map, min, sum, Option, None, Some, Result, Err, Ok}
use Rattle.std.specs.List.{range_with_len}
use Rattle.tor_source.specs.Source.{SourceFacts, told_length}

-- the bytes of files of these lengths, at most 2^64 - 1
abbrev pub total_of : List ℕ → ℕ
total_of lengths = min (sum lengths) (2 ^ 64 - 1)

-- the bytes of a file, as its source tells. One of which it tells none has none (profile)
abbrev pub told_bytes : {F : Type 0} → Result (Option ℕ) F → ℕ
told_bytes (Ok (Some bytes)) = bytes
told_bytes (Ok None) = 0
told_bytes (Err fault) = 0

-- the bytes of the first so many files of a source that answers by these facts
abbrev pub size_of_files : {F : Type 0} → SourceFacts F → ℕ → ℕ
size_of_files facts count = total_of (map (λ file. told_bytes (told_length facts file)) (range_with_len 0 count))

-- The contents of the files of a source.
use Rattle.std.specs.Prelude.{ℕ, List, [], map, unwrap_or}
use Rattle.std.specs.List.{range_with_len}
use Rattle.tor_source.specs.Source.{SourceFacts}

-- the contents of a source's first so many files. A missing file has no byte (profile)
abbrev pub contents_in : {F : Type 0} → SourceFacts F → ℕ → List (List ℕ)
contents_in facts count = map (λ file. unwrap_or (facts.contents file) []) (range_with_len 0 count)

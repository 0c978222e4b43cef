-- Where the bytes of parts are in their files.
use Rattle.std.specs.Prelude.{ℕ, ◌+◌, List, [], ◌∷◌, ◌++◌, map}
use Rattle.std.specs.List.{flat_map, range_with_len}
use Rattle.tor_plan.specs.declared.units.Part.{Part}
use Rattle.tor_plan.specs.declared.units.PlanUnit.{PlanUnit}

-- a run of bytes of a file, each as the file's index and its offset there
abbrev pub positions : ℕ → ℕ → ℕ → List (ℕ × ℕ)
positions file start count = map (λ offset. (file, offset)) (range_with_len start count)

abbrev pub positions_of_part : Part → List (ℕ × ℕ)
positions_of_part part = positions part.file part.start part.length

-- where the bytes of a unit are, part by part (profile)
abbrev pub positions_of_unit : PlanUnit → List (ℕ × ℕ)
positions_of_unit unit = flat_map positions_of_part unit.parts

-- where the bytes of files are: file by file, byte by byte. They have these lengths, and the first of them this index
-- (profile)
unfoldable pub positions_of_files : ℕ → List ℕ → List (ℕ × ℕ)
positions_of_files file [] = []
positions_of_files file (count ∷ lengths) = positions file 0 count ++ positions_of_files (file + 1) lengths

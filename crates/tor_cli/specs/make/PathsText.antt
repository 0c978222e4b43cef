-- The text of a list of files: their paths, each ended by a zero byte, as `find -printf '%P\0'` writes them.
use Rattle.std.specs.Prelude.{◌≡◌, ◌≢◌, ◌==◌, ◌∷◌, ◌++◌, [], ℕ, List, false, flat_map, Option, None, Some}
use Rattle.std.specs.List.{All, slice_split}
use Rattle.std.specs.Option.{option_or}
use Rattle.tor_tree.specs.Name.{has_byte, name_fault, slash}
use Rattle.tor_tree.specs.Path.{IsFilePath}
use Rattle.tor_tree.specs.declared.names.NameError.{NameError}
use Rattle.tor_tree.specs.declared.names.NameError.TheVariants as names
use Rattle.tor_report.specs.Shown.{path_text}
use Rattle.tor_cli.specs.declared.make.paths_text.PathsFault.{PathsFault}
use Rattle.tor_cli.specs.declared.make.paths_text.PathsFault.TheVariants.{Memory, Name, Unended}

-- the names of a path of which this is the text: what stands between its slashes
abbrev pub names_in : List ℕ → List (List ℕ)
names_in text = slice_split (λ b. b == slash) text

-- the fault of the first of these that is no name
abbrev pub names_fault : List (List ℕ) → Option NameError
names_fault [] = None
names_fault (name ∷ names) = option_or (name_fault name) (names_fault names)

-- the fault of a list of which a path has this one
abbrev pub of_name_error : NameError → PathsFault
of_name_error names.Memory = Memory
of_name_error fault = Name fault

-- the byte that ends a path in a list; no path has it
abbrev pub path_end : ℕ
path_end = 0

-- a path, and the byte that ends it
abbrev pub listed_path : List (List ℕ) → List ℕ
listed_path path = path_text path ++ path_end ∷ []

-- the paths one after another, each ended by a zero byte (profile)
abbrev pub paths_text : List (List (List ℕ)) → List ℕ
paths_text paths = flat_map listed_path paths

-- why a text is that of no list, after the paths before: the next has a part that is no name, or the text ends within
-- it (profile)
abbrev pub IsNoList : List ℕ → PathsFault → Type 0
IsNoList text (Name fault) = (before : List (List (List ℕ))) × (line rest : List ℕ) × All IsFilePath before
    × (text ≡ paths_text before ++ (line ++ path_end ∷ rest)) × (has_byte path_end line ≡ false)
    × (names_fault (names_in line) ≡ Some fault)
IsNoList text Unended = (before : List (List (List ℕ))) × (rest : List ℕ) × All IsFilePath before
    × (text ≡ paths_text before ++ rest) × (rest ≢ []) × (has_byte path_end rest ≡ false)
IsNoList text Memory = Unit {0}

-- What was met below a folder and is none of given files.
use Rattle.std.specs.Prelude.{ℕ, Bool, not, ◌&&◌, List, ◌++◌, codes, map, take}
use Rattle.std.specs.List.{filter, list_any}
use Rattle.std.specs.Str.{bytes_eq}
use Rattle.tor_source.specs.Places.{names_bytes}

-- these bytes are one of these paths
abbrev pub is_one_of : List (List ℕ) → List ℕ → Bool
is_one_of known path = list_any (λ one. bytes_eq one path) known

-- the path begins with the folder `.pad`
abbrev pub is_below_pad : List ℕ → Bool
is_below_pad path = bytes_eq (take 5 path) (codes ".pad/")

-- the path is none of these, and not below the folder `.pad`. There clients keep padding (BEP 47, "padding files";
-- profile)
abbrev pub is_extra : List (List ℕ) → List ℕ → Bool
is_extra known path = not (is_one_of known path) && not (is_below_pad path)

-- of the paths of what was met those that are extra, files first. These are the names of the files that can be taken,
-- the bytes of the paths of what is refused, and the names of the files that are known (profile)
abbrev pub extra_paths : List (List (List ℕ)) → List (List ℕ) → List (List (List ℕ)) → List (List ℕ)
extra_paths taken refused known = filter (is_extra (map names_bytes known)) (map names_bytes taken ++ refused)

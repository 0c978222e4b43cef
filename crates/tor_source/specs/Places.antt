-- Where the system has the files below a folder: places and names are lists of bytes.
use Rattle.std.specs.Prelude.{ℕ, ◌==◌, ◌-◌, ◌++◌, ◌∷◌, [], List, length, take, if◌then◌else◌}
use Rattle.std.specs.Prelude.{slice_index, slice_index_or}
use Rattle.std.specs.List.{flat_map}
use Rattle.tor_tree.specs.Name.{slash}

-- a place, less the slash at its end if it has one
abbrev pub without_slash : List ℕ → List ℕ
without_slash place = if slice_index place (length place - 1) == slash then take (length place - 1) place else place

-- a place, and each name after a slash
abbrev pub place_below : List ℕ → List (List ℕ) → List ℕ
place_below place names = place ++ flat_map (λ name. slash ∷ name) names

-- a folder's place, less a slash at its end, and each name after a slash. There it has the file that these names lead
-- to; the empty place is no folder, and has them at the empty place, where nothing ever is (profile)
abbrev pub place_of : List ℕ → List (List ℕ) → List ℕ
place_of folder names = if length folder == 0 then [] else place_below (without_slash folder) names

-- the bytes of a path: the names above, each with a slash behind it, and a name
abbrev pub path_bytes : List (List ℕ) → List ℕ → List ℕ
path_bytes above name = flat_map (λ folder. folder ++ slash ∷ []) above ++ name

-- the bytes of a path with these names
abbrev pub names_bytes : List (List ℕ) → List ℕ
names_bytes names = path_bytes (take (length names - 1) names) (slice_index_or names (length names - 1) [])

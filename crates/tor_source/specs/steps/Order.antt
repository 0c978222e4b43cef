-- For the invariant of `walk` alone: the order in which the files below a folder are found.
use Rattle.std.specs.Prelude.{◌≡◌, ◌≤◌, ◌<◌, ◌+◌, ◌++◌, ◌∷◌, [], ℕ, List, length, map, take, drop, vec_len}
use Rattle.std.specs.List.{All, AllPairs}
use Rattle.std.specs.List.Sorted.{IsStrictlySortedBy}
use Rattle.std.specs.declared.cmp.Ordering.TheVariants.{Less}
use Rattle.tor_tree.specs.Path.{name_cmp, path_cmp}
use Rattle.tor_source.specs.steps.Listing.{HasSameNames}
use Rattle.tor_source.specs.declared.folder.walk.WaitingName.{WaitingName}
use Rattle.tor_source.specs.declared.folder.found.FoundFiles.{FoundFiles}
use Rattle.tor_source.specs.declared.refused.Refusal.{Refusal}
use Rattle.tor_source.specs.declared.refused.Refused.{Refused}
use Rattle.tor_source.specs.declared.folder.walk.Standing.{Standing}
use Rattle.tor_source.specs.declared.folder.walk.Standing.TheVariants.{File, Folder, NotTaken}
use Rattle.tor_tree.specs.declared.paths.TheConstants.{MAX_NAMES}

-- the paths of the files that were found strictly rise and have at most 64 names, and of each something was told
pub record HasFound (found : FoundFiles) : Type 0 where
  pub rising : IsStrictlySortedBy path_cmp found.paths.items
  pub short : All (λ path. length path ≤ MAX_NAMES) found.paths.items
  pub told : vec_len found.listed.lengths ≡ length found.paths.items

-- the file that these names lead to was added
pub record HasTaken (old : FoundFiles) (names : List (List ℕ)) (new : FoundFiles) : Type 0 where
  pub path : new.paths.items ≡ old.paths.items ++ names ∷ []
  pub told : vec_len new.listed.lengths ≡ vec_len old.listed.lengths + 1
  pub refused : new.refused.items ≡ old.refused.items

abbrev pub told_of : Refused → List ℕ × Refusal
told_of one = (one.path.items, one.refusal)

-- something was refused, whose path has these bytes
pub record HasRefused (old : FoundFiles) (path : List ℕ) (refusal : Refusal) (new : FoundFiles) : Type 0 where
  pub paths : new.paths.items ≡ old.paths.items
  pub told : vec_len new.listed.lengths ≡ vec_len old.listed.lengths
  pub refused : map told_of new.refused.items ≡ map told_of old.refused.items ++ (path, refusal) ∷ []

-- what so many names lead to: a folder has names that rise, and a file is no deeper than it may be
abbrev pub IsStanding : ℕ → Standing → Type 0
IsStanding depth (Folder names) = IsStrictlySortedBy (λ name next. name_cmp name.items next.items) names.items
IsStanding depth (File _) = depth ≤ MAX_NAMES
IsStanding depth (NotTaken _) = Unit {0}

-- each path comes before this one
abbrev pub AreBefore : List (List ℕ) → List (List (List ℕ)) → Type 0
AreBefore path paths = All (λ earlier. path_cmp earlier path ≡ Less) paths

-- a path, and whatever is inside it, comes before a later one
abbrev pub IsPast : List (List ℕ) → List (List ℕ) → Type 0
IsPast path later = (more : List (List ℕ)) → path_cmp (path ++ more) later ≡ Less

-- paths that wait, the next one last, while others were found: each is past those after it, and past all that were
-- found
pub record IsWaiting (found : List (List (List ℕ))) (waiting : List (List (List ℕ))) : Type 0 where
  pub apart : AllPairs (λ later sooner. IsPast sooner later) waiting
  pub before : All (λ path. AreBefore path found) waiting

-- the path of an entry, whose first names are those of the path that was entered last
abbrev pub path_in : List (List ℕ) → WaitingName → List (List ℕ)
path_in last entry = take entry.depth last ++ entry.name.items ∷ []

abbrev pub AreNested : List WaitingName → Type 0
AreNested entries = AllPairs (λ later sooner. later.depth ≤ sooner.depth) entries

-- entries that wait once a path was entered and dealt with
pub record IsAhead (found : List (List (List ℕ))) (last : List (List ℕ)) (entries : List WaitingName) : Type 0 where
  pub paths : IsWaiting found (map (path_in last) entries)
  pub nested : AreNested entries
  pub within : All (λ entry. entry.depth ≤ length last) entries

-- entries that wait while a path is entered
pub record IsEntered (found : List (List (List ℕ))) (path : List (List ℕ)) (entries : List WaitingName) : Type 0 where
  pub paths : IsWaiting found (map (path_in path) entries ++ path ∷ [])
  pub nested : AreNested entries
  pub within : All (λ entry. entry.depth < length path) entries

abbrev pub name_of : WaitingName → List ℕ
name_of entry = entry.name.items

-- entries that waited before, and after them these names
pub record HasAdded (names : List (List ℕ)) (before after : List WaitingName) : Type 0 where
  pub stay : take (length before) after ≡ before
  pub named : HasSameNames names (map name_of (drop (length before) after))

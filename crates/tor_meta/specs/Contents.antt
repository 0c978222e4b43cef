-- Files and their contents, and the torrent of them.
use Rattle.std.specs.Prelude.{◌≡◌, ℕ, List, [], ◌∷◌, map, Vec}
use Rattle.std.specs.declared.alloc.Global.{Global}
use Rattle.std.specs.List.{zip}
use Rattle.std.specs.List.Sorted.{IsPermutation, IsStrictlySortedBy}
use Rattle.tor_spec.specs.Facts.{File}
use Rattle.tor_spec.specs.Metainfo.{metainfo}
use Rattle.tor_spec.specs.Settings.{Settings}
use Rattle.tor_tree.specs.FileList.{LetteredFiles, files_with_attrs}
use Rattle.tor_tree.specs.Letters.{no_letters}
use Rattle.tor_tree.specs.Path.{path_cmp}
use Rattle.tor_tree.specs.declared.attr.Attr.{Attr}

-- files in memory, with their contents. They are those that were handed in (profile)
abbrev pub files_in : List (List (List ℕ) × Vec ℕ Global) → List File
files_in files = map (λ file. record { path = file.0; content = file.1.items; attr = no_letters }) files

-- paths without letters
abbrev pub without_letters : List (List (List ℕ)) → List (List (List ℕ) × Attr)
without_letters paths = map (λ path. (path, no_letters)) paths

-- the bytes are the torrent of the files, in the order of their paths (profile)
abbrev pub IsMadeOf : Settings → List File → List ℕ → Type 0
IsMadeOf settings files bytes =
    (sorted : List File) × IsPermutation files sorted × IsStrictlySortedBy path_cmp (map (λ file. file.path) sorted)
    × (bytes ≡ metainfo settings sorted)

-- the same of some files that have these paths and letters (profile)
abbrev pub IsMadeOfSome : Settings → List (List (List ℕ) × Attr) → List ℕ → Type 0
IsMadeOfSome settings files bytes =
    (sorted : List File) × IsPermutation files (map (λ file. (file.path, file.attr)) sorted)
    × IsStrictlySortedBy path_cmp (map (λ file. file.path) sorted) × (bytes ≡ metainfo settings sorted)

-- paths, each with its letters and the content at its place. File i has the i-th path, its letters, and the i-th
-- content (profile)
abbrev pub files_with : List (List (List ℕ) × Attr) → List (List ℕ) → List File
files_with files contents =
    map (λ file. record { path = file.0.0; content = file.1; attr = file.0.1 }) (zip files contents)

-- files of a list with their letters and contents
abbrev pub files_of : LetteredFiles → List (List ℕ) → List File
files_of list contents =
    map (λ file. record { path = file.0.0.0; content = file.1; attr = file.0.1 }) (zip (files_with_attrs list) contents)

-- the one file of this name
abbrev pub one_file : List ℕ → List ℕ → Attr → List File
one_file name content attr = record { path = name ∷ []; content = content; attr = attr } ∷ []

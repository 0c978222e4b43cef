-- Lists of files: pairs of a path and a length in bytes.
use Rattle.std.specs.Prelude.{◌≡◌, ℕ, ◌==◌, Bool, ◌&&◌, ◌||◌, nat_lt, All, List, length, map, count_by, sum_by, Option}
use Rattle.std.specs.Prelude.{Some, None, if◌then◌else◌}
use Rattle.std.specs.Int.{next_multiple_of}
use Rattle.std.specs.List.{list_any, starts_with, zip}
use Rattle.std.specs.List.Sorted.{IsStrictlySortedBy}
use Rattle.std.specs.Option.{option_or}
use Rattle.tor_tree.specs.declared.attr.Attr.{Attr}
use Rattle.tor_tree.specs.declared.lists.ListError.{ListError}
use Rattle.tor_tree.specs.declared.lists.ListError.TheVariants.{NoFiles, Duplicate, FileAndFolder, TooLarge}
use Rattle.tor_tree.specs.Letters.{no_letters}
use Rattle.tor_tree.specs.Path.{IsFilePath, name_eq, path_eq, path_cmp}
use Rattle.tor_merkle.specs.declared.TheConstants.{MAX_LENGTH}
use Rattle.tor_tree.specs.declared.lists.TheConstants.{MAX_TOTAL, ROUNDING}

-- the paths of pairs, of a path and of whatever goes with it
abbrev pub paths_of : {X : Type 0} → List (List (List ℕ) × X) → List (List (List ℕ))
paths_of files = map (λ file. file.0) files

abbrev pub lengths_of : List (List (List ℕ) × ℕ) → List ℕ
lengths_of files = map (λ file. file.1) files

-- some path is in the list more than once
abbrev pub paths_repeat : List (List (List ℕ)) → Bool
paths_repeat paths = list_any (λ path. nat_lt 1 (count_by (path_eq path) paths)) paths

-- a path is inside a folder: it begins with the folder's names and has more
abbrev pub is_inside : List (List ℕ) → List (List ℕ) → Bool
is_inside folder path = starts_with name_eq path folder && nat_lt (length folder) (length path)

-- some path is a folder that another path is inside
abbrev pub paths_nest : List (List (List ℕ)) → Bool
paths_nest paths = list_any (λ folder. list_any (is_inside folder) paths) paths

-- a length is over 2^50, or the lengths, each rounded up to a multiple of 2^30, sum to over 2^62
abbrev pub lengths_too_large : List ℕ → Bool
lengths_too_large lengths =
    list_any (nat_lt MAX_LENGTH) lengths
    || nat_lt MAX_TOTAL (sum_by (λ length. next_multiple_of length ROUNDING) lengths)

-- why paths are no list: the first of three causes that holds, or none
abbrev pub paths_fault : List (List (List ℕ)) → Option ListError
paths_fault paths =
    if length paths == 0 then Some NoFiles else (
    if paths_repeat paths then Some Duplicate else (
    if paths_nest paths then Some FileAndFolder else None))

-- why lengths are not those of a list
abbrev pub lengths_fault : List ℕ → Option ListError
lengths_fault lengths = if lengths_too_large lengths then Some TooLarge else None

-- why files are no list for a torrent, the first of four causes. It is the fault of their paths, if there is one, else
-- that of their lengths (profile)
abbrev pub list_fault : List (List (List ℕ) × ℕ) → Option ListError
list_fault files = option_or (paths_fault (paths_of files)) (lengths_fault (lengths_of files))

-- the paths strictly rise
abbrev pub IsInPathOrder : {X : Type 0} → List (List (List ℕ) × X) → Type 0
IsInPathOrder files = IsStrictlySortedBy path_cmp (paths_of files)

-- what every list of files keeps
pub record IsFileList (files : List (List (List ℕ) × ℕ)) : Type 0 where
  pub faultless : list_fault files ≡ None
  pub in_order : IsInPathOrder files
  pub named : All (λ file. IsFilePath file.0) files

-- files, and the letters of each
pub record LetteredFiles : Type 0 where
  pub files : List (List (List ℕ) × ℕ)
  pub attrs : List Attr

-- each file with its letters
abbrev pub files_with_attrs : LetteredFiles → List ((List (List ℕ) × ℕ) × Attr)
files_with_attrs list = zip list.files list.attrs

-- files without letters
abbrev pub without_letters : List (List (List ℕ) × ℕ) → LetteredFiles
without_letters files = record { files = files; attrs = map (λ file. no_letters) files }

-- what every list of files with letters keeps
pub record IsLetteredList (list : LetteredFiles) : Type 0 where
  pub lawful : IsFileList list.files
  pub one_each : length list.attrs ≡ length list.files

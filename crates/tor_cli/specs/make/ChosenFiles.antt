-- The files that `--files-from` chooses by a list of their paths, in a file or on standard input.
use Rattle.std.specs.Prelude.{◌≡◌, ◌≢◌, ◌≤◌, ◌<◌, ℕ, List, length, codes, Option, None, Some}
use Rattle.std.specs.List.{All}
use Rattle.std.specs.List.Sorted.{IsPermutation, IsStrictlySortedBy}
use Rattle.tor_source.specs.Input.{EndsInput, ReadsAll, ReadsSome}
use Rattle.tor_source.specs.declared.input.InputFault.{InputFault}
use Rattle.tor_source.specs.declared.input.InputFault.TheVariants as inputs
use Rattle.tor_source.specs.declared.input.TheConstants.{MAX_INPUT_LENGTH}
use Rattle.tor_meta.specs.declared.make_error.MakeError.TheVariants as makes
use Rattle.tor_tree.specs.FileList.{paths_fault}
use Rattle.tor_tree.specs.Path.{IsFilePath, path_cmp}
use Rattle.tor_tree.specs.declared.lists.ListError.{ListError}
use Rattle.tor_cli.specs.make.PathsText.{IsNoList, paths_text}
use Rattle.tor_cli.specs.declared.make.paths_text.PathsFault.TheVariants as texts
use Rattle.tor_cli.specs.declared.proof.claim.ArgumentFault.TheVariants.{Files}
use Rattle.tor_cli.specs.declared.fault.Fault.{Fault}
use Rattle.tor_cli.specs.declared.fault.Fault.TheVariants.{Argument, Make, Name, Read, Resources, TooLong}

-- the bytes list these paths, in whatever order, each once; the paths rise (profile)
pub record AreChosenBy (bytes : List ℕ) (paths : List (List (List ℕ))) : Type 0 where
  pub listed : List (List (List ℕ))
  pub are : All IsFilePath listed
  pub spelled : paths_text listed ≡ bytes
  pub same : IsPermutation listed paths
  pub rising : IsStrictlySortedBy path_cmp paths

-- the bytes of the list that the word names. `-` is what the reader has, and any other word a file, of which no
-- contract says what it holds (profile)
pub record IsListAt (word : List ℕ) (reader reader' : Option (List ℕ)) (bytes : List ℕ) : Type 0 where
  pub input : word ≡ codes "-" → ReadsAll reader reader' bytes
  pub file : word ≢ codes "-" → (reader' ≡ reader) × (length bytes ≤ MAX_INPUT_LENGTH)

-- these files are chosen, if a word names a list (profile)
abbrev pub IsChoice : Option (List ℕ) → Option (List ℕ) → Option (List ℕ) → Option (List (List (List ℕ))) → Type 0
IsChoice None reader reader' chosen = (reader' ≡ reader) × (chosen ≡ None)
IsChoice (Some word) reader reader' chosen = (bytes : List ℕ) × IsListAt word reader reader' bytes
    × ((paths : List (List (List ℕ))) × (chosen ≡ Some paths) × AreChosenBy bytes paths)

-- the paths of a list make no files, by this fault
abbrev pub AreNoFiles : List ℕ → ListError → Type 0
AreNoFiles bytes fault = (listed : List (List (List ℕ))) × All IsFilePath listed × (paths_text listed ≡ bytes)
    × (paths_fault listed ≡ Some fault)

-- of the list that the word names this holds
abbrev pub OfList : List ℕ → Option (List ℕ) → Option (List ℕ) → (List ℕ → Type 0) → Type 0
OfList word reader reader' Holds = (bytes : List ℕ) × IsListAt word reader reader' bytes × Holds bytes

-- the list was not read, by this fault
abbrev pub IsUnread : List ℕ → Option (List ℕ) → Option (List ℕ) → InputFault → Type 0
IsUnread word reader reader' fault =
    (word ≡ codes "-" → ReadsSome reader reader' (EndsInput MAX_INPUT_LENGTH fault))
    × (word ≢ codes "-" → reader' ≡ reader)

-- why no files are chosen (profile)
abbrev pub IsNoChoice : Option (List ℕ) → Option (List ℕ) → Option (List ℕ) → Fault → Type 0
IsNoChoice None reader reader' fault = ⊥
IsNoChoice (Some word) reader reader' (Name fault) =
    OfList word reader reader' (λ bytes. IsNoList bytes (texts.Name fault))
IsNoChoice (Some word) reader reader' (Argument Files) =
    OfList word reader reader' (λ bytes. IsNoList bytes texts.Unended)
IsNoChoice (Some word) reader reader' (Make (makes.List fault)) =
    OfList word reader reader' (λ bytes. AreNoFiles bytes fault)
IsNoChoice (Some word) reader reader' (Read fault) = IsUnread word reader reader' (inputs.Read fault)
IsNoChoice (Some word) reader reader' TooLong = IsUnread word reader reader' inputs.TooLong
IsNoChoice (Some word) reader reader' Resources = Unit {0}
IsNoChoice (Some word) reader reader' other = ⊥

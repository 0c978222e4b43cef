-- The files at a place of the system, the faults that they may have, and when no torrent is made of them.
use Rattle.std.specs.Prelude.{◌≡◌, ◌≢◌, ◌≤◌, ◌<◌, ◌∷◌, [], ℕ, Bool, true, false, List, length, Option, None, Some}
use Rattle.std.specs.List.{All}
use Rattle.std.specs.List.Sorted.{IsStrictlySortedBy}
use Rattle.std.specs.declared.io.Error.{Error}
use Rattle.tor_meta.specs.Make.{IsGivenTo, make_refusal}
use Rattle.tor_meta.specs.MakeStreams.{stream_refusal}
use Rattle.tor_meta.specs.declared.make_error.MakeError.{MakeError}
use Rattle.tor_meta.specs.declared.make_error.MakeError.TheVariants.{Hashing}
use Rattle.tor_sums.specs.declared.errors.EngineError.TheVariants as engine
use Rattle.tor_meta.specs.declared.order.Order.{Order}
use Rattle.tor_source.specs.Answers.{system_answers}
use Rattle.tor_tree.specs.Path.{path_cmp}
use Rattle.tor_source.specs.declared.faults.ScanFault.TheVariants as scans
use Rattle.tor_cli.specs.make.Attrs.{IsNotLettered}
use Rattle.tor_cli.specs.declared.fault.Fault.{Fault}
use Rattle.tor_cli.specs.declared.fault.Fault.TheVariants.{Make, Scan, Resources as NoResources}
use Rattle.tor_cli.specs.declared.make.way.Way.{Way}
use Rattle.tor_cli.specs.declared.make.way.Way.TheVariants.{Shared, Streams}

-- the paths of a file, or of the files below a folder. The path of one file is the torrent's name; those below a folder
-- rise, and have at most 64 names (profile)
abbrev pub AreFound : List ℕ → Bool → List (List (List ℕ)) → Type 0
AreFound name true paths = paths ≡ (name ∷ []) ∷ []
AreFound name false paths = IsStrictlySortedBy path_cmp paths × All (λ path. length path ≤ 64) paths

-- they are the files that are chosen below a folder, if a list chooses some (profile)
abbrev pub AreAsChosen : Option (List (List (List ℕ))) → Bool → List (List (List ℕ)) → Type 0
AreAsChosen None single paths = Unit {0}
AreAsChosen (Some chosen) single paths = (single ≡ false) × (paths ≡ chosen)

-- the files at a place, of which a list may choose some
pub record AreFilesAt (name : List ℕ) (chosen : Option (List (List (List ℕ)))) (single : Bool)
    (paths : List (List (List ℕ))) : Type 0 where
  pub found : AreFound name single paths
  pub as_chosen : AreAsChosen chosen single paths

-- a file that a list chooses is not there. Which that is no contract says (profile)
abbrev pub IsChosenMissing : Option (List (List (List ℕ))) → MakeError Error → Type 0
IsChosenMissing (Some chosen) (Hashing (engine.Missing file)) = file < length chosen
IsChosenMissing chosen error = ⊥

-- why there are no files with letters at a place. The letters may be in a file (profile)
abbrev pub IsNotFound : List ℕ → Option (List (List (List ℕ))) → Option (List ℕ) → Fault → Type 0
IsNotFound name chosen attrs (Scan fault) = fault ≢ scans.Memory
IsNotFound name chosen attrs (Make error) = IsChosenMissing chosen error
IsNotFound name chosen attrs NoResources = Unit {0}
IsNotFound name chosen attrs fault = (single : Bool) × (paths : List (List (List ℕ)))
    × AreFilesAt name chosen single paths × IsNotLettered attrs paths fault

-- why an order is refused before a byte is read; for streams there are more reasons
abbrev pub refusal_by : Way → Order → List (List (List ℕ)) → Option (MakeError Error)
refusal_by (Shared how) order paths = make_refusal order paths
refusal_by (Streams workers) order paths = stream_refusal order paths

-- what is answered where so many files are read once: a fault of one after some bytes, or that one has too many
abbrev pub IsStreamFault : ℕ → MakeError Error → Type 0
IsStreamFault count (Hashing (engine.Read file None fault)) = ⊥
IsStreamFault count (Hashing (engine.Read file (Some start) fault)) = file < count
IsStreamFault count (Hashing (engine.Changed file)) = ⊥
IsStreamFault count (Hashing (engine.Missing file)) = ⊥
IsStreamFault count (Hashing (engine.StreamTooLong file)) = file < count
IsStreamFault count other = Unit {0}

-- what is answered of so many files they gave or told
abbrev pub IsGivenBy : Way → ℕ → MakeError Error → Type 0
IsGivenBy (Shared how) count error = IsGivenTo (system_answers count) count error
IsGivenBy (Streams workers) count error = IsStreamFault count error

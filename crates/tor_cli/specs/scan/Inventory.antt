-- What stands at a place: the files that can be taken, and what is refused.
use Rattle.std.specs.Prelude.{◌≡◌, ◌≢◌, ◌≤◌, ℕ, List, length, map, codes, Option, None, Some}
use Rattle.std.specs.IoError.{error_kind}
use Rattle.std.specs.List.{All}
use Rattle.std.specs.List.Sorted.{IsStrictlySortedBy}
use Rattle.std.specs.declared.io.ErrorKind.{ErrorKind}
use Rattle.std.specs.declared.io.ErrorKind.TheVariants.{NotFound, PermissionDenied}
use Rattle.tor_source.specs.Named.{AreParted, path_of}
use Rattle.tor_source.specs.declared.faults.ScanFault.TheVariants as scans
use Rattle.tor_source.specs.declared.refused.OtherKind.{OtherKind}
use Rattle.tor_source.specs.declared.refused.OtherKind.TheVariants.{BlockDevice, CharacterDevice, Fifo, Folder, Link}
use Rattle.tor_source.specs.declared.refused.OtherKind.TheVariants.{Socket, Unknown}
use Rattle.tor_source.specs.declared.refused.Refusal.{Refusal}
use Rattle.tor_source.specs.declared.refused.Refusal.TheVariants.{Missing, NotRegular, NotUtf8, System, TooDeep}
use Rattle.tor_tree.specs.Path.{path_cmp}
use Rattle.tor_cli.specs.declared.fault.Fault.{Fault}
use Rattle.tor_cli.specs.declared.fault.Fault.TheVariants.{Name, Resources, Scan}
use Rattle.tor_cli.specs.declared.scan.inventory.Inventory.{Inventory}

-- if files are chosen, each in its turn is taken or refused
abbrev pub ArePartsOf : Option (List (List (List ℕ))) → Inventory → Type 0
ArePartsOf None found = Unit {0}
ArePartsOf (Some chosen) found = AreParted chosen found.paths.items (map path_of found.refused.items)

-- files that can be taken, each with a length. Their paths rise and have at most 64 names; which files are at a place
-- no contract says (profile)
pub record IsInventory (chosen : Option (List (List (List ℕ)))) (found : Inventory) : Type 0 where
  pub one_each : length found.lengths.items ≡ length found.paths.items
  pub rising : IsStrictlySortedBy path_cmp found.paths.items
  pub short : All (λ path. length path ≤ 64) found.paths.items
  pub parts : ArePartsOf chosen found

-- why there is none (profile)
abbrev pub IsNoInventory : Option (List (List (List ℕ))) → Fault → Type 0
IsNoInventory chosen (Scan fault) = fault ≢ scans.Memory
IsNoInventory None (Name fault) = Unit {0}
IsNoInventory chosen Resources = Unit {0}
IsNoInventory chosen other = ⊥

-- the code and the name of a refusal, as `make` has them
abbrev pub refusal_code : Refusal → List ℕ
refusal_code NotUtf8 = codes "F1 NotUtf8"
refusal_code (NotRegular kind) = codes "F2 NotRegular"
refusal_code TooDeep = codes "F3 TooDeep"
refusal_code Missing = codes "E3 Missing"
refusal_code (System fault) = codes "F4 System"

-- what stands where a file could be taken, in a word
abbrev pub kind_word : OtherKind → List ℕ
kind_word Link = codes "link"
kind_word Fifo = codes "fifo"
kind_word Socket = codes "socket"
kind_word BlockDevice = codes "device"
kind_word CharacterDevice = codes "device"
kind_word Folder = codes "folder"
kind_word Unknown = codes "unknown"

-- why the system refused, in a word
abbrev pub reason_word : ErrorKind → List ℕ
reason_word PermissionDenied = codes "permission"
reason_word NotFound = codes "vanished"
reason_word _ = codes "fault"

-- what is refused, in a word
abbrev pub refusal_word : Refusal → List ℕ
refusal_word NotUtf8 = codes "name"
refusal_word (NotRegular kind) = kind_word kind
refusal_word TooDeep = codes "depth"
refusal_word Missing = codes "missing"
refusal_word (System fault) = reason_word (error_kind fault)

-- What a scan answers to a name that is none, and to a system that refuses; and which refusals tell that nothing is
-- there.
use Rattle.std.specs.Prelude.{Bool, true, false, ℕ, List, length, nat_le}
use Rattle.std.specs.declared.io.ErrorKind.{ErrorKind}
use Rattle.std.specs.declared.io.ErrorKind.TheVariants.{InvalidFilename, NotADirectory, NotFound, OutOfMemory}
use Rattle.tor_tree.specs.declared.names.NameError.{NameError}
use Rattle.tor_tree.specs.declared.names.NameError.TheVariants as names
use Rattle.tor_source.specs.declared.faults.ScanFault.{ScanFault}
use Rattle.tor_source.specs.declared.faults.ScanFault.TheVariants as faults
use Rattle.tor_source.specs.declared.refused.Refusal.{Refusal}
use Rattle.tor_source.specs.declared.refused.Refusal.TheVariants.{NotRegular, NotUtf8, TooDeep}

abbrev pub fault_of_name : NameError → ScanFault
fault_of_name names.NotUtf8 = faults.NotUtf8
fault_of_name names.Memory = faults.Memory
fault_of_name _ = faults.System

-- the fault of a scan that meets a refusal
abbrev pub fault_of_refusal : Refusal → ScanFault
fault_of_refusal NotUtf8 = faults.NotUtf8
fault_of_refusal (NotRegular _) = faults.NotRegular
fault_of_refusal TooDeep = faults.TooDeep
fault_of_refusal _ = faults.System

abbrev pub fault_of_kind : ErrorKind → ScanFault
fault_of_kind OutOfMemory = faults.Memory
fault_of_kind _ = faults.System

-- nothing is at the place, or it leads through a file
abbrev pub is_absence : ErrorKind → Bool
is_absence NotFound = true
is_absence NotADirectory = true
is_absence _ = false

-- the same of what the system says of a place. A name that is too long for the file system is one that nothing has; but
-- a place of more than 4,095 bytes is refused whatever its names are (Linux, PATH_MAX)
abbrev pub is_absence_at : List ℕ → ErrorKind → Bool
is_absence_at place InvalidFilename = nat_le (length place) 4095
is_absence_at place kind = is_absence kind

-- Where the files of a torrent are looked for, by what the system tells of a place, and by how many files there are.
use Rattle.std.specs.Prelude.{ℕ, ◌==◌, Bool, true, false, if◌then◌else◌}
use Rattle.std.specs.declared.io.ErrorKind.{ErrorKind}
use Rattle.std.specs.declared.io.ErrorKind.TheVariants.{OutOfMemory}
use Rattle.tor_source.specs.Faults.{is_absence}
use Rattle.tor_source.specs.declared.faults.ScanFault.TheVariants.{System, Memory}
use Rattle.tor_cli.specs.declared.recheck.whereabouts.Standing.{Standing}
use Rattle.tor_cli.specs.declared.recheck.whereabouts.Standing.TheVariants.{File, NoFile, Nothing, NotTold, NoMemory}
use Rattle.tor_cli.specs.declared.recheck.whereabouts.Whereabouts.{Whereabouts}
use Rattle.tor_cli.specs.declared.recheck.whereabouts.Whereabouts.TheVariants.{Itself, Below, Nowhere}

abbrev pub is_memory : ErrorKind → Bool
is_memory OutOfMemory = true
is_memory _ = false

-- what a fault of the place tells, by its kind (profile)
abbrev pub standing_of_kind : ErrorKind → Standing
standing_of_kind kind = if is_absence kind then Nothing else (if is_memory kind then NoMemory else NotTold)

-- where a torrent's files are looked for, by the place and their number. A file by itself is what a torrent of one file
-- has, and nowhere to look for the files of another (profile)
abbrev pub looked_for : Standing → ℕ → Whereabouts
looked_for File files = if files == 1 then Itself else Nowhere System
looked_for NoFile files = Below
looked_for Nothing files = Below
looked_for NotTold files = Below
looked_for NoMemory files = Nowhere Memory

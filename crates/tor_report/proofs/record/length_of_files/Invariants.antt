-- The bytes of the files so far.
use Rattle.std.proofs.Common.{◌≡◌, take}
use Rattle.tor_report.specs.Records.{total_length}
use Rattle.tor_report.proofs.record.length_of_files.Given as goal

abbrev pub invariant-files : goal.invariant-files
invariant-files l = l.total ≡ total_length (take l.shown-index l.files)

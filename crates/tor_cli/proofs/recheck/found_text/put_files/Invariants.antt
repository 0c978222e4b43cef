-- The files so far are put.
use Rattle.std.proofs.Common.{length, take}
use Rattle.std.specs.List.{zip}
use Rattle.std.specs.Prelude.{flat_map}
use Rattle.tor_report.specs.Put.{Puts}
use Rattle.tor_cli.specs.recheck.FoundFiles.{told_of_pair}
use Rattle.tor_cli.proofs.recheck.found_text.put_files.Given as goal

abbrev pub invariant-files : goal.invariant-files
invariant-files g l =
    Puts g.S.Sink.took (flat_map (told_of_pair l.listing) (take (length l.yielded) (zip l.fn.found l.fn.files)))
    l.fn.out l.fn.buffer l.out l.buffer

-- The lines so far are put.
use Rattle.std.proofs.Common.{length, take}
use Rattle.std.specs.List.{range_with_len}
use Rattle.std.specs.Prelude.{flat_map}
use Rattle.tor_report.specs.Put.{Puts}
use Rattle.tor_cli.specs.scan.ScanText.{line_of}
use Rattle.tor_cli.proofs.scan.lines.put_files.Given as goal

abbrev pub invariant-files : goal.invariant-files
invariant-files g l =
    Puts g.S.Sink.took
    (flat_map (line_of l.found) (take l.number (range_with_len 0 (length l.found.paths.items))))
    l.fn.out l.fn.buffer l.out l.buffer

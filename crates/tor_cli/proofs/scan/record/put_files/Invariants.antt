-- The files so far are put, and it is known if there are any.
use Rattle.std.proofs.Common.{◌≡◌, false, length, map, take}
use Rattle.std.specs.List.{range_with_len}
use Rattle.tor_report.specs.Put.{Puts}
use Rattle.tor_cli.specs.steps.Items.{are_any, items_front}
use Rattle.tor_cli.specs.text.Records.{scanned_data}
use Rattle.tor_cli.proofs.scan.record.put_files.Given as goal

abbrev pub invariant-files : goal.invariant-files
invariant-files g l =
    Puts g.S.Sink.took
    (items_front false (map (scanned_data l.found) (take l.number (range_with_len 0 (length l.found.paths.items)))))
    l.fn.out l.fn.buffer l.out l.buffer
    × (l.later
    ≡ are_any false (map (scanned_data l.found) (take l.number (range_with_len 0 (length l.found.paths.items)))))

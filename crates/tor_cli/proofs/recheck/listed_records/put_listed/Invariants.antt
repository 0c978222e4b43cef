-- The files so far are put, and it is known if one of them is listed.
use Rattle.std.proofs.Common.{◌≡◌, false, length, take}
use Rattle.std.specs.List.{zip}
use Rattle.std.specs.Prelude.{flat_map}
use Rattle.tor_report.specs.Put.{Puts}
use Rattle.tor_cli.specs.steps.Items.{are_any, items_front}
use Rattle.tor_cli.specs.text.Records.{listed_pair}
use Rattle.tor_cli.proofs.recheck.listed_records.put_listed.Given as goal

abbrev pub invariant-files : goal.invariant-files
invariant-files g l =
    Puts g.S.Sink.took
    (items_front false (flat_map (listed_pair l.listing) (take (length l.yielded) (zip l.fn.told l.fn.files))))
    l.fn.out l.fn.buffer l.out l.buffer
    × (l.later
    ≡ are_any false (flat_map (listed_pair l.listing) (take (length l.yielded) (zip l.fn.told l.fn.files))))

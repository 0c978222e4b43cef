-- The files so far are put.
use Rattle.std.proofs.Common.{length, take}
use Rattle.std.specs.List.{zip}
use Rattle.std.specs.Prelude.{flat_map}
use Rattle.tor_report.specs.Put.{Puts}
use Rattle.tor_report.specs.Records.{placed_data}
use Rattle.tor_report.specs.steps.Members.{item_after}
use Rattle.tor_report.proofs.buffer.Buffer.put_other_files.Given as goal

abbrev pub invariant-files : goal.invariant-files
invariant-files g l =
    Puts g.S.Sink.took (flat_map (item_after placed_data) (take (length l.yielded) (zip l.files l.pieces))) l.fn.out
    l.fn.self l.out l.self

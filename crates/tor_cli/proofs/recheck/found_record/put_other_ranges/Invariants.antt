-- The ranges so far are put.
use Rattle.std.proofs.Common.{take}
use Rattle.std.specs.Prelude.{flat_map}
use Rattle.tor_report.specs.Put.{Puts}
use Rattle.tor_report.specs.steps.Members.{item_after}
use Rattle.tor_cli.specs.text.Records.{range_data}
use Rattle.tor_cli.proofs.recheck.found_record.put_other_ranges.Given as goal

abbrev pub invariant-all : goal.invariant-all
invariant-all g l =
    Puts g.S.Sink.took (flat_map (item_after range_data) (take l.range-index l.ranges)) l.fn.out l.fn.buffer l.out
    l.buffer

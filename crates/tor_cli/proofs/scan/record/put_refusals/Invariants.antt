-- Those so far are put, and it is known if there are any.
use Rattle.std.proofs.Common.{◌≡◌, false, map, take}
use Rattle.tor_report.specs.Put.{Puts}
use Rattle.tor_cli.specs.steps.Items.{are_any, items_front}
use Rattle.tor_cli.specs.text.Records.{refused_data}
use Rattle.tor_cli.proofs.scan.record.put_refusals.Given as goal

abbrev pub invariant-all : goal.invariant-all
invariant-all g l =
    Puts g.S.Sink.took (items_front false (map refused_data (take l.one-index l.refused))) l.fn.out l.fn.buffer l.out
    l.buffer × (l.later ≡ are_any false (map refused_data (take l.one-index l.refused)))

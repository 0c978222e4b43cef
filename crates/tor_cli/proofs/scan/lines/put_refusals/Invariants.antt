-- Those so far are put.
use Rattle.std.proofs.Common.{take}
use Rattle.std.specs.Prelude.{flat_map}
use Rattle.tor_report.specs.Put.{Puts}
use Rattle.tor_cli.specs.scan.ScanText.{refused_line}
use Rattle.tor_cli.proofs.scan.lines.put_refusals.Given as goal

abbrev pub invariant-all : goal.invariant-all
invariant-all g l =
    Puts g.S.Sink.took (flat_map refused_line (take l.one-index l.refused)) l.fn.out l.fn.buffer l.out l.buffer

-- Those so far are put.
use Rattle.std.proofs.Common.{take}
use Rattle.std.specs.Prelude.{flat_map}
use Rattle.tor_report.specs.Put.{Puts}
use Rattle.tor_cli.specs.make.PathsText.{listed_path}
use Rattle.tor_cli.proofs.scan.lines.put_paths.Given as goal

abbrev pub invariant-all : goal.invariant-all
invariant-all g l =
    Puts g.S.Sink.took (flat_map listed_path (take l.path-index l.paths)) l.fn.out l.fn.buffer l.out l.buffer

-- The files so far are put.
use Rattle.std.proofs.Common.{take}
use Rattle.std.specs.Prelude.{flat_map}
use Rattle.tor_report.specs.Put.{Puts}
use Rattle.tor_report.specs.Shown.{ended_path}
use Rattle.tor_report.proofs.buffer.Buffer.put_ended_paths.Given as goal

abbrev pub invariant-files : goal.invariant-files
invariant-files g l =
    Puts g.S.Sink.took (flat_map (λ shown. ended_path shown.file) (take l.shown-index l.files)) l.fn.out
    l.fn.self l.out l.self

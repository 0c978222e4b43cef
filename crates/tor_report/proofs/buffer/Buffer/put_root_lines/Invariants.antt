-- The lines of the files so far are put.
use Rattle.std.proofs.Common.{take}
use Rattle.tor_report.specs.Put.{Puts}
use Rattle.tor_report.specs.Shown.{root_lines}
use Rattle.tor_report.proofs.buffer.Buffer.put_root_lines.Given as goal

abbrev pub invariant-files : goal.invariant-files
invariant-files g l =
    Puts g.S.Sink.took (root_lines 0 (take l.number l.files)) l.fn.out l.fn.self l.out l.self

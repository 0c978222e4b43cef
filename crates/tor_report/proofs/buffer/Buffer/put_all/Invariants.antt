-- The segments so far are put.
use Rattle.std.proofs.Common.{take}
use Rattle.tor_report.specs.Put.{Puts}
use Rattle.tor_report.specs.Segments.{segments_text}
use Rattle.tor_report.proofs.buffer.Buffer.put_all.Given as goal

abbrev pub invariant-segments : goal.invariant-segments
invariant-segments g l =
    Puts g.S.Sink.took (segments_text (take l.segment-index l.segments)) l.fn.out l.fn.self
    l.out l.self

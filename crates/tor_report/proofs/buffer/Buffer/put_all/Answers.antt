-- The segments after the one that was not put.
use Rattle.tor_report.proofs.Faults.{fault_after}
use Rattle.tor_report.proofs.Texts.{flat_rest}
use Rattle.tor_report.specs.Segments.{segment_text}
use Rattle.tor_report.proofs.buffer.Buffer.put_all.Goals as goal

pub returns-in_err-put_segment-clause-stopped : goal.returns-in_err-put_segment-clause-stopped
returns-in_err-put_segment-clause-stopped g c =
    fault_after g.S.Sink.lawful _ _ _ _ _ _ _ _ _ _ _ c.from_residual.ensures
    (flat_rest segment_text c.args.segments.now c.segments.segment-index c.segment-item.result c.segments-test.true
    c.segment-item.is)
    c.segments.invariant c.in_err-put_segment.ensures.stopped

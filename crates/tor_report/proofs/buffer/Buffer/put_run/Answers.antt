-- The texts before and after a fault make the whole.
use Rattle.tor_report.proofs.Faults.{fault_in}
use Rattle.tor_report.proofs.Spellings.{spelled_first, spelled_front}
use Rattle.tor_report.proofs.buffer.Buffer.put_run.Goals as goal

pub returns-in_err-put_spelled_byte-clause-stopped : goal.returns-in_err-put_spelled_byte-clause-stopped
returns-in_err-put_spelled_byte-clause-stopped g c =
    fault_in g.S.Sink.lawful _ _ _ _ _ _ _ _ c.from_residual.ensures
    (spelled_first c.args.spelling c.args.text.now c.requires) c.in_err-put_spelled_byte.ensures.stopped

pub returns-in_err-put-clause-stopped : goal.returns-in_err-put-clause-stopped
returns-in_err-put-clause-stopped g c =
    fault_in g.S.Sink.lawful _ _ _ _ _ _ _ _ c.from_residual-in_err-put.ensures
    (spelled_front c.args.spelling c.plain_length-count.result c.args.text.now c.plain_length-count.ensures.plain)
    (rw c.split_at.ensures.front at c.in_err-put.ensures.stopped)

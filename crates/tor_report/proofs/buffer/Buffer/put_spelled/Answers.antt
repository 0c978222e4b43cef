-- What stands for one more run is put.
use Rattle.std.proofs.Common.{arith}
use Rattle.tor_report.proofs.Faults.{fault_after}
use Rattle.tor_report.proofs.Spellings.{puts_more, spelled_rest}
use Rattle.tor_report.proofs.buffer.Buffer.put_spelled.Goals as goal

pub runs-preserved : goal.runs-preserved
runs-preserved g c =
    record {
      inside = omega (arith, c.in_ok-done.ensures.within, c.runs.invariant.inside, c.split_at.ensures.back_len);
      put =
          puts_more c.args.spelling c.runs.done c.in_ok-done.field-0 c.args.text.now _ _ _ _ _ _ c.runs.invariant.put
          (rw c.split_at.ensures.back at c.in_ok-done.ensures.put);
    }

pub returns-in_err-done-clause-stopped : goal.returns-in_err-done-clause-stopped
returns-in_err-done-clause-stopped g c =
    fault_after g.S.Sink.lawful _ _ _ _ _ _ _ _ _ _ _ c.from_residual.ensures
    (spelled_rest c.args.spelling c.runs.done c.args.text.now) c.runs.invariant.put
    (rw c.split_at.ensures.back at c.in_err-done.ensures.stopped)

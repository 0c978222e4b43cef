-- What the buffer had is out, or a front of it.
use Rattle.tor_report.proofs.Putting.{puts_held, stops_held}
use Rattle.tor_report.proofs.buffer.Buffer.send_held.Goals as goal

pub returns-in-Err-clause-stopped : goal.returns-in-Err-clause-stopped
returns-in-Err-clause-stopped g c =
    stops_held g.S.Sink.lawful _ _ c.args.self.now _ (rw c.deref.ensures.value at c.in-Err.ensures.stopped)

pub returns-clause-put : goal.returns-clause-put
returns-clause-put g c =
    puts_held g.S.Sink.lawful _ _ c.args.self.now _ (rw c.deref.ensures.value at c.in-Ok.ensures.counted)
    c.clear.ensures.items (rw c.deref.ensures.value at c.in-Ok.ensures.whole)

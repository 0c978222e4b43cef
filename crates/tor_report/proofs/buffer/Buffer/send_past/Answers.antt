-- A front of the text went past the buffer.
use Rattle.tor_report.proofs.Putting.{stops_past}
use Rattle.tor_report.proofs.buffer.Buffer.send_past.Goals as goal

pub returns-in-Err-clause-stopped : goal.returns-in-Err-clause-stopped
returns-in-Err-clause-stopped g c =
    stops_past g.S.Sink.lawful _ _ _ c.args.self.now _ c.requires c.in-Err.ensures.stopped

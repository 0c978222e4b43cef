-- What the buffer had went out before.
use Rattle.std.proofs.Common.{[], refl}
use Rattle.tor_report.proofs.Faults.{fault_in, put_last, stop_last}
use Rattle.tor_report.proofs.Putting.{puts_both, puts_kept}
use Rattle.tor_report.proofs.buffer.Buffer.put.Goals as goal

pub returns-clause-put : goal.returns-clause-put
returns-clause-put g c =
    put_last _ [] _ _ _ _ _ _ _ _ refl c.in_ok-send_held.ensures.put c.send_past.ensures.put

pub returns-clause-stopped : goal.returns-clause-stopped
returns-clause-stopped g c =
    stop_last g.S.Sink.lawful _ [] _ _ _ _ _ _ _ refl c.in_ok-send_held.ensures.put c.send_past.ensures.stopped

pub returns-then-text-room-clause-put : goal.returns-then-text-room-clause-put
returns-then-text-room-clause-put g c =
    puts_kept c.args.text.now c.args.out.now c.args.self.now c.keep.new.self c.keep.ensures.held c.keep.ensures.sent

pub returns-then-text-room-2-clause-put : goal.returns-then-text-room-2-clause-put
returns-then-text-room-2-clause-put g c =
    let kept = c.keep-then-text-room-2.ensures in
    puts_both [] c.args.text.now _ _ _ _ _ _ c.in_ok-send_held.ensures.put
    (puts_kept c.args.text.now c.send_held.new.out c.send_held.new.self c.keep-then-text-room-2.new.self kept.held
    kept.sent)

pub returns-in_err-send_held-clause-stopped : goal.returns-in_err-send_held-clause-stopped
returns-in_err-send_held-clause-stopped g c =
    fault_in g.S.Sink.lawful _ _ [] _ _ _ _ _ c.from_residual.ensures refl c.in_err-send_held.ensures.stopped

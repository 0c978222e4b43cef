-- What stands before a name, and the name.
use Rattle.std.proofs.Common.{◌++◌, ap, refl}
use Rattle.tor_report.specs.Spelled.{spelled}
use Rattle.tor_report.proofs.Faults.{fault_in, put_last, stop_last}
use Rattle.tor_report.proofs.buffer.Buffer.put_next.Goals as goal

pub returns-in_err-put-clause-stopped : goal.returns-in_err-put-clause-stopped
returns-in_err-put-clause-stopped g c =
    fault_in g.S.Sink.lawful _ _ _ _ _ _ _ _ c.from_residual.ensures refl c.in_err-put.ensures.stopped

pub returns-clause-put : goal.returns-clause-put
returns-clause-put g c =
    put_last _ _ _ _ _ _ _ _ _ _
    (ap (λ name. c.args.between.now ++ spelled c.args.spelling name) c.as_bytes.ensures.value)
    c.in_ok-put.ensures.put c.put_spelled.ensures.put

pub returns-clause-stopped : goal.returns-clause-stopped
returns-clause-stopped g c =
    stop_last g.S.Sink.lawful _ _ _ _ _ _ _ _ _
    (ap (λ name. c.args.between.now ++ spelled c.args.spelling name) c.as_bytes.ensures.value) c.in_ok-put.ensures.put
    c.put_spelled.ensures.stopped

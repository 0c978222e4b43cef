-- The names between quotation marks and brackets.
use Rattle.tor_report.proofs.Faults.{fault_after, fault_in, put_third, stop_third}
use Rattle.tor_report.proofs.PathTexts.{names_in_json}
use Rattle.tor_report.proofs.buffer.Buffer.put_json_path.Goals as goal

pub returns-in_err-put-clause-stopped : goal.returns-in_err-put-clause-stopped
returns-in_err-put-clause-stopped g c =
    fault_in g.S.Sink.lawful _ _ _ _ _ _ _ _ c.from_residual.ensures
    (names_in_json c.args.path.now c.names-names.ensures.lawful) c.in_err-put.ensures.stopped

pub returns-in_err-put_joined-clause-stopped : goal.returns-in_err-put_joined-clause-stopped
returns-in_err-put_joined-clause-stopped g c =
    fault_after g.S.Sink.lawful _ _ _ _ _ _ _ _ _ _ _ c.from_residual-in_err-put_joined.ensures
    (names_in_json c.args.path.now c.names-names.ensures.lawful) c.in_ok-put.ensures.put
    (rw c.names-names.ensures.value at c.in_err-put_joined.ensures.stopped)

pub returns-clause-put : goal.returns-clause-put
returns-clause-put g c =
    put_third g.S.Sink.lawful _ _ _ _ _ _ _ _ _ _ _ _ (names_in_json c.args.path.now c.names-names.ensures.lawful)
    c.in_ok-put.ensures.put (rw c.names-names.ensures.value at c.in_ok-put_joined.ensures.put) _ c.put-2.ensures.put

pub returns-clause-stopped : goal.returns-clause-stopped
returns-clause-stopped g c =
    stop_third g.S.Sink.lawful _ _ _ _ _ _ _ _ _ _ _ _ (names_in_json c.args.path.now c.names-names.ensures.lawful)
    c.in_ok-put.ensures.put (rw c.names-names.ensures.value at c.in_ok-put_joined.ensures.put) c.put-2.ensures.stopped

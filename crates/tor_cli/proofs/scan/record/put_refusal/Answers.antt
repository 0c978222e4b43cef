-- A comma if there is one, the path, and the words.
use Rattle.std.proofs.Common.{◌∙◌, refl}
use Rattle.tor_cli.proofs.ScanSegments.{refused_text}
use Rattle.tor_report.proofs.ProvedLaws.{fault_after, fault_in, put_third, stop_third}
use Rattle.tor_cli.proofs.scan.record.put_refusal.Goals as goal

pub returns-in_err-put_all-clause-stopped : goal.returns-in_err-put_all-clause-stopped
returns-in_err-put_all-clause-stopped g c =
    fault_in g.S.Sink.lawful _ _ _ _ _ _ _ _ c.from_residual.ensures
    (refused_text c.args.later c.args.one.now c.comma_if.result.now _ _ c.comma_if.ensures refl refl)
    c.in_err-put_all.ensures.stopped

pub returns-in_err-put_json_bytes-clause-stopped : goal.returns-in_err-put_json_bytes-clause-stopped
returns-in_err-put_json_bytes-clause-stopped g c =
    fault_after g.S.Sink.lawful _ _ _ _ _ _ _ _ _ _ _ c.from_residual-in_err-put_json_bytes.ensures
    (refused_text c.args.later c.args.one.now c.comma_if.result.now _ _ c.comma_if.ensures refl refl)
    c.in_ok-put_all.ensures.put (rw c.deref.ensures.value at c.in_err-put_json_bytes.ensures.stopped)

pub returns-clause-put : goal.returns-clause-put
returns-clause-put g c =
    put_third g.S.Sink.lawful _ _ _ _ _ _ _ _ _ _ _ _
    (refused_text c.args.later c.args.one.now c.comma_if.result.now c.as_bytes.result.now c.as_bytes-2.result.now
    c.comma_if.ensures (c.as_bytes.ensures.value ∙ c.refusal_code.ensures)
    (c.as_bytes-2.ensures.value ∙ c.refusal_word.ensures))
    c.in_ok-put_all.ensures.put (rw c.deref.ensures.value at c.in_ok-put_json_bytes.ensures.put) _
    c.put_all-2.ensures.put

pub returns-clause-stopped : goal.returns-clause-stopped
returns-clause-stopped g c =
    stop_third g.S.Sink.lawful _ _ _ _ _ _ _ _ _ _ _ _
    (refused_text c.args.later c.args.one.now c.comma_if.result.now c.as_bytes.result.now c.as_bytes-2.result.now
    c.comma_if.ensures (c.as_bytes.ensures.value ∙ c.refusal_code.ensures)
    (c.as_bytes-2.ensures.value ∙ c.refusal_word.ensures))
    c.in_ok-put_all.ensures.put (rw c.deref.ensures.value at c.in_ok-put_json_bytes.ensures.put)
    c.put_all-2.ensures.stopped

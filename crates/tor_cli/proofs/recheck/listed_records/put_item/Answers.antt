-- A comma if there is one, and the object.
use Rattle.std.proofs.Common.{◌∙◌, ◌++◌, ap, ℕ, List}
use Rattle.serde_json.specs.Written.{compact_text}
use Rattle.tor_report.proofs.ProvedLaws.{fault_in, put_last, stop_last}
use Rattle.tor_cli.specs.text.Records.{found_data}
use Rattle.tor_cli.proofs.recheck.listed_records.put_item.Goals as goal

pub returns-in_err-put-clause-stopped : goal.returns-in_err-put-clause-stopped
returns-in_err-put-clause-stopped g c =
    fault_in g.S.Sink.lawful _ _ _ _ _ _ _ _ c.from_residual.ensures
    (ap (λ (xs : List ℕ). xs ++ compact_text (found_data c.args.told.now c.args.file.now))
    (c.as_bytes.ensures.value ∙ c.comma_if.ensures))
    c.in_err-put.ensures.stopped

pub returns-clause-put : goal.returns-clause-put
returns-clause-put g c =
    put_last _ _ _ _ _ _ _ _ _ _
    (ap (λ (xs : List ℕ). xs ++ compact_text (found_data c.args.told.now c.args.file.now))
    (c.as_bytes.ensures.value ∙ c.comma_if.ensures))
    c.in_ok-put.ensures.put c.put_found.ensures.put

pub returns-clause-stopped : goal.returns-clause-stopped
returns-clause-stopped g c =
    stop_last g.S.Sink.lawful _ _ _ _ _ _ _ _ _
    (ap (λ (xs : List ℕ). xs ++ compact_text (found_data c.args.told.now c.args.file.now))
    (c.as_bytes.ensures.value ∙ c.comma_if.ensures))
    c.in_ok-put.ensures.put c.put_found.ensures.stopped

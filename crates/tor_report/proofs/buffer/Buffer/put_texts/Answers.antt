-- What stands before an array, and the array.
use Rattle.std.proofs.Common.{refl, subst}
use Rattle.std.specs.Prelude.{IfErr, OnOk}
use Rattle.serde_json.specs.Data.{Data}
use Rattle.serde_json.specs.Written.{compact_text}
use Rattle.tor_bencode.specs.RefView.{view}
use Rattle.tor_report.specs.Put.{Puts, Stops}
use Rattle.tor_report.proofs.Faults.{fault_in, put_last, stop_last}
use Rattle.tor_report.proofs.ServerTexts.{texts_told}
use Rattle.tor_report.proofs.buffer.Buffer.put_texts.Goals as goal

pub returns-in_err-put-clause-stopped : goal.returns-in_err-put-clause-stopped
returns-in_err-put-clause-stopped g c =
    fault_in g.S.Sink.lawful _ _ _ _ _ _ _ _ c.from_residual.ensures refl c.in_err-put.ensures.stopped

pub returns-clause-put : goal.returns-clause-put
returns-clause-put g c =
    put_last _ _ _ _ _ _ _ _ _ _ refl c.in_ok-put.ensures.put
    (subst
    (λ (told : Data). OnOk c.put_strings.result (Puts g.S.Sink.took (compact_text told) c.put.new.out c.put.new.self
    c.put_strings.new.out c.put_strings.new.self))
    (texts_told c.items_of.result.now (view c.args.value.now) c.items_of.ensures) c.put_strings.ensures.put)

pub returns-clause-stopped : goal.returns-clause-stopped
returns-clause-stopped g c =
    stop_last g.S.Sink.lawful _ _ _ _ _ _ _ _ _ refl c.in_ok-put.ensures.put
    (subst
    (λ (told : Data). IfErr c.put_strings.result (λ fault. Stops g.S.Sink.took g.S.Sink.fails (compact_text told)
    c.put.new.out c.put.new.self c.put_strings.new.out fault.written))
    (texts_told c.items_of.result.now (view c.args.value.now) c.items_of.ensures) c.put_strings.ensures.stopped)

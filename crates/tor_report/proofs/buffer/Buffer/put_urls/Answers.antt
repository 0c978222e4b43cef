-- A string in brackets.
use Rattle.std.proofs.Common.{◌∙◌, sym}
use Rattle.tor_bencode.specs.RefView.{view}
use Rattle.tor_report.proofs.Faults.{fault_in, put_last, put_same, stop_last, stop_same}
use Rattle.tor_report.proofs.ServerTexts.{many_urls, one_url}
use Rattle.tor_report.proofs.buffer.Buffer.put_urls.Goals as goal

pub returns-in_err-put_text-clause-stopped : goal.returns-in_err-put_text-clause-stopped
returns-in_err-put_text-clause-stopped g c =
    fault_in g.S.Sink.lawful _ _ _ _ _ _ _ _ c.from_residual.ensures
    (one_url (view c.args.value.now) (sym c.is_string.ensures ∙ c.if-is_string.true)) c.in_err-put_text.ensures.stopped

pub returns-in_ok-put_text-clause-put : goal.returns-in_ok-put_text-clause-put
returns-in_ok-put_text-clause-put g c =
    put_last _ _ _ _ _ _ _ _ _ _
    (one_url (view c.args.value.now) (sym c.is_string.ensures ∙ c.if-is_string.true)) c.in_ok-put_text.ensures.put
    c.put.ensures.put

pub returns-in_ok-put_text-clause-stopped : goal.returns-in_ok-put_text-clause-stopped
returns-in_ok-put_text-clause-stopped g c =
    stop_last g.S.Sink.lawful _ _ _ _ _ _ _ _ _
    (one_url (view c.args.value.now) (sym c.is_string.ensures ∙ c.if-is_string.true)) c.in_ok-put_text.ensures.put
    c.put.ensures.stopped

pub returns-else-is_string-clause-put : goal.returns-else-is_string-clause-put
returns-else-is_string-clause-put g c =
    put_same g.S.Sink.lawful _ _ _ _ _ _
    (many_urls (view c.args.value.now) (sym c.is_string.ensures ∙ c.if-is_string.false)) _
    c.put_texts.ensures.put

pub returns-else-is_string-clause-stopped : goal.returns-else-is_string-clause-stopped
returns-else-is_string-clause-stopped g c =
    stop_same g.S.Sink.lawful _ _ _ _ _ _
    (many_urls (view c.args.value.now) (sym c.is_string.ensures ∙ c.if-is_string.false))
    c.put_texts.ensures.stopped

-- The segments are those of the line.
use Rattle.std.proofs.Common.{◌∙◌, ap, subst, sym, ℕ, List}
use Rattle.std.specs.Prelude.{IfErr, OnOk}
use Rattle.tor_report.specs.Escape.{escaped_bytes}
use Rattle.tor_report.specs.Put.{Puts, Stops}
use Rattle.tor_report.specs.Spelled.{spelled}
use Rattle.tor_cli.proofs.ScanSegments.{refusal_segments}
use Rattle.tor_cli.proofs.scan.lines.put_refusal.Goals as goal

pub returns-clause-put : goal.returns-clause-put
returns-clause-put g c =
    subst
    (λ (xs : List ℕ). OnOk c.put_all.result (Puts g.S.Sink.took xs c.args.out.now c.args.buffer.now
    c.put_all.new.out c.put_all.new.self))
    (refusal_segments c.args.one.now _ _ _ c.refusal_code.ensures c.refusal_word.ensures
    (ap (spelled c.spelling_in_line.result) (c.deref-2.ensures.value ∙ sym c.deref.ensures.value)
    ∙ c.spelling_in_line.ensures ∙ ap escaped_bytes c.deref.ensures.value))
    c.put_all.ensures.put

pub returns-clause-stopped : goal.returns-clause-stopped
returns-clause-stopped g c =
    subst
    (λ (xs : List ℕ). IfErr c.put_all.result (λ fault. Stops g.S.Sink.took g.S.Sink.fails xs c.args.out.now
    c.args.buffer.now c.put_all.new.out fault.written))
    (refusal_segments c.args.one.now _ _ _ c.refusal_code.ensures c.refusal_word.ensures
    (ap (spelled c.spelling_in_line.result) (c.deref-2.ensures.value ∙ sym c.deref.ensures.value)
    ∙ c.spelling_in_line.ensures ∙ ap escaped_bytes c.deref.ensures.value))
    c.put_all.ensures.stopped

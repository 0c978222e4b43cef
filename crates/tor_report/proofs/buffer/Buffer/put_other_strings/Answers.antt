-- The strings so far, and one more.
use Rattle.std.proofs.Common.{subst, ℕ, List}
use Rattle.tor_report.specs.Put.{Puts}
use Rattle.tor_report.specs.steps.Members.{item_after, told_text}
use Rattle.tor_report.proofs.Faults.{fault_after}
use Rattle.tor_report.proofs.Putting.{puts_both}
use Rattle.tor_report.proofs.Texts.{flat_more, flat_rest}
use Rattle.tor_report.proofs.buffer.Buffer.put_other_strings.Goals as goal

pub returns-in_err-put_text-clause-stopped : goal.returns-in_err-put_text-clause-stopped
returns-in_err-put_text-clause-stopped g c =
    fault_after g.S.Sink.lawful _ _ _ _ _ _ _ _ _ _ _ c.from_residual.ensures
    (flat_rest (item_after told_text) c.args.texts.now c.texts.text-index c.text-item.result
    c.texts-test.true
    c.text-item.is)
    c.texts.invariant c.in_err-put_text.ensures.stopped

pub texts-preserved : goal.texts-preserved
texts-preserved g c =
    subst
    (λ (xs : List ℕ). Puts g.S.Sink.took xs c.args.out.now c.args.self.now
    c.put_text.new.out c.put_text.new.self)
    (flat_more (item_after told_text) c.args.texts.now c.texts.text-index c.text-item.result
    c.texts-test.true
    c.text-item.is)
    (puts_both _ _ _ _ _ _ _ _ c.texts.invariant c.in_ok-put_text.ensures.put)

-- Those so far, one more, and all of them.
use Rattle.std.proofs.Common.{refl, subst, ℕ, List}
use Rattle.tor_report.proofs.ProvedLaws.{fault_after, puts_both, puts_none}
use Rattle.tor_report.specs.Put.{Puts}
use Rattle.tor_cli.proofs.ItemsTexts.{any_told, told_all, told_more, told_rest}
use Rattle.tor_cli.specs.text.Records.{refused_data}
use Rattle.tor_cli.proofs.scan.record.put_refusals.Goals as goal

pub all-init : goal.all-init
all-init g c = (puts_none _ _, refl)

pub all-preserved : goal.all-preserved
all-preserved g c = (
  subst
      (λ (xs : List ℕ). Puts g.S.Sink.took xs c.args.out.now c.args.buffer.now c.put_refusal.new.out
      c.put_refusal.new.buffer)
      (told_more refused_data c.args.refused.now c.all.one-index c.one-item.result c.all-test.true c.one-item.is
      c.all.later c.all.invariant.1)
      (puts_both _ _ _ _ _ _ _ _ c.all.invariant.0 c.in_ok-put_refusal.ensures.put),
  any_told refused_data c.args.refused.now c.all.one-index c.one-item.result c.all-test.true c.one-item.is
      c.all.later c.all.invariant.1,
)

pub returns-in_err-put_refusal-clause-stopped : goal.returns-in_err-put_refusal-clause-stopped
returns-in_err-put_refusal-clause-stopped g c =
    fault_after g.S.Sink.lawful _ _ _ _ _ _ _ _ _ _ _ c.from_residual.ensures
    (told_rest refused_data c.args.refused.now c.all.one-index c.one-item.result c.all-test.true c.one-item.is
    c.all.later c.all.invariant.1)
    c.all.invariant.0 c.in_err-put_refusal.ensures.stopped

pub returns-clause-put : goal.returns-clause-put
returns-clause-put g c =
    subst (λ (xs : List ℕ). Puts g.S.Sink.took xs c.args.out.now c.args.buffer.now c.all.out c.all.buffer)
    (told_all refused_data c.args.refused.now c.all.one-index c.all-test.false) c.all.invariant.0

-- Those so far, and one more.
use Rattle.std.proofs.Common.{subst, ℕ, List}
use Rattle.tor_report.specs.Put.{Puts}
use Rattle.tor_report.proofs.ProvedLaws.{fault_after, flat_more, flat_rest, puts_both}
use Rattle.tor_cli.specs.scan.ScanText.{refused_line}
use Rattle.tor_cli.proofs.scan.lines.put_refusals.Goals as goal

pub returns-in_err-put_refusal-clause-stopped : goal.returns-in_err-put_refusal-clause-stopped
returns-in_err-put_refusal-clause-stopped g c =
    fault_after g.S.Sink.lawful _ _ _ _ _ _ _ _ _ _ _ c.from_residual.ensures
    (flat_rest refused_line c.args.refused.now c.all.one-index c.one-item.result c.all-test.true c.one-item.is)
    c.all.invariant c.in_err-put_refusal.ensures.stopped

pub all-preserved : goal.all-preserved
all-preserved g c =
    subst
    (λ (xs : List ℕ). Puts g.S.Sink.took xs c.args.out.now c.args.buffer.now c.put_refusal.new.out
    c.put_refusal.new.buffer)
    (flat_more refused_line c.args.refused.now c.all.one-index c.one-item.result c.all-test.true c.one-item.is)
    (puts_both _ _ _ _ _ _ _ _ c.all.invariant c.in_ok-put_refusal.ensures.put)

-- The tiers so far, and one more.
use Rattle.std.proofs.Common.{subst, ℕ, List}
use Rattle.tor_report.specs.Put.{Puts}
use Rattle.tor_report.specs.steps.Members.{item_after, told_tier}
use Rattle.tor_report.proofs.Faults.{fault_after}
use Rattle.tor_report.proofs.Putting.{puts_both}
use Rattle.tor_report.proofs.Texts.{flat_more, flat_rest}
use Rattle.tor_report.proofs.buffer.Buffer.put_other_tiers.Goals as goal

pub returns-in_err-put_texts-clause-stopped : goal.returns-in_err-put_texts-clause-stopped
returns-in_err-put_texts-clause-stopped g c =
    fault_after g.S.Sink.lawful _ _ _ _ _ _ _ _ _ _ _ c.from_residual.ensures
    (flat_rest (item_after told_tier) c.args.tiers.now c.tiers.tier-index c.tier-item.result
    c.tiers-test.true
    c.tier-item.is)
    c.tiers.invariant c.in_err-put_texts.ensures.stopped

pub tiers-preserved : goal.tiers-preserved
tiers-preserved g c =
    subst
    (λ (xs : List ℕ). Puts g.S.Sink.took xs c.args.out.now c.args.self.now
    c.put_texts.new.out c.put_texts.new.self)
    (flat_more (item_after told_tier) c.args.tiers.now c.tiers.tier-index c.tier-item.result
    c.tiers-test.true
    c.tier-item.is)
    (puts_both _ _ _ _ _ _ _ _ c.tiers.invariant c.in_ok-put_texts.ensures.put)

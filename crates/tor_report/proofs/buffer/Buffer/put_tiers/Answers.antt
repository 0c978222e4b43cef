-- The first tier, the others, and the bracket after them.
use Rattle.std.proofs.lemmas.List.{nil_from_length}
use Rattle.tor_report.specs.steps.Members.{told_tier}
use Rattle.tor_report.proofs.Faults.{fault_after, fault_in, put_same, put_third, stop_same, stop_third}
use Rattle.tor_report.proofs.MembersTexts.{array_text, no_array}
use Rattle.tor_report.proofs.buffer.Buffer.put_tiers.Goals as goal

pub returns-in_err-put_texts-clause-stopped : goal.returns-in_err-put_texts-clause-stopped
returns-in_err-put_texts-clause-stopped g c =
    fault_in g.S.Sink.lawful _ _ _ _ _ _ _ _ c.from_residual.ensures
    (array_text told_tier c.args.tiers.now c.in-Some.others.now c.in-Some.first.now c.in-Some.ensures.cases.0)
    c.in_err-put_texts.ensures.stopped

pub returns-in_err-put_other_tiers-clause-stopped : goal.returns-in_err-put_other_tiers-clause-stopped
returns-in_err-put_other_tiers-clause-stopped g c =
    fault_after g.S.Sink.lawful _ _ _ _ _ _ _ _ _ _ _ c.from_residual-in_err-put_other_tiers.ensures
    (array_text told_tier c.args.tiers.now c.in-Some.others.now c.in-Some.first.now c.in-Some.ensures.cases.0)
    c.in_ok-put_texts.ensures.put c.in_err-put_other_tiers.ensures.stopped

pub returns-clause-put : goal.returns-clause-put
returns-clause-put g c =
    put_third g.S.Sink.lawful _ _ _ _ _ _ _ _ _ _ _ _
    (array_text told_tier c.args.tiers.now c.in-Some.others.now c.in-Some.first.now c.in-Some.ensures.cases.0)
    c.in_ok-put_texts.ensures.put c.in_ok-put_other_tiers.ensures.put _ c.put-2.ensures.put

pub returns-clause-stopped : goal.returns-clause-stopped
returns-clause-stopped g c =
    stop_third g.S.Sink.lawful _ _ _ _ _ _ _ _ _ _ _ _
    (array_text told_tier c.args.tiers.now c.in-Some.others.now c.in-Some.first.now c.in-Some.ensures.cases.0)
    c.in_ok-put_texts.ensures.put c.in_ok-put_other_tiers.ensures.put c.put-2.ensures.stopped

pub returns-in_default-clause-put : goal.returns-in_default-clause-put
returns-in_default-clause-put g c =
    put_same g.S.Sink.lawful _ _ _ _ _ _
    (no_array told_tier c.args.tiers.now (nil_from_length _ c.in_default.ensures.cases)) _ c.put.ensures.put

pub returns-in_default-clause-stopped : goal.returns-in_default-clause-stopped
returns-in_default-clause-stopped g c =
    stop_same g.S.Sink.lawful _ _ _ _ _ _
    (no_array told_tier c.args.tiers.now (nil_from_length _ c.in_default.ensures.cases)) c.put.ensures.stopped

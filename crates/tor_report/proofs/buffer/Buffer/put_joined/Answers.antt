-- The names so far, and one more.
use Rattle.std.proofs.Common.{subst, ℕ, List}
use Rattle.tor_report.specs.Put.{Puts}
use Rattle.tor_report.specs.Spelled.{spelled}
use Rattle.tor_report.proofs.Faults.{fault_after, fault_in}
use Rattle.tor_report.proofs.Putting.{puts_both}
use Rattle.tor_report.proofs.Texts.{joined_all, joined_first, joined_more, joined_one, joined_rest}
use Rattle.tor_report.proofs.buffer.Buffer.put_joined.Goals as goal

pub returns-in_err-put_spelled-clause-stopped : goal.returns-in_err-put_spelled-clause-stopped
returns-in_err-put_spelled-clause-stopped g c =
    fault_in g.S.Sink.lawful _ _ _ _ _ _ _ _ c.from_residual.ensures
    (joined_first (spelled c.args.spelling) c.args.between.now c.args.names.now c.in-Some.first.now
    c.in-Some.others.now c.in-Some.ensures.cases.0)
    (rw c.as_bytes.ensures.value at c.in_err-put_spelled.ensures.stopped)

pub names-init : goal.names-init
names-init g c =
    subst
    (λ (xs : List ℕ). Puts g.S.Sink.took xs c.args.out.now c.args.self.now
    c.put_spelled.new.out c.put_spelled.new.self)
    (joined_one (spelled c.args.spelling) c.args.between.now c.args.names.now c.in-Some.first.now
    c.in-Some.others.now c.in-Some.ensures.cases.0)
    (rw c.as_bytes.ensures.value at c.in_ok-put_spelled.ensures.put)

pub returns-in_err-put_next-clause-stopped : goal.returns-in_err-put_next-clause-stopped
returns-in_err-put_next-clause-stopped g c =
    fault_after g.S.Sink.lawful _ _ _ _ _ _ _ _ _ _ _ c.from_residual-in_err-put_next.ensures
    (joined_rest (spelled c.args.spelling) c.args.between.now c.args.names.now c.in-Some.first.now
    c.in-Some.others.now c.in-Some.ensures.cases.0 c.names.name-index c.name-item.result c.names-test.true
    c.name-item.is)
    c.names.invariant c.in_err-put_next.ensures.stopped

pub names-preserved : goal.names-preserved
names-preserved g c =
    subst
    (λ (xs : List ℕ). Puts g.S.Sink.took xs c.args.out.now c.args.self.now
    c.put_next.new.out c.put_next.new.self)
    (joined_more (spelled c.args.spelling) c.args.between.now c.args.names.now c.in-Some.first.now
    c.in-Some.others.now c.in-Some.ensures.cases.0 c.names.name-index c.name-item.result c.names-test.true
    c.name-item.is)
    (puts_both _ _ _ _ _ _ _ _ c.names.invariant c.in_ok-put_next.ensures.put)

pub returns-clause-put : goal.returns-clause-put
returns-clause-put g c =
    subst
    (λ (xs : List ℕ). Puts g.S.Sink.took xs c.args.out.now c.args.self.now c.names.out
    c.names.self)
    (joined_all (spelled c.args.spelling) c.args.between.now c.args.names.now c.in-Some.first.now
    c.in-Some.others.now c.in-Some.ensures.cases.0 c.names.name-index c.names-test.false)
    c.names.invariant

-- The files so far, and one more.
use Rattle.std.proofs.Common.{subst, ℕ, List}
use Rattle.tor_report.specs.Put.{Puts}
use Rattle.tor_report.specs.Shown.{ended_path}
use Rattle.tor_report.proofs.Faults.{fault_after}
use Rattle.tor_report.proofs.Putting.{puts_both}
use Rattle.tor_report.proofs.Texts.{flat_more, flat_rest}
use Rattle.tor_report.proofs.buffer.Buffer.put_ended_paths.Goals as goal

pub returns-in_err-put_ended_path-clause-stopped : goal.returns-in_err-put_ended_path-clause-stopped
returns-in_err-put_ended_path-clause-stopped g c =
    fault_after g.S.Sink.lawful _ _ _ _ _ _ _ _ _ _ _ c.from_residual.ensures
    (flat_rest (λ shown. ended_path shown.file) c.args.files.now c.files.shown-index c.shown-item.result
    c.files-test.true
    c.shown-item.is)
    c.files.invariant (rw c.file.ensures at c.in_err-put_ended_path.ensures.stopped)

pub files-preserved : goal.files-preserved
files-preserved g c =
    subst
    (λ (xs : List ℕ). Puts g.S.Sink.took xs c.args.out.now c.args.self.now
    c.put_ended_path.new.out c.put_ended_path.new.self)
    (flat_more (λ shown. ended_path shown.file) c.args.files.now c.files.shown-index c.shown-item.result
    c.files-test.true
    c.shown-item.is)
    (puts_both _ _ _ _ _ _ _ _ c.files.invariant (rw c.file.ensures at c.in_ok-put_ended_path.ensures.put))

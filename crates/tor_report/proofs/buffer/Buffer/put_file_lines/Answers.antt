-- The files so far, and one more.
use Rattle.std.proofs.Common.{subst, ℕ, List}
use Rattle.tor_report.specs.Put.{Puts}
use Rattle.tor_report.specs.Shown.{file_line}
use Rattle.tor_report.proofs.Faults.{fault_after}
use Rattle.tor_report.proofs.Putting.{puts_both}
use Rattle.tor_report.proofs.Texts.{flat_more, flat_rest}
use Rattle.tor_report.proofs.buffer.Buffer.put_file_lines.Goals as goal

pub returns-in_err-put_file_line-clause-stopped : goal.returns-in_err-put_file_line-clause-stopped
returns-in_err-put_file_line-clause-stopped g c =
    fault_after g.S.Sink.lawful _ _ _ _ _ _ _ _ _ _ _ c.from_residual.ensures
    (flat_rest (λ shown. file_line shown.file) c.args.files.now c.files.shown-index c.shown-item.result
    c.files-test.true
    c.shown-item.is)
    c.files.invariant (rw c.file.ensures at c.in_err-put_file_line.ensures.stopped)

pub files-preserved : goal.files-preserved
files-preserved g c =
    subst
    (λ (xs : List ℕ). Puts g.S.Sink.took xs c.args.out.now c.args.self.now
    c.put_file_line.new.out c.put_file_line.new.self)
    (flat_more (λ shown. file_line shown.file) c.args.files.now c.files.shown-index c.shown-item.result
    c.files-test.true
    c.shown-item.is)
    (puts_both _ _ _ _ _ _ _ _ c.files.invariant (rw c.file.ensures at c.in_ok-put_file_line.ensures.put))

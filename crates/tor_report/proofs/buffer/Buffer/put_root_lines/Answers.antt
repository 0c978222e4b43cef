-- The lines so far, and one more.
use Rattle.std.proofs.Common.{subst, ℕ, List}
use Rattle.tor_report.specs.Put.{Puts}
use Rattle.tor_report.proofs.Faults.{fault_after}
use Rattle.tor_report.proofs.Putting.{puts_both}
use Rattle.tor_report.proofs.RootLines.{root_more, root_rest}
use Rattle.tor_report.proofs.buffer.Buffer.put_root_lines.Goals as goal

pub returns-in_err-put_root_line-clause-stopped : goal.returns-in_err-put_root_line-clause-stopped
returns-in_err-put_root_line-clause-stopped g c =
    fault_after g.S.Sink.lawful _ _ _ _ _ _ _ _ _ _ _ c.from_residual.ensures
    (root_rest c.args.files.now c.files.number c.index-files-number.result c.files-test.true c.index-files-number.is)
    c.files.invariant (rw c.file.ensures at c.in_err-put_root_line.ensures.stopped)

pub files-preserved : goal.files-preserved
files-preserved g c =
    subst
    (λ (xs : List ℕ). Puts g.S.Sink.took xs c.args.out.now c.args.self.now
    c.put_root_line.new.out c.put_root_line.new.self)
    (root_more c.args.files.now c.files.number c.index-files-number.result c.files-test.true c.index-files-number.is)
    (puts_both _ _ _ _ _ _ _ _ c.files.invariant (rw c.file.ensures at c.in_ok-put_root_line.ensures.put))

-- Those so far, and one more.
use Rattle.std.proofs.Common.{subst, ℕ, List}
use Rattle.tor_report.specs.Put.{Puts}
use Rattle.tor_report.proofs.ProvedLaws.{fault_after, flat_more, flat_rest, puts_both}
use Rattle.tor_cli.specs.make.PathsText.{listed_path}
use Rattle.tor_cli.proofs.scan.lines.put_paths.Goals as goal

pub returns-in_err-put_path-clause-stopped : goal.returns-in_err-put_path-clause-stopped
returns-in_err-put_path-clause-stopped g c =
    fault_after g.S.Sink.lawful _ _ _ _ _ _ _ _ _ _ _ c.from_residual.ensures
    (flat_rest listed_path c.args.paths.now c.all.path-index c.path-item.result c.all-test.true c.path-item.is)
    c.all.invariant c.in_err-put_path.ensures.stopped

pub all-preserved : goal.all-preserved
all-preserved g c =
    subst
    (λ (xs : List ℕ). Puts g.S.Sink.took xs c.args.out.now c.args.buffer.now c.put_path.new.out c.put_path.new.buffer)
    (flat_more listed_path c.args.paths.now c.all.path-index c.path-item.result c.all-test.true c.path-item.is)
    (puts_both _ _ _ _ _ _ _ _ c.all.invariant c.in_ok-put_path.ensures.put)

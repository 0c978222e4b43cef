-- A path, and the byte after it.
use Rattle.std.proofs.Common.{ap, ℕ, List, ◌∷◌, [], ◌++◌}
use Rattle.tor_report.proofs.ProvedLaws.{as_is, fault_in, put_last, stop_last}
use Rattle.tor_report.specs.Shown.{path_text}
use Rattle.tor_cli.proofs.scan.lines.put_path.Goals as goal

pub returns-in_err-put_path-clause-stopped : goal.returns-in_err-put_path-clause-stopped
returns-in_err-put_path-clause-stopped g c =
    fault_in g.S.Sink.lawful _ _ _ _ _ _ _ _ c.from_residual.ensures
    (ap (λ (xs : List ℕ). xs ++ 0 ∷ []) (as_is (path_text c.args.path.now))) c.in_err-put_path.ensures.stopped

pub returns-clause-put : goal.returns-clause-put
returns-clause-put g c =
    put_last _ _ _ _ _ _ _ _ _ _ (ap (λ (xs : List ℕ). xs ++ 0 ∷ []) (as_is (path_text c.args.path.now)))
    c.in_ok-put_path.ensures.put c.put.ensures.put

pub returns-clause-stopped : goal.returns-clause-stopped
returns-clause-stopped g c =
    stop_last g.S.Sink.lawful _ _ _ _ _ _ _ _ _ (ap (λ (xs : List ℕ). xs ++ 0 ∷ []) (as_is (path_text c.args.path.now)))
    c.in_ok-put_path.ensures.put c.put.ensures.stopped

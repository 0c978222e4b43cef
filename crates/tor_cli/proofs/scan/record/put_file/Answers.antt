-- The segments are those of the object.
use Rattle.std.proofs.Common.{subst, ℕ, List}
use Rattle.std.specs.Prelude.{IfErr, OnOk}
use Rattle.tor_report.specs.Put.{Puts, Stops}
use Rattle.tor_cli.proofs.ScanSegments.{sized_segments}
use Rattle.tor_cli.proofs.scan.record.put_file.Goals as goal

pub returns-clause-put : goal.returns-clause-put
returns-clause-put g c =
    subst
    (λ (xs : List ℕ). OnOk c.put_all.result (Puts g.S.Sink.took xs c.args.out.now c.args.buffer.now
    c.put_all.new.out c.put_all.new.self))
    (sized_segments c.comma_if.result.now c.args.later c.args.length c.args.path.now c.comma_if.ensures)
    c.put_all.ensures.put

pub returns-clause-stopped : goal.returns-clause-stopped
returns-clause-stopped g c =
    subst
    (λ (xs : List ℕ). IfErr c.put_all.result (λ fault. Stops g.S.Sink.took g.S.Sink.fails xs c.args.out.now
    c.args.buffer.now c.put_all.new.out fault.written))
    (sized_segments c.comma_if.result.now c.args.later c.args.length c.args.path.now c.comma_if.ensures)
    c.put_all.ensures.stopped

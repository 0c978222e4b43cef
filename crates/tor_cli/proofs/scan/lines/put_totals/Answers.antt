-- The segments are those of the lines.
use Rattle.std.proofs.Common.{◌∙◌, ap, rules, subst, ℕ, List}
use Rattle.std.specs.Prelude.{IfErr, OnOk}
use Rattle.tor_report.specs.Put.{Puts, Stops}
use Rattle.tor_cli.specs.make.FileSizes.{total_of}
use Rattle.tor_cli.proofs.ScanSegments.{total_segments}
use Rattle.tor_cli.proofs.scan.lines.put_totals.Goals as goal

pub returns-clause-put : goal.returns-clause-put
returns-clause-put g c =
    subst
    (λ (xs : List ℕ). OnOk c.put_all.result (Puts g.S.Sink.took xs c.args.out.now c.args.buffer.now
    c.put_all.new.out c.put_all.new.self))
    (total_segments c.args.found.now _ _ _ (search rules)
    (c.total_of-bytes.ensures ∙ ap total_of c.deref.ensures.value) c.auto_piece_length.ensures)
    c.put_all.ensures.put

pub returns-clause-stopped : goal.returns-clause-stopped
returns-clause-stopped g c =
    subst
    (λ (xs : List ℕ). IfErr c.put_all.result (λ fault. Stops g.S.Sink.took g.S.Sink.fails xs c.args.out.now
    c.args.buffer.now c.put_all.new.out fault.written))
    (total_segments c.args.found.now _ _ _ (search rules)
    (c.total_of-bytes.ensures ∙ ap total_of c.deref.ensures.value) c.auto_piece_length.ensures)
    c.put_all.ensures.stopped

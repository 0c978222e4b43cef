-- The segments are those of the line of a file.
use Rattle.std.proofs.Common.{subst, ℕ, List}
use Rattle.std.specs.Prelude.{IfErr, OnOk}
use Rattle.tor_report.specs.Put.{Puts, Stops}
use Rattle.tor_cli.proofs.FoundSegments.{line_segments}
use Rattle.tor_cli.proofs.recheck.found_text.put_line.Goals as goal

pub returns-clause-put : goal.returns-clause-put
returns-clause-put g c =
    subst
    (λ (xs : List ℕ). OnOk c.put_all.result (Puts g.S.Sink.took xs c.args.out.now c.args.buffer.now
    c.put_all.new.out c.put_all.new.self))
    (line_segments c.args.found.now c.args.file.now c.state_word.result.now _ c.state_word.ensures
    c.length_segment.ensures)
    c.put_all.ensures.put

pub returns-clause-stopped : goal.returns-clause-stopped
returns-clause-stopped g c =
    subst
    (λ (xs : List ℕ). IfErr c.put_all.result (λ fault. Stops g.S.Sink.took g.S.Sink.fails xs c.args.out.now
    c.args.buffer.now c.put_all.new.out fault.written))
    (line_segments c.args.found.now c.args.file.now c.state_word.result.now _ c.state_word.ensures
    c.length_segment.ensures)
    c.put_all.ensures.stopped

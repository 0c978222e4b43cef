-- The segments are those of the members.
use Rattle.std.proofs.Common.{◌∙◌, ap, subst, ℕ, List}
use Rattle.std.specs.Prelude.{IfErr, OnOk}
use Rattle.tor_report.specs.Put.{Puts, Stops}
use Rattle.tor_report.specs.Words.{word_of}
use Rattle.tor_cli.proofs.FoundSegments.{plain_segments}
use Rattle.tor_cli.proofs.recheck.record.put_after_files.Goals as goal

pub returns-clause-put : goal.returns-clause-put
returns-clause-put g c =
    subst
    (λ (xs : List ℕ). OnOk c.put_all.result (Puts g.S.Sink.took xs c.args.out.now c.args.buffer.now
    c.put_all.new.out c.put_all.new.self))
    (plain_segments c.args.torrent.now c.args.bits.now c.counts_of-counts.result _ c.as_bytes-2.result.now _
    c.counts_of-counts.ensures (c.as_bytes.ensures.value ∙ c.word_of.ensures ∙ ap word_of c.kind.ensures)
    (c.as_bytes-2.ensures.value ∙ c.name.ensures) c.piece_length.ensures)
    c.put_all.ensures.put

pub returns-clause-stopped : goal.returns-clause-stopped
returns-clause-stopped g c =
    subst
    (λ (xs : List ℕ). IfErr c.put_all.result (λ fault. Stops g.S.Sink.took g.S.Sink.fails xs c.args.out.now
    c.args.buffer.now c.put_all.new.out fault.written))
    (plain_segments c.args.torrent.now c.args.bits.now c.counts_of-counts.result _ c.as_bytes-2.result.now _
    c.counts_of-counts.ensures (c.as_bytes.ensures.value ∙ c.word_of.ensures ∙ ap word_of c.kind.ensures)
    (c.as_bytes-2.ensures.value ∙ c.name.ensures) c.piece_length.ensures)
    c.put_all.ensures.stopped

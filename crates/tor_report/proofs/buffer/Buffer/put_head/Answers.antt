-- The segments are those of the first lines.
use Rattle.std.proofs.Common.{◌∙◌, ap, subst, ℕ, List, length}
use Rattle.std.specs.Prelude.{IfErr, OnOk}
use Rattle.tor_spec.specs.valid.View.{FileView}
use Rattle.tor_report.specs.Put.{Puts, Stops}
use Rattle.tor_report.specs.Words.{word_of}
use Rattle.tor_report.proofs.HeadLines.{head_segments}
use Rattle.tor_report.proofs.buffer.Buffer.put_head.Goals as goal

pub returns-clause-put : goal.returns-clause-put
returns-clause-put g c =
    subst
    (λ (xs : List ℕ). OnOk c.put_all.result (Puts g.S.Sink.took xs c.args.out.now c.args.self.now
    c.put_all.new.out c.put_all.new.self))
    (head_segments c.args.torrent.now c.word_of.result.now c.as_bytes.result.now c.piece_length.result
    c.piece_count.result (length c.files.result.now)
    (c.word_of.ensures ∙ ap word_of c.kind.ensures) (c.as_bytes.ensures.value ∙ c.name.ensures)
    c.piece_length.ensures c.piece_count.ensures
    (ap (λ (files : List FileView). length files) c.files.ensures.value))
    c.put_all.ensures.put

pub returns-clause-stopped : goal.returns-clause-stopped
returns-clause-stopped g c =
    subst
    (λ (xs : List ℕ). IfErr c.put_all.result (λ fault. Stops g.S.Sink.took g.S.Sink.fails xs c.args.out.now
    c.args.self.now
    c.put_all.new.out fault.written))
    (head_segments c.args.torrent.now c.word_of.result.now c.as_bytes.result.now c.piece_length.result
    c.piece_count.result (length c.files.result.now)
    (c.word_of.ensures ∙ ap word_of c.kind.ensures) (c.as_bytes.ensures.value ∙ c.name.ensures)
    c.piece_length.ensures c.piece_count.ensures
    (ap (λ (files : List FileView). length files) c.files.ensures.value))
    c.put_all.ensures.stopped

-- the files, or the entries, of a torrent that was accepted
use Rattle.tor_view.proofs.Names.{◌≡◌, ◌∙◌, ◌<◌, ◌≤◌, ℕ, List, IfOk, ap, ap₂, subst, sym, cond-false, cond-true}
use Rattle.tor_view.proofs.Names.{entries_length, joined_spans, tree_spans, FileSpan, FileView, has_v2, MAX_TOTAL}
use Rattle.tor_view.proofs.Names.{Entry}
use Rattle.tor_view.proofs.PieceSides.{some_piece}
use Rattle.tor_view.proofs.SpanSteps.{count_of_files, few_of_cut, total_of_cut}
use Rattle.tor_view.proofs.ValidAreCut.{cut_of}
use Rattle.tor_view.proofs.spans.spans_of.Goals as goal

pub tree_spans-requires : goal.tree_spans-requires
tree_spans-requires c =
    let view = c.args.torrent.now in
    let cut = cut_of view c.files-files.ensures.valid in
    record {
      some = subst (λ n. 0 < n) (sym c.piece_length.ensures)
          (some_piece view.kind view.piece_length cut.pieces);
      few = subst (λ (n : ℕ). count_of_files n c.files-files.result.now ≤ MAX_TOTAL) (sym c.piece_length.ensures)
          (subst (λ (files : List FileView). count_of_files view.piece_length files ≤ MAX_TOTAL)
          (sym c.files-files.ensures.value) (few_of_cut view cut));
    }

pub joined_spans-requires : goal.joined_spans-requires
joined_spans-requires c =
    let view = c.args.torrent.now in
    let cut = cut_of view c.files-files.ensures.valid in
    let none = sym (c.has_v2.ensures ∙ ap has_v2 c.kind.ensures) ∙ c.if-has_v2.false in
    record {
      some = subst (λ n. 0 < n) (sym c.piece_length-2.ensures)
          (some_piece view.kind view.piece_length cut.pieces);
      total = subst (λ (entries : List Entry). entries_length entries ≤ MAX_TOTAL) (sym c.entries.ensures)
          (total_of_cut view cut none);
    }

pub returns-then-has_v2 : goal.returns-then-has_v2
returns-then-has_v2 c =
    let view = c.args.torrent.now in
    let two = sym (c.has_v2.ensures ∙ ap has_v2 c.kind.ensures) ∙ c.if-has_v2.true in
    record {
      spans = subst (λ (all : List FileSpan). IfOk c.tree_spans.result (λ spans. spans.items ≡ all))
          (ap₂ (λ n files. tree_spans n 0 files) c.piece_length.ensures c.files-files.ensures.value
          ∙ sym (cond-true (has_v2 view.kind) _ _ two)) c.tree_spans.ensures;
      cut = cut_of view c.files-files.ensures.valid;
    }

pub returns : goal.returns
returns c =
    let view = c.args.torrent.now in
    let none = sym (c.has_v2.ensures ∙ ap has_v2 c.kind.ensures) ∙ c.if-has_v2.false in
    record {
      spans = subst (λ (all : List FileSpan). IfOk c.joined_spans.result (λ spans. spans.items ≡ all))
          (ap₂ (λ n entries. joined_spans n 0 entries) c.piece_length-2.ensures c.entries.ensures
          ∙ sym (cond-false (has_v2 view.kind) _ _ none)) c.joined_spans.ensures;
      cut = cut_of view c.files-files.ensures.valid;
    }

-- each file has a span that fits
use Rattle.tor_view.proofs.Names.{◌∙◌, ℕ, List, ap, ap₂, get_or, length, map, subst, sym, take_all}
use Rattle.tor_view.proofs.Names.{length-map, no_span, FileSpan, IsSpanOf}
use Rattle.tor_view.proofs.RangeSteps.{pieced}
use Rattle.tor_view.proofs.SpanFits.{spans_fit}
use Rattle.tor_view.proofs.SpanSteps.{spans_are_counted}
use Rattle.tor_view.proofs.file_pieces.files_in_pieces.Goals as goal

pub invariant_of-push : goal.invariant_of-push
invariant_of-push c =
    let view = c.args.torrent.now in
    let spans = c.deref-span-items.ensures.value ∙ c.in_ok-spans.ensures.spans in
    subst (λ (p : ℕ). IsSpanOf p (get_or c.deref-span-items.result.now c.files.span-index no_span))
    (sym c.piece_length-piece_length.ensures)
    (subst (λ (all : List FileSpan). IsSpanOf view.piece_length (get_or all c.files.span-index no_span)) (sym spans)
    (spans_fit view c.files.span-index c.in_ok-spans.ensures.cut))

pub returns-clause-files : goal.returns-clause-files
returns-clause-files c =
    let view = c.args.torrent.now in
    let spans = c.deref-span-items.ensures.value ∙ c.in_ok-spans.ensures.spans in
    c.files.invariant
    ∙ ap (map (pieced c.piece_length-piece_length.result))
    (take_all c.files.span-index c.deref-span-items.result.now c.files-test.false)
    ∙ ap₂ (λ p all. map (pieced p) all) c.piece_length-piece_length.ensures spans

pub returns-clause-counted : goal.returns-clause-counted
returns-clause-counted c =
    let view = c.args.torrent.now in
    let spans = c.deref-span-items.ensures.value ∙ c.in_ok-spans.ensures.spans in
    let p = c.piece_length-piece_length.result in
    ap length (c.files.invariant ∙ ap (map (pieced p))
    (take_all c.files.span-index c.deref-span-items.result.now c.files-test.false))
    ∙ length-map c.deref-span-items.result.now (pieced p)
    ∙ ap length spans
    ∙ spans_are_counted view c.in_ok-spans.ensures.cut

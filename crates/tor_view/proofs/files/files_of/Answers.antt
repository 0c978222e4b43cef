-- one file after the other
use Rattle.tor_view.proofs.Names.{◌≡◌, ◌∙◌, ◌∷◌, ◌++◌, [], ap, ap₂, arith, get_or, length, map, sym, zero-add}
use Rattle.tor_view.proofs.Names.{length-map-range_with_len, map-range_with_len_more, range_with_len, file_found}
use Rattle.tor_view.proofs.Names.{file_spans, found_at, no_span}
use Rattle.tor_view.proofs.SpanSteps.{spans_are_counted}
use Rattle.tor_view.proofs.files.files_of.Goals as goal

pub files-preserved : goal.files-preserved
files-preserved c =
    let held = c.args.held.now in
    let i = c.files.index in
    let spans = c.deref-span-items.ensures.value ∙ c.in_ok-spans.ensures.spans in
    c.in_ok-push.ensures.items
    ∙ ap₂ (λ files file. files ++ file ∷ []) c.files.invariant
    (c.file_found.ensures
    ∙ ap₂ (λ all there. file_found held (get_or all i no_span) there) spans c.length_at.ensures)
    ∙ sym (map-range_with_len_more (found_at (file_spans c.args.torrent.now) c.args.lengths.now held) 0 i i
    (zero-add i))

pub returns : goal.returns
returns c =
    let view = c.args.torrent.now in
    let found = found_at (file_spans view) c.args.lengths.now c.args.held.now in
    let spans = c.deref-span-items.ensures.value ∙ c.in_ok-spans.ensures.spans in
    let all : c.files.index ≡ length c.deref-span-items.result.now =
    omega (arith, c.files-test.false, c.files.auto.index-end) in
    let told = c.files.invariant ∙ ap (λ n. map found (range_with_len 0 n)) (all ∙ ap length spans) in
    record {
      found = told;
      counted = ap length told ∙ length-map-range_with_len found 0 (length (file_spans view))
          ∙ spans_are_counted view c.in_ok-spans.ensures.cut;
    }

-- one entry after the other
use Rattle.tor_view.proofs.Names.{◌∙◌, ◌++◌, ap, sym, arith, append-nil, drop_all, joined_spans}
use Rattle.tor_view.proofs.SpanSteps.{bytes_left, joined_step}
use Rattle.tor_view.proofs.spans.joined_spans.Goals as goal

pub add_span-requires-clause-small : goal.add_span-requires-clause-small
add_span-requires-clause-small c =
    let left = bytes_left c.entries.start c.entries.entry-index _ c.args.entries.now c.entry-item.result
    c.entries-test.true c.entry-item.is c.entries.invariant.bytes in
    omega (arith, left, c.requires.total)

pub overflow_add-start : goal.overflow_add-start
overflow_add-start c =
    let left = bytes_left c.entries.start c.entries.entry-index _ c.args.entries.now c.entry-item.result
    c.entries-test.true c.entry-item.is c.entries.invariant.bytes in
    omega (arith, left, c.requires.total)

pub entries-preserved : goal.entries-preserved
entries-preserved c =
    let entries = c.args.entries.now in
    let i = c.entries.entry-index in
    record {
      spans = joined_step c.args.piece_length c.entries.start i entries c.entry-item.result _ _ _ c.entries-test.true
          c.entry-item.is c.entries.invariant.spans c.in_ok-add_span.ensures;
      bytes = bytes_left c.entries.start i _ entries c.entry-item.result c.entries-test.true c.entry-item.is
          c.entries.invariant.bytes;
    }

pub returns : goal.returns
returns c =
    let spans = c.entries.spans.items in
    sym (append-nil spans)
    ∙ ap (λ left. spans ++ joined_spans c.args.piece_length c.entries.start left)
    (sym (drop_all c.entries.entry-index c.args.entries.now c.entries-test.false))
    ∙ c.entries.invariant.spans

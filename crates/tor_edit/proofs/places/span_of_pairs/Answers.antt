use Rattle.tor_edit.proofs.Names.{◌≤◌, ◌∙◌, ap, arith, length, spelling}
use Rattle.tor_edit.proofs.Between.{bounds, is_inside}
use Rattle.tor_edit.proofs.places.span_of_pairs.Goals.{After-end_of_pairs-end}
use Rattle.tor_edit.proofs.places.span_of_pairs.Goals as goal

-- the span lies in the bytes
within : (c : After-end_of_pairs-end)
    → (c.end_of_pairs-start.result ≤ c.end_of_pairs-end.result)
    × (c.end_of_pairs-end.result ≤ length c.args.bytes.now)
within c =
    bounds c.args.pairs.now c.args.bytes.now c.args.from c.args.to c.end_of_pairs-start.result
    c.end_of_pairs-end.result c.requires.ordered (c.requires.spelled ∙ ap spelling c.requires.seen)
    c.end_of_pairs-start.ensures c.end_of_pairs-end.ensures

pub slice_bounds-result-count : goal.slice_bounds-result-count
slice_bounds-result-count c = (within c).0

pub slice_bounds-result-start : goal.slice_bounds-result-start
slice_bounds-result-start c = let bounded = within c in omega arith

pub slice_bounds-result-end : goal.slice_bounds-result-end
slice_bounds-result-end c = let bounded = within c in omega arith

pub returns : goal.returns
returns c =
    is_inside c.args.pairs.now c.args.bytes.now c.args.from c.args.to c.end_of_pairs-start.result
    c.end_of_pairs-end.result c.requires.ordered (c.requires.spelled ∙ ap spelling c.requires.seen)
    c.end_of_pairs-start.ensures c.end_of_pairs-end.ensures

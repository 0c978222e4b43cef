-- one piece after the other
use Rattle.tor_view.proofs.Names.{◌≡◌, ◌-◌, ◌+◌, ◌∙◌, map, ap, arith, false, get_or, range_with_len, set_count}
use Rattle.tor_view.proofs.Names.{true}
use Rattle.tor_view.proofs.FileBits.{bit_tested, one_piece_more}
use Rattle.tor_view.proofs.files.good_pieces.Goals.{then-eq, else-eq}
use Rattle.tor_view.proofs.files.good_pieces.Goals as goal

pub pieces-preserved : goal.pieces-preserved
pieces-preserved c =
    let held = c.args.held.now in
    let first = c.args.span.now.first in
    let i = c.pieces.index in
    let good = c.pieces.good in
    let before = c.pieces.invariant in
    let le = c.pieces.auto.index in
    let lt = c.pieces-test.true in
    let tested = bit_tested held i c.get.result c.eq.result c.get.ensures c.eq.ensures in
    elim c.if-eq.branch [
      | then-eq w ↦ record {
        counted = one_piece_more held first i good c.if-eq.good true le before.counted (tested ∙ w.if-eq.true)
            w.good-is;
        few = omega (arith, w.good-is, before.few, le);
        within = omega (arith, lt);
      }
      | else-eq w ↦ record {
        counted = one_piece_more held first i good c.if-eq.good false le before.counted (tested ∙ w.if-eq.false)
            (w.good-is ∙ (let e : good ≡ good + 0 = omega arith in e));
        few = omega (arith, w.good-is, before.few, le);
        within = omega (arith, lt);
      }
    ]

pub returns : goal.returns
returns c =
    let held = c.args.held.now in
    let span = c.args.span.now in
    let same : c.pieces.index - span.first ≡ span.after - span.first =
    omega (arith, c.pieces-test.false, c.pieces.invariant.within, c.pieces.auto.index) in
    c.pieces.invariant.counted
    ∙ ap (λ n. set_count (map (λ k. get_or held k false) (range_with_len span.first n))) same

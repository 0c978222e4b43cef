-- one piece after the other
use Rattle.tor_view.proofs.Names.{◌≡◌, ◌∙◌, ◌+◌, ◌-◌, ◌<◌, ap, arith, false, get_or, subst, sym, refl, List, []}
use Rattle.tor_view.proofs.RangeSteps.{after_bad, after_good, all_found, all_pieces, along, at_first, pieced}
use Rattle.tor_view.proofs.Names.{AreRangesOf, is_bad_byte, with_range, ByteRange}
use Rattle.tor_view.proofs.file_pieces.bad_ranges.Goals.{then-is_set+in_ok-add_range, else-is_set}
use Rattle.tor_view.proofs.file_pieces.bad_ranges.Goals as goal

pub pieces-init : goal.pieces-init
pieces-init c =
    along c.args.piece_length c.args.span.now c.args.bits.now 0 _ 0 0 0 _ [] _ (omega arith) refl
    c.new-ranges.ensures.items (at_first c.args.piece_length c.args.span.now c.args.bits.now c.requires)

pub pieces-preserved : goal.pieces-preserved
pieces-preserved c =
    let p = c.args.piece_length in
    let span = c.args.span.now in
    let bits = c.args.bits.now in
    let k = c.pieces.piece - span.first in
    let low = c.pieces.auto.piece in
    let within : k < span.after - span.first = omega (arith, c.pieces-test.true, low) in
    let next : c.pieces.piece + 1 - span.first ≡ k + 1 = omega (arith, low) in
    let here : span.first + k ≡ c.pieces.piece = omega (arith, low) in
    let bit = ap (λ n. get_or bits n false) here ∙ sym c.is_set.ensures in
    let from = c.pieces.from in
    let begun = c.pieces.begun in
    let ranges = c.pieces.ranges.items in
    elim c.if-is_set.branch [
      | then-is_set+in_ok-add_range w ↦
          along p span bits (k + 1) _ (from + c.min.result) _ _ p (with_range ranges begun from) _ next w.begun-is
          (ap (λ all. all.items) w.ranges-is ∙ w.in_ok-add_range.ensures)
          (after_good p span bits c.requires k within begun from c.pieces.room c.min.result ranges c.pieces.invariant
          c.min.ensures (bit ∙ w.if-is_set.true))
      | else-is_set w ↦
          along p span bits (k + 1) _ begun _ _ p ranges _ next w.begun-is (ap (λ all. all.items) w.ranges-is)
          (after_bad p span bits c.requires k within begun from c.pieces.room c.min.result ranges c.pieces.invariant
          c.min.ensures (bit ∙ w.if-is_set.false))
    ]

pub returns : goal.returns
returns c =
    let p = c.args.piece_length in
    let span = c.args.span.now in
    let bits = c.args.bits.now in
    subst (λ (all : List ByteRange). AreRangesOf (is_bad_byte (pieced p span) bits) all) (sym c.in_ok-add_range-2.ensures)
    (all_found p span bits c.requires (c.pieces.piece - span.first) c.pieces.begun c.pieces.from c.pieces.room
    c.pieces.ranges.items (all_pieces p span c.requires c.pieces.piece c.pieces.auto.piece c.pieces-test.false
    c.pieces.auto.piece-end) c.pieces.invariant)

-- One more entry of the content.
use Rattle.std.proofs.Common.{◌∙◌, ◌++◌, ap}
use Rattle.std.specs.Slice.Iter.{iter_rest}
use Rattle.tor_meta.specs.steps.Contents.{bytes_of}
use Rattle.tor_v1.specs.Content.{joined_content, v1_pieces}
use Rattle.tor_v1.specs.Piece.{piece_sums, zeros}
use Rattle.tor_meta.proofs.SumSteps.{all_fed, left_next, left_none, left_padding, no_items}
use Rattle.tor_meta.proofs.sums.sum_pieces.Goals as goal

pub loop-entry-preserved-then-entry : goal.loop-entry-preserved-then-entry
loop-entry-preserved-then-entry c =
    let before = c.loop-entry.invariant in
    let entry = c.entry-item.result in (
      before.0 ++ zeros entry.length,
      c.in_ok-feed_zeros.ensures.ok c.args.piece_length before.0 before.1,
      left_padding before.0 c.args.entries.now c.loop-entry.entry-index (bytes_of (iter_rest c.loop-entry.left))
          (joined_content c.args.entries.now (bytes_of c.args.contents.now)) entry
          c.loop-entry-test.true c.entry-item.is c.if-entry.true before.2,
    )

pub loop-entry-preserved-in_default : goal.loop-entry-preserved-in_default
loop-entry-preserved-in_default c =
    let before = c.loop-entry.invariant in
    let end = c.in_default.ensures.steps in
    let none = ap bytes_of (no_items (iter_rest c.loop-entry.left) end.0) in (
      before.0,
      before.1,
      rw end.1
          (left_none before.0 c.args.entries.now c.loop-entry.entry-index (bytes_of (iter_rest c.loop-entry.left))
          (joined_content c.args.entries.now (bytes_of c.args.contents.now)) c.entry-item.result
          none c.loop-entry-test.true c.entry-item.is c.if-entry.false before.2),
    )

pub loop-entry-preserved : goal.loop-entry-preserved
loop-entry-preserved c =
    let before = c.loop-entry.invariant in
    let entry = c.entry-item.result in (
      before.0 ++ c.in-Some.content.now.now,
      c.in_ok-feed.ensures.ok c.args.piece_length before.0 before.1,
      left_next before.0 c.args.entries.now c.loop-entry.entry-index (bytes_of (iter_rest c.loop-entry.left))
          (joined_content c.args.entries.now (bytes_of c.args.contents.now)) entry
          c.in-Some.content.now.now (bytes_of (iter_rest c.next.new.self)) (ap bytes_of c.in-Some.ensures.steps)
          c.loop-entry-test.true c.entry-item.is c.if-entry.false before.2,
    )

pub returns : goal.returns
unfolding v1_pieces
returns c =
    let before = c.loop-entry.invariant in
    c.finish.ensures c.args.piece_length before.0 before.1
    ∙ ap (piece_sums c.args.piece_length)
    (all_fed before.0 c.args.entries.now c.loop-entry.entry-index (bytes_of (iter_rest c.loop-entry.left))
    (joined_content c.args.entries.now (bytes_of c.args.contents.now)) c.loop-entry-test.false before.2)

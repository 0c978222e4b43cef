-- one piece is a span, and eight are; both have fewer bytes than more pieces
use Rattle.std.proofs.Common.{◌<◌, ℕ, arith, le_trans, mul-le-mul_right, refl}
use Rattle.tor_streams.specs.Streams.{IsStreamCut}
use Rattle.tor_streams.proofs.lane_span.lane_span.Goals as goal
use Rattle.tor_tree.specs.declared.kinds.Kind.{Kind}
use lib.Count.{ones}

cut_by_one : (kind : Kind) (p span : ℕ) → IsStreamCut kind p span → IsStreamCut kind p 1
unfolding ones
cut_by_one kind p span cut = record {
  pieces = cut.pieces;
  is_span = (refl, omega arith, omega arith);
  small = le_trans (mul-le-mul_right {m = 1} {n = span} p cut.is_span.1) cut.small;
}

cut_by_eight : (kind : Kind) (p span : ℕ) → 8 < span → IsStreamCut kind p span → IsStreamCut kind p 8
unfolding ones
cut_by_eight kind p span more cut = record {
  pieces = cut.pieces;
  is_span = (refl, omega arith, omega arith);
  small = le_trans (mul-le-mul_right {m = 8} {n = span} p (omega (arith, more))) cut.small;
}

pub returns-then-is_alone-clause-cut : goal.returns-then-is_alone-clause-cut
returns-then-is_alone-clause-cut c = cut_by_one c.args.kind c.args.piece_length c.args.span c.requires

pub returns-clause-cut : goal.returns-clause-cut
returns-clause-cut c =
    cut_by_eight c.args.kind c.args.piece_length c.args.span c.if-span-le-PIECES_AT_ONCE.false c.requires

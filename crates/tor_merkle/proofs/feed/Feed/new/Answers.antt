-- the level of a piece of 16,384 * 2 ^ k bytes
use Rattle.tor_merkle.proofs.Names.{◌*◌, ◌^◌, length, arith, ap, ◌∙◌, sym}
use Rattle.tor_merkle.proofs.Ceil.{ceil_at_most}
use Rattle.tor_merkle.proofs.Lengths.{length_bounds, length_split, level_is}
use Rattle.tor_merkle.proofs.feed.Feed.new.Goals as goal

pub invariant_of-result : goal.invariant_of-result
invariant_of-result c =
    let bounds = (length_bounds c.args.piece_length).0 c.requires in
    let piece = length_split c.args.piece_length c.requires in
    let level = c.new.ensures.height ∙ c.piece_level.ensures.value in
    let none = ap length c.new.ensures.bytes in
    record {
      allowed = c.requires;
      low = omega (arith, c.new.ensures.height, c.piece_level.ensures.low);
      piece =
          piece.1 ∙ ap (λ k. 16384 * 2 ^ k) (sym (level ∙ level_is c.args.piece_length piece.0 piece.1));
      small = omega (arith, none);
      reserved =
          ceil_at_most (length c.new.result.bytes) c.args.piece_length c.new.result.capacity (omega (arith, bounds.1))
          (omega (arith, none));
    }

-- A tree of at most 2 ^ 36 hashes.
use Rattle.std.proofs.Common.{arith, le_trans}
use Rattle.std.proofs.Math.Pow.{pow_mono}
use Rattle.tor_c.proofs.verify.answer_to_hash.Goals as goal

pub height_of-requires : goal.height_of-requires
height_of-requires c =
    let claim = c.args.claim.now in
    let low = c.proofs_are_low.ensures claim.size claim.piece_length c.requires.allowed c.requires.small in
    let few = le_trans (c.heights_are_least.ensures.covers _) (pow_mono {j = 36} (omega (arith, low))) in
    rw c.proof_count-count.ensures few

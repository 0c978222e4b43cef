-- a tree of at most 2 ^ 36 leaves
use Rattle.tor_merkle.proofs.Names.{arith}
use Rattle.tor_merkle.proofs.Height.{low_height}
use Rattle.tor_merkle.proofs.judge.verify.Goals as goal

pub height_of-requires : goal.height_of-requires
height_of-requires c = low_height c.args.count 36 (omega arith)

pub has_zeros_past_end-requires-clause-within : goal.has_zeros_past_end-requires-clause-within
has_zeros_past_end-requires-clause-within c = omega (arith, low_height c.args.count 36 (omega arith))

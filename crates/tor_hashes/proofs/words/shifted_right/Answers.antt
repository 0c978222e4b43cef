use Rattle.std.proofs.Common.{arith}
use Rattle.std.proofs.lemmas.Simd.{shifts_fit_splat}
use Rattle.tor_hashes.proofs.Lanes.{lane_splat, lowered}
use Rattle.tor_hashes.proofs.words.shifted_right.Goals as goal

pub overflow_shr-result : goal.overflow_shr-result
overflow_shr-result c = shifts_fit_splat 32 c.args.x 8 c.args.n (omega arith)

pub returns : goal.returns
returns c j h = lane_splat lowered c.args.x 8 c.args.n j c.fits-x.0 h

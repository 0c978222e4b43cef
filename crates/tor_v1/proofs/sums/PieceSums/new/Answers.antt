-- no byte
use Rattle.std.proofs.Common.{refl, arith}
use Rattle.tor_v1.proofs.Fed.{HasFed-nil}
use Rattle.tor_v1.proofs.sums.PieceSums.new.Goals as goal

pub returns : goal.returns
returns c = HasFed-nil _ c.args.piece_length refl (omega arith) refl c.new-2.ensures.items c.new.ensures

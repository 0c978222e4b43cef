use Rattle.std.proofs.lemmas.List.{take-replicate}
use Rattle.tor_v1.specs.Piece.{zeros}
use Rattle.tor_v1.proofs.sums.zeros.Goals as goal

pub returns : goal.returns
unfolding zeros
returns c = take-replicate c.args.count 1024 0 c.requires

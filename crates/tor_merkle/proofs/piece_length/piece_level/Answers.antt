-- a piece has at most 2 ^ 16 blocks
use Rattle.tor_merkle.proofs.Names.{arith}
use Rattle.tor_merkle.proofs.Lengths.{level_low}
use Rattle.tor_merkle.proofs.piece_length.piece_level.Goals as goal

pub returns-clause-low : goal.returns-clause-low
returns-clause-low c = omega (arith, c.height_of.ensures, level_low c.args.n c.requires)

-- few hashes have few levels
use Rattle.std.proofs.Common.{length, arith}
use Rattle.tor_merkle.proofs.ProvedLaws.{height_least}
use Rattle.tor_tests_low.proofs.merkle.piece_proofs.proof_of.Goals as goal

pub prove-requires : goal.prove-requires
prove-requires g c = record { low = omega (arith, height_least (length c.args.hashes.now) 20 (omega arith)) }

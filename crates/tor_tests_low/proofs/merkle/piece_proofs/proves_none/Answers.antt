-- no hash has no level
use Rattle.std.proofs.Common.{arith}
use Rattle.tor_merkle.proofs.ProvedLaws.{height_least}
use Rattle.tor_tests_low.proofs.merkle.piece_proofs.proves_none.Goals as goal

pub verify-requires : goal.verify-requires
verify-requires c = record { low = omega (arith, height_least 0 0 (omega arith)) }

-- Yes exactly if the proof holds and the piece has its hash.
use Rattle.std.proofs.Common.{refl}
use Rattle.tor_cli.proofs.proof.verify.answer_of_piece.Goals as goal

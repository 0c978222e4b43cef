use Rattle.tor_v1.proofs.Fed.{sums-short}
use Rattle.tor_v1.proofs.sums.PieceSums.finish.Goals as goal

pub returns-then-begun-gt0 : goal.returns-then-begun-gt0
returns-then-begun-gt0 c =
    λ p bytes fed. sums-short c.args.self p bytes fed _ c.if-begun-gt0.true c.end_piece.ensures.hashed

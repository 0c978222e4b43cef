use Rattle.std.specs.Prelude.{List, [], ◌∷◌}
use Rattle.std.proofs.Common.{ℕ, ap₂}
use Rattle.tor_hashes.proofs.Shuffles.{shuffled}
use Rattle.tor_hashes.proofs.transposed.pairs.Goals as goal

pub returns : goal.returns
returns c =
    let first = shuffled c.args.x c.args.y (0 ∷ 1 ∷ 8 ∷ 9 ∷ 4 ∷ 5 ∷ 12 ∷ 13 ∷ []) c.fits-x.0 in
    let second = shuffled c.args.x c.args.y (2 ∷ 3 ∷ 10 ∷ 11 ∷ 6 ∷ 7 ∷ 14 ∷ 15 ∷ []) c.fits-x.0 in
    ap₂ (λ (x y : List ℕ). (x, y)) first second

use Rattle.std.specs.Prelude.{List, [], ◌∷◌}
use Rattle.std.proofs.Common.{ℕ, ap₂}
use Rattle.tor_hashes.proofs.Shuffles.{shuffled}
use Rattle.tor_hashes.proofs.transposed.singles.Goals as goal

pub returns : goal.returns
returns c =
    let first = shuffled c.args.x c.args.y (0 ∷ 8 ∷ 2 ∷ 10 ∷ 4 ∷ 12 ∷ 6 ∷ 14 ∷ []) c.fits-x.0 in
    let second = shuffled c.args.x c.args.y (1 ∷ 9 ∷ 3 ∷ 11 ∷ 5 ∷ 13 ∷ 7 ∷ 15 ∷ []) c.fits-x.0 in
    ap₂ (λ (x y : List ℕ). (x, y)) first second

-- Zero bytes.
use Rattle.std.proofs.Common.{◌≡◌, ℕ, [], refl, ◌+◌, ◌++◌, length}
use Rattle.std.proofs.lemmas.List.{length-replicate, replicate-append-replicate}
use Rattle.tor_v1.specs.Piece.{zeros}

pub zeros-nil : zeros 0 ≡ []
unfolding zeros
zeros-nil = refl

pub length-zeros : (n : ℕ) → length (zeros n) ≡ n
unfolding zeros
length-zeros n = length-replicate n 0

pub zeros-append : (n m : ℕ) → zeros n ++ zeros m ≡ zeros (n + m)
unfolding zeros
zeros-append n m = replicate-append-replicate n m 0

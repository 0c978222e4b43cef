-- Zeros.
use Rattle.tor_plan.proofs.Names.{◌≡◌, ℕ, ◌+◌, [], ◌++◌, sym, nil_from_length}
use Rattle.tor_plan.proofs.Names.{replicate-append-replicate, zeros, length_of_zeros}

pub zeros-nil : zeros 0 ≡ []
zeros-nil = nil_from_length (zeros 0) (length_of_zeros 0)

pub zeros-add : (n m : ℕ) → zeros (n + m) ≡ zeros n ++ zeros m
unfolding zeros
zeros-add n m = sym (replicate-append-replicate n m 0)

-- A tree over the pieces of a file has its root at level 36 at most.
use Rattle.tor_check.proofs.Names.{◌≡◌, ℕ, ◌+◌, ◌<◌, ◌≤◌, cond-true, lt-ltb, div_ceil, proofs_are_low, IsPieceLength}
use Rattle.tor_check.proofs.Names.{piece_level, proof_count, proof_level, height, MAX_LENGTH}

-- a file of n bytes, longer than a piece
pub low_root : (p n count level : ℕ) → IsPieceLength p → n ≤ MAX_LENGTH → p < n → count ≡ div_ceil n p
    → level ≡ piece_level p → level + height count ≤ 36
low_root p n count level allowed small long is at =
    let low = proofs_are_low n p allowed small in
    let level_is : proof_level n p ≡ piece_level p = cond-true _ _ _ (lt-ltb p n long) in
    let count_is : proof_count n p ≡ div_ceil n p = cond-true _ _ _ (lt-ltb p n long) in
    rw (is, at) (rw count_is at (rw level_is at low))

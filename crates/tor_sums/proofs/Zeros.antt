-- Zeros that are fed to the sums of pieces, run by run.
use Rattle.std.proofs.Common.{◌≡◌, ℕ, ◌+◌, ◌<◌, ◌≤◌, ◌++◌, List, Result, Ok, Err, OnErr, ap, sym, subst, ◌∙◌}
use Rattle.std.proofs.Common.{append-nil, append_assoc, arith, length, length-append}
use Rattle.std.proofs.lemmas.List.{length-replicate, replicate-append-replicate}
use Rattle.std.specs.Int.{div_ceil}
use Rattle.tor_merkle.proofs.ProvedLaws.{ceil_mono}
use Rattle.tor_v1.specs.Feeding.{HasFed, Feeds}
use Rattle.tor_v1.specs.Piece.{zeros}
use Rattle.tor_v1.specs.declared.sums.PieceSums.{PieceSums}

pub feeds_none : (sums : PieceSums) (n : ℕ) → n ≡ 0 → Feeds sums sums (zeros n)
unfolding zeros
feeds_none sums n none = λ p bytes fed.
    subst (λ (xs : List ℕ). HasFed sums p xs) (sym (ap (λ k. bytes ++ zeros k) none ∙ append-nil bytes)) fed

pub feeds_more : (old sums new : PieceSums) (n m k : ℕ) → n + m ≡ k → Feeds old sums (zeros n)
    → Feeds sums new (zeros m) → Feeds old new (zeros k)
unfolding zeros
feeds_more old sums new n m k is first second = λ p bytes fed.
    subst (λ (xs : List ℕ). HasFed new p xs)
    (append_assoc bytes (zeros n) (zeros m)
    ∙ ap (λ xs. bytes ++ xs) (replicate-append-replicate n m 0 ∙ ap zeros is))
    (second p (bytes ++ zeros n) (first p bytes fed))

-- what holds, holds where the result is Err
pub if_err : {A E P : Type 0} (result : Result A E) → P → OnErr result P
if_err (Ok x) holds = tt
if_err (Err error) holds = holds

-- how many bytes there are with so many zeros
pub length_with_zeros : (xs : List ℕ) (n : ℕ) → length (xs ++ zeros n) ≡ length xs + n
unfolding zeros
length_with_zeros xs n = length-append xs (zeros n) ∙ ap (λ k. length xs + k) (length-replicate n 0)

-- where more bytes begin no piece, some of them begin none after others of them
pub some_begin_none : (length done some more m : ℕ) → 0 < m → done + some ≤ more
    → div_ceil (length + more) m ≤ div_ceil length m
    → div_ceil (length + done + some) m ≤ div_ceil (length + done) m
some_begin_none length done some more m pos le none =
    let low = ceil_mono (length + done + some) (length + more) m pos (omega (arith, le)) in
    let high = ceil_mono length (length + done) m pos (omega arith) in
    omega (arith, low, none, high)

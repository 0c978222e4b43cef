-- A slice that is a whole vector, written back.
use Rattle.std.proofs.Common.{◌≡◌, ℕ, List, ◌++◌, length, append-nil, arith, ap, ◌∙◌, take, drop}
use Rattle.std.proofs.lemmas.List.{drop_all, take_all}

pub written_whole : {X : Type 0} (xs ys : List X) (n : ℕ) → length ys ≡ length xs → n ≡ length xs
    → take n (ys ++ drop (length ys) xs) ≡ ys
written_whole xs ys n same whole =
    ap (λ zs. take n (ys ++ zs)) (drop_all (length ys) xs (omega (arith, same))) ∙ ap (take n) (append-nil ys)
    ∙ take_all n ys (omega (arith, same, whole))

-- Paths without letters, and lists of as many files as there are letters.
use Rattle.std.proofs.Common.{◌≡◌, ℕ, List, [], ◌∷◌, length, refl, ap, arith}
use Rattle.std.specs.List.{zip}
use Rattle.tor_meta.specs.Contents.{without_letters}
use Rattle.tor_tree.specs.FileList.{paths_of}

pub paths_alone : (paths : List (List (List ℕ))) → paths_of (without_letters paths) ≡ paths
paths_alone [] = refl
paths_alone (path ∷ paths) = ap (λ (ps : List (List (List ℕ))). path ∷ ps) (paths_alone paths)

pub length-zip : {A B : Type 0} (xs : List A) (ys : List B) → length ys ≡ length xs → length (zip xs ys) ≡ length xs
length-zip [] ys same = refl
length-zip (x ∷ xs) [] same = absurd (omega (arith, same))
length-zip (x ∷ xs) (y ∷ ys) same = omega (arith, length-zip xs ys (omega (arith, same)))

-- A list of files has the same fault in every order.
use Rattle.tor_tree.proofs.Cited.{◌≡◌, ℕ, Bool, cond, List, [], ◌∷◌, ◌++◌, length, take, drop, subst, count_by, nat_lt}
use Rattle.tor_tree.proofs.Cited.{refl, sym, ap, ◌∙◌, list_any, IsPermutation, IsPermutation-map}
use Rattle.tor_tree.proofs.Cited.{list_any-IsPermutation, sum_by-IsPermutation, length_permutation, take-append_seam}
use Rattle.tor_tree.proofs.Cited.{paths_of, lengths_of, paths_repeat, paths_nest, paths_fault, lengths_fault}
use Rattle.tor_tree.proofs.Cited.{list_fault, is_inside, path_eq, MAX_LENGTH}
use Rattle.tor_tree.proofs.Lengths.{rounded}

-- tests that agree find the same in a list
list_any-same : {X : Type 0} (p q : X → Bool) → ((x : X) → p x ≡ q x) → (xs : List X) → list_any p xs ≡ list_any q xs
list_any-same p q same [] = refl
list_any-same p q same (x ∷ xs) = rw (same x, list_any-same p q same xs) refl

paths_repeat-permutation : (ps qs : List (List (List ℕ))) → IsPermutation ps qs → paths_repeat ps ≡ paths_repeat qs
paths_repeat-permutation ps qs moved =
    list_any-IsPermutation (λ path. nat_lt 1 (count_by (path_eq path) ps)) ps qs moved
    ∙ list_any-same _ _
    (λ path. ap (nat_lt 1) (sym (sum_by-IsPermutation (λ p. cond (path_eq path p) 1 0) ps qs moved))) qs

paths_nest-permutation : (ps qs : List (List (List ℕ))) → IsPermutation ps qs → paths_nest ps ≡ paths_nest qs
paths_nest-permutation ps qs moved =
    list_any-IsPermutation (λ folder. list_any (is_inside folder) ps) ps qs moved
    ∙ list_any-same _ _ (λ folder. list_any-IsPermutation (is_inside folder) ps qs moved) qs

pub paths_fault-permutation : (ps qs : List (List (List ℕ))) → IsPermutation ps qs → paths_fault ps ≡ paths_fault qs
paths_fault-permutation ps qs moved =
    rw (sym (length_permutation ps qs moved), paths_repeat-permutation ps qs moved, paths_nest-permutation ps qs moved)
    refl

pub lengths_fault-permutation : (ms ns : List ℕ) → IsPermutation ms ns → lengths_fault ms ≡ lengths_fault ns
lengths_fault-permutation ms ns moved =
    rw (list_any-IsPermutation (nat_lt MAX_LENGTH) ms ns moved, sum_by-IsPermutation rounded ms ns moved) refl

pub list_fault-permutation : (xs ys : List (List (List ℕ) × ℕ)) → IsPermutation xs ys → list_fault xs ≡ list_fault ys
list_fault-permutation xs ys moved =
    let paths = IsPermutation-map (λ file. file.0) xs ys moved in
    let lengths = IsPermutation-map (λ file. file.1) xs ys moved in
    rw (
      paths_fault-permutation (paths_of xs) (paths_of ys) paths,
      lengths_fault-permutation (lengths_of xs) (lengths_of ys) lengths,
    )
    refl

-- a slice of all elements, moved and written back to its vector of n elements
pub permutation-written_back : {X : Type 0} (n : ℕ) (xs part sorted after : List X) → n ≡ length xs → part ≡ xs
    → IsPermutation part sorted → after ≡ take n (sorted ++ drop (length sorted) xs) → IsPermutation xs after
permutation-written_back {X} n xs part sorted after count whole moved is =
    let from_xs : IsPermutation xs sorted = rw whole at moved in
    let seam : take n (sorted ++ drop (length sorted) xs) ≡ sorted =
    rw (count ∙ sym (length_permutation xs sorted from_xs)) (take-append_seam sorted (drop (length sorted) xs)) in
    let P : List X → Type 0 = IsPermutation xs in
    subst P (sym (is ∙ seam)) from_xs

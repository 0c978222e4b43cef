-- Paths with their indices among those that were handed in, and what stands at those indices.
use Rattle.tor_tree.proofs.Cited.{◌≡◌, ℕ, ◌+◌, ◌<◌, List, [], ◌∷◌, length, get_or, map, refl, sym, ap, ◌∙◌, subst}
use Rattle.tor_tree.proofs.Cited.{zero-add, arith, All, enumerate_from, range_with_len, IsPermutation, get_or-map}
use Rattle.tor_tree.proofs.Cited.{length-map, fill_by_all, get_or-enumerate_from, get_or-range_with_len}
use Rattle.tor_tree.proofs.Cited.{length-enumerate_from, length-range_with_len, All-permutation, IsPermutation-map}
use Rattle.tor_tree.proofs.Cited.{length_permutation, lengths_fault, lengths_of, paths_fault, paths_of, AreIndexedPaths}
use Rattle.tor_tree.proofs.Cited.{AreIndices, indices_of, with_indices}
use Rattle.tor_tree.proofs.Permuted.{lengths_fault-permutation, paths_fault-permutation}

-- what stands at the indices, which are all indices of a list, is the list in another order
pub moved_to_indices : {X : Type 0} (xs : List X) (d : X) (indices : List ℕ) → AreIndices indices
    → length indices ≡ length xs → IsPermutation xs (map (λ index. get_or xs index d) indices)
moved_to_indices {X} xs d indices are count =
    let whole : xs ≡ map (λ index. get_or xs index d) (range_with_len 0 (length indices)) =
    fill_by_all (λ index. get_or xs index d) xs (length indices) d (sym count) (λ k lt. refl) in
    subst (λ (ys : List X). IsPermutation ys (map (λ index. get_or xs index d) indices)) (sym whole)
    (IsPermutation-map (λ index. get_or xs index d) (range_with_len 0 (length indices)) indices are)

paths_from : (n : ℕ) (paths : List (List (List ℕ))) → paths_of (map (λ p. (p.1, p.0)) (enumerate_from n paths)) ≡ paths
paths_from n [] = refl
paths_from n (path ∷ paths) = ap (λ ps. path ∷ ps) (paths_from (n + 1) paths)

indices_from : (n : ℕ) (paths : List (List (List ℕ)))
    → indices_of (map (λ p. (p.1, p.0)) (enumerate_from n paths)) ≡ range_with_len n (length paths)
indices_from n [] = refl
indices_from n (path ∷ paths) = ap (λ ns. n ∷ ns) (indices_from (n + 1) paths)

found_at : (paths : List (List (List ℕ))) → All (λ entry. get_or paths entry.1 [] ≡ entry.0) (with_indices paths)
found_at paths k d lt =
    let pairs = enumerate_from 0 paths in
    let within : k < length pairs = rw length-map at lt in
    let here : k < length paths = rw length-enumerate_from at within in
    let e : ℕ × List (List ℕ) = (0, []) in
    let is : get_or pairs k e ≡ (0 + k, get_or paths k []) = get_or-enumerate_from 0 paths k e here in
    let shown : get_or (with_indices paths) k d ≡ (get_or paths k [], k) =
    get_or-map (λ p. (p.1, p.0)) pairs k e d within ∙ ap (λ p. (p.1, p.0)) is
    ∙ ap (λ n. (get_or paths k [], n)) (zero-add k) in
    rw shown refl

module _ (paths : List (List (List ℕ))) (entries : List (List (List ℕ) × ℕ))
    (moved : IsPermutation (with_indices paths) entries) where
  pub indexed_count : length entries ≡ length paths
  indexed_count = length_permutation (with_indices paths) entries moved
      ∙ length-map (enumerate_from 0 paths) (λ p. (p.1, p.0)) ∙ length-enumerate_from 0 paths

  pub indexed_paths : AreIndexedPaths paths entries
  indexed_paths =
      let same : length paths ≡ length (indices_of entries) =
      sym indexed_count ∙ sym (length-map entries (λ entry. entry.1)) in
      let indices : IsPermutation (range_with_len 0 (length paths)) (indices_of entries) =
      subst (λ (ns : List ℕ). IsPermutation ns (indices_of entries)) (indices_from 0 paths)
      (IsPermutation-map (λ entry. entry.1) (with_indices paths) entries moved) in
      record {
        one_each = indexed_count;
        indices = subst (λ (n : ℕ). IsPermutation (range_with_len 0 n) (indices_of entries)) same indices;
        found = All-permutation (λ entry. get_or paths entry.1 [] ≡ entry.0) (with_indices paths) entries moved
            (found_at paths);
      }

  pub indexed_fault : paths_fault paths ≡ paths_fault (paths_of entries)
  indexed_fault =
      ap paths_fault (sym (paths_from 0 paths))
      ∙ paths_fault-permutation (paths_of (with_indices paths)) (paths_of entries)
      (IsPermutation-map (λ entry. entry.0) (with_indices paths) entries moved)

-- the files of entries, with the lengths at their indices
module _ (lengths : List ℕ) where
  abbrev pub with_lengths : List (List (List ℕ) × ℕ) → List (List (List ℕ) × ℕ)
  with_lengths entries = map (λ entry. (entry.0, get_or lengths entry.1 0)) entries

  pub same_paths : (entries : List (List (List ℕ) × ℕ)) → paths_of (with_lengths entries) ≡ paths_of entries
  same_paths [] = refl
  same_paths (entry ∷ entries) = ap (λ ps. entry.0 ∷ ps) (same_paths entries)

  lengths_at : (entries : List (List (List ℕ) × ℕ))
      → lengths_of (with_lengths entries) ≡ map (λ index. get_or lengths index 0) (indices_of entries)
  lengths_at [] = refl
  lengths_at (entry ∷ entries) = ap (λ ns. get_or lengths entry.1 0 ∷ ns) (lengths_at entries)

  module _ (entries : List (List (List ℕ) × ℕ)) (are : AreIndices (indices_of entries))
      (one_each : length lengths ≡ length entries) where
    pub lengths_indexed : lengths_fault (lengths_of (with_lengths entries)) ≡ lengths_fault lengths
    lengths_indexed =
        ap lengths_fault (lengths_at entries)
        ∙ sym (lengths_fault-permutation lengths (map (λ index. get_or lengths index 0) (indices_of entries))
        (moved_to_indices lengths 0 (indices_of entries) are (length-map entries (λ entry. entry.1) ∙ sym one_each)))

    pub indices_within : All (λ entry. entry.1 < length lengths) entries
    indices_within k d lt =
        let n = length (indices_of entries) in
        let below : All (λ index. index < n) (range_with_len 0 n) =
        λ i e within. rw (get_or-range_with_len 0 n i e (rw length-range_with_len at within))
        (omega (arith, rw length-range_with_len at within)) in
        let each = All-permutation (λ index. index < n) (range_with_len 0 n) (indices_of entries) are below k 0
        (rw length-map lt) in
        let at : get_or (indices_of entries) k 0 ≡ (get_or entries k d).1 =
        get_or-map (λ entry. entry.1) entries k d 0 lt in
        omega (arith, rw at at each, one_each, length-map entries (λ entry. entry.1))

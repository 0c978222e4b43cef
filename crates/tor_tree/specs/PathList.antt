-- Lists of paths: each with its index among those that were handed in, counted from 0.
use Rattle.std.specs.Prelude.{◌≡◌, ℕ, All, List, [], length, map, None, slice_index_or}
use Rattle.std.specs.List.{enumerate_from, range_with_len}
use Rattle.std.specs.List.Sorted.{IsPermutation}
use Rattle.tor_tree.specs.FileList.{IsInPathOrder, paths_fault, paths_of}
use Rattle.tor_tree.specs.Path.{IsFilePath}

abbrev pub indices_of : List (List (List ℕ) × ℕ) → List ℕ
indices_of entries = map (λ entry. entry.1) entries

-- the indices 0, 1, .. in some order, each once
abbrev pub AreIndices : List ℕ → Type 0
AreIndices indices = IsPermutation (range_with_len 0 (length indices)) indices

-- what every list of paths keeps
pub record IsPathList (entries : List (List (List ℕ) × ℕ)) : Type 0 where
  pub faultless : paths_fault (paths_of entries) ≡ None
  pub in_order : IsInPathOrder entries
  pub named : All (λ entry. IsFilePath entry.0) entries
  pub indices : AreIndices (indices_of entries)

-- the entries are the paths that were handed in, each with its index
pub record AreIndexedPaths (paths : List (List (List ℕ))) (entries : List (List (List ℕ) × ℕ)) : Type 0 where
  pub one_each : length entries ≡ length paths
  pub indices : AreIndices (indices_of entries)
  pub found : All (λ entry. slice_index_or paths entry.1 [] ≡ entry.0) entries

-- paths as they were handed in, each with its index, for the clauses of private functions
abbrev pub with_indices : List (List (List ℕ)) → List (List (List ℕ) × ℕ)
with_indices paths = map (λ p. (p.1, p.0)) (enumerate_from 0 paths)

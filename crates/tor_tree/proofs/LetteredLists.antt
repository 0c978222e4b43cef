-- Files with letters, put into the order of their paths and taken apart.
use Rattle.tor_tree.proofs.Cited.{◌≡◌, ℕ, List, [], ◌∷◌, map, refl, sym, ap, ◌∙◌, IsPermutation}
use Rattle.tor_tree.proofs.Cited.{Attr, IsPermutation-map, list_fault, paths_of, zip}
use Rattle.tor_tree.proofs.Permuted.{list_fault-permutation}

-- a file, as it stands among those that are sorted
abbrev pub Sorted : Type 0
Sorted = List (List ℕ) × (ℕ × Attr)

abbrev pub file_in : Sorted → List (List ℕ) × ℕ
file_in entry = (entry.0, entry.1.0)

abbrev pub letters_in : Sorted → Attr
letters_in entry = entry.1.1

pub paths_apart : (entries : List Sorted) → paths_of (map file_in entries) ≡ paths_of entries
paths_apart [] = refl
paths_apart (entry ∷ entries) = ap (λ paths. entry.0 ∷ paths) (paths_apart entries)

-- what was handed in
abbrev pub Given : Type 0
Given = List (List ℕ) × ℕ × Attr

abbrev pub entry_of : Given → Sorted
entry_of file = (file.0, (file.1, file.2))

-- each file with its letters
abbrev pub Lettered : Type 0
Lettered = (List (List ℕ) × ℕ) × Attr

abbrev pub lettered_of : Given → Lettered
lettered_of file = ((file.0, file.1), file.2)

abbrev plain_of : Given → List (List ℕ) × ℕ
plain_of file = (file.0, file.1)

abbrev both_in : Sorted → Lettered
both_in entry = (file_in entry, letters_in entry)

zipped : (entries : List Sorted)
    → map both_in entries ≡ zip (map file_in entries) (map letters_in entries)
zipped [] = refl
zipped (entry ∷ entries) = ap (λ rest. both_in entry ∷ rest) (zipped entries)

with_letters : (files : List Given)
    → map both_in (map entry_of files) ≡ map lettered_of files
with_letters [] = refl
with_letters (file ∷ files) = ap (λ rest. lettered_of file ∷ rest) (with_letters files)

without : (files : List Given) → map file_in (map entry_of files) ≡ map plain_of files
without [] = refl
without (file ∷ files) = ap (λ rest. plain_of file ∷ rest) (without files)

module _ (files : List Given) (entries : List Sorted) (moved : IsPermutation (map entry_of files) entries) where
  pub same_files : IsPermutation (map lettered_of files)
      (zip (map file_in entries) (map letters_in entries))
  same_files =
      rw (← with_letters files, ← zipped entries) (IsPermutation-map both_in (map entry_of files) entries moved)

  pub same_fault : list_fault (map plain_of files) ≡ list_fault (map file_in entries)
  same_fault =
      ap list_fault (sym (without files))
      ∙ list_fault-permutation (map file_in (map entry_of files)) (map file_in entries)
      (IsPermutation-map file_in (map entry_of files) entries moved)

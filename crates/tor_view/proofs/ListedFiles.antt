-- Files of a v1 side as entries: which are filled, how long they are, and the padding before the next that is filled.
use Rattle.tor_view.proofs.Names.{◌≡◌, ℕ, ◌+◌, Bool, true, false, List, [], ◌∷◌, ◌++◌, map, sum_by, arith, refl, ap}
use Rattle.tor_view.proofs.Names.{◌∙◌, filter, cond-false, cond-true, ltb-false, filter-append, sum_by-append}
use Rattle.tor_view.proofs.Names.{sum_by-cons, next_multiple_of, entries_length, lengths_of_entries}
use Rattle.tor_view.proofs.Names.{padding_before_next, joined_size, ListedFile, without_padding, aligned_after}
use Rattle.tor_view.proofs.Names.{is_filled, entry_of_file, Entry}
use Rattle.tor_plan.specs.EntryList as entry_list

abbrev pub entries_of : List ListedFile → List Entry
entries_of files = map entry_of_file files

abbrev pub size_of : ListedFile → ℕ
size_of file = file.size

-- ---- one file

-- a listed file, with padding's mark or without
abbrev marked : Bool → ListedFile → ListedFile
marked pad file = record {
  path = file.path;
  size = file.size;
  pad = pad;
  has_attr = file.has_attr;
  exec = file.exec;
  hidden = file.hidden;
}

by_mark : (Q : ListedFile → Type 0) → ((file : ListedFile) → Q (marked true file))
    → ((file : ListedFile) → Q (marked false file)) → (file : ListedFile) → Q file
by_mark Q of_padding of_file file = by file.pad where
  by : (pad : Bool) → Q (marked pad file)
  by true = of_padding file
  by false = of_file file

pub size_of_entry : (file : ListedFile) → (entry_of_file file).length ≡ file.size
size_of_entry = by_mark (λ file. (entry_of_file file).length ≡ file.size) (λ file. refl) (λ file. refl)

pub filled_as_entry : (file : ListedFile) → entry_list.is_filled (entry_of_file file) ≡ is_filled file
filled_as_entry =
    by_mark (λ file. entry_list.is_filled (entry_of_file file) ≡ is_filled file) (λ file. refl) (λ file. refl)

-- ---- the padding before the next filled file

abbrev pub gap : List ListedFile → ℕ
gap files = padding_before_next (entries_of files)

pub gap_at_filled : (file : ListedFile) (files : List ListedFile) → is_filled file ≡ true → gap (file ∷ files) ≡ 0
unfolding padding_before_next
gap_at_filled file files =
    by_mark (λ one. is_filled one ≡ true → gap (one ∷ files) ≡ 0) (λ one filled. cc)
    (λ one filled. cond-true _ _ _ filled) file

pub gap_at_other : (file : ListedFile) (files : List ListedFile) → is_filled file ≡ false
    → gap (file ∷ files) ≡ file.size + gap files
unfolding padding_before_next
gap_at_other file files =
    by_mark (λ one. is_filled one ≡ false → gap (one ∷ files) ≡ one.size + gap files) (λ one other. refl)
    (λ one other.
    let none = ltb-false 0 one.size other in
    cond-false _ _ _ other ∙ (let e : gap files ≡ one.size + gap files = omega (arith, none) in e)) file

-- ---- all files

pub joined_entries : (files : List ListedFile) → entries_length (entries_of files) ≡ joined_size files
joined_entries [] = refl
joined_entries (file ∷ files) =
    let first = sum_by-cons (λ (entry : Entry). entry.length) (entry_of_file file) (entries_of files) in
    let same = sum_by-cons size_of file files in
    omega (arith, first, same, size_of_entry file, joined_entries files)

pub lengths_of_listed : (files : List ListedFile)
    → lengths_of_entries (entries_of files) ≡ map size_of (without_padding files)
lengths_of_listed [] = refl
lengths_of_listed (file ∷ files) =
    by_mark
    (λ one. lengths_of_entries (entries_of (one ∷ files)) ≡ map size_of (without_padding (one ∷ files)))
    (λ one. lengths_of_listed files) (λ one. ap (λ lengths. one.size ∷ lengths) (lengths_of_listed files)) file

-- ---- one file more

pub joined_more : (files : List ListedFile) (file : ListedFile)
    → joined_size (files ++ file ∷ []) ≡ joined_size files + file.size
joined_more files file = omega (arith, sum_by-append size_of files (file ∷ []))

module _ (p : ℕ) where
  abbrev rounded : ListedFile → ℕ
  rounded file = next_multiple_of file.size p

  aligned_more : (files : List ListedFile) (file : ListedFile)
      → aligned_after p (files ++ file ∷ []) ≡ aligned_after p files + aligned_after p (file ∷ [])
  aligned_more files file =
      ap (sum_by rounded) (filter-append is_filled files (file ∷ []))
      ∙ sum_by-append rounded (filter is_filled files) (filter is_filled (file ∷ []))

  pub aligned_with_filled : (files : List ListedFile) (file : ListedFile) → is_filled file ≡ true
      → aligned_after p (files ++ file ∷ []) ≡ aligned_after p files + next_multiple_of file.size p
  aligned_with_filled files file filled =
      let one : aligned_after p (file ∷ []) ≡ 0 + rounded file =
      ap (sum_by rounded) (cond-true (is_filled file) (file ∷ []) [] filled) in
      omega (arith, aligned_more files file, one)

  pub aligned_with_other : (files : List ListedFile) (file : ListedFile) → is_filled file ≡ false
      → aligned_after p (files ++ file ∷ []) ≡ aligned_after p files
  aligned_with_other files file other =
      let none : aligned_after p (file ∷ []) ≡ 0 =
      ap (sum_by rounded) (cond-false (is_filled file) (file ∷ []) [] other) in
      omega (arith, aligned_more files file, none)

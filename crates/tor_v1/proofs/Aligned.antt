-- The entries of aligned files, file by file.
use Rattle.std.proofs.Common.{◌≡◌, ℕ, suc, ◌+◌, ◌-◌, ◌<◌, ◌≤◌, Bool, true, false, cond, ltb, ◌&&◌, ◌||◌, List}
use Rattle.std.proofs.Common.{[], ◌∷◌, ◌++◌, length, get_or, drop, count_by, arith, refl, ap, ◌∙◌, sym, add-one}
use Rattle.std.proofs.Common.{drop-cons, zero-add, append_assoc, append-nil}
use Rattle.std.proofs.lemmas.Bool.{lt-ltb, le-ltb}
use Rattle.std.proofs.lemmas.List.{drop_all}
use Rattle.std.proofs.lemmas.List.Sums.{sum_by-cons}
use Rattle.tor_v1.specs.declared.entry.Entry.{Entry}
use Rattle.tor_v1.specs.Entries.{file_entry, pad_entry, padding_length, has_bytes, padding_after, aligned_entries}

abbrev pub File : Type 0
File = List (List ℕ) × ℕ

abbrev pub is_some : File → Bool
is_some file = ltb 0 file.1

one_more : (b : Bool) (n : ℕ) → (b || ltb 0 n) ≡ ltb 0 (cond b 1 0 + n)
one_more true n = sym (lt-ltb 0 (1 + n) (omega arith))
one_more false n = ap (ltb 0) (sym (zero-add n))

-- files have bytes where one of them is not empty
pub has_bytes-count : (files : List File) → has_bytes files ≡ ltb 0 (count_by is_some files)
has_bytes-count [] = refl
has_bytes-count (file ∷ files) =
    ap (λ b. is_some file || b) (has_bytes-count files) ∙ one_more (is_some file) (count_by is_some files)
    ∙ ap (ltb 0) (sym (sum_by-cons (λ x. cond (is_some x) 1 0) file files))

-- the entries from a file on
pub aligned_entries-drop : (tail : Bool) (p : ℕ) (files : List File) (i : ℕ) (d : File) → i < length files
    → aligned_entries tail p (drop i files) ≡ file_entry (get_or files i d)
    ∷ padding_after tail p (get_or files i d).1 (drop (i + 1) files) ++ aligned_entries tail p (drop (i + 1) files)
unfolding aligned_entries
aligned_entries-drop tail p files i d lt = rw (add-one, drop-cons files i d)

-- the files with bytes from a file on
pub count-drop : (files : List File) (i : ℕ) (d : File) → i < length files
    → count_by is_some (drop i files) ≡ cond (is_some (get_or files i d)) 1 0 + count_by is_some (drop (i + 1) files)
count-drop files i d lt =
    rw (add-one, drop-cons files i d) (sum_by-cons (λ x. cond (is_some x) 1 0) (get_or files i d) (drop (suc i) files))

-- a file whose entry was pushed, and then its padding where it has any
module _ (tail : Bool) (p : ℕ) (files : List File) (i : ℕ) (file : File) (before all : List Entry)
    (lt : i < length files) (is : file ≡ get_or files i file)
    (so_far : before ++ aligned_entries tail p (drop i files) ≡ all) where
  abbrev later : List File
  later = drop (i + 1) files

  from_file : aligned_entries tail p (drop i files)
      ≡ file_entry file ∷ padding_after tail p file.1 later ++ aligned_entries tail p later
  from_file =
      aligned_entries-drop tail p files i file lt
      ∙ ap (λ x. file_entry x ∷ padding_after tail p x.1 later ++ aligned_entries tail p later) (sym is)

  pub count-next : count_by is_some (drop i files) ≡ cond (is_some file) 1 0 + count_by is_some later
  count-next = count-drop files i file lt ∙ ap (λ x. cond (is_some x) 1 0 + count_by is_some later) (sym is)

  pub pushed : (b : Bool) → b ≡ (ltb 0 (padding_length p file.1) && (tail || ltb 0 (count_by is_some later)))
      → ((before ++ file_entry file ∷ []) ++ cond b (pad_entry (padding_length p file.1) ∷ []) [])
      ++ aligned_entries tail p later ≡ all
  pushed b pads =
      let padding = pad_entry (padding_length p file.1) ∷ [] in
      append_assoc (before ++ file_entry file ∷ []) _ _ ∙ append_assoc before _ _
      ∙ ap (λ c. before ++ (file_entry file ∷ cond c padding [] ++ aligned_entries tail p later))
      (pads ∙ ap (λ c. ltb 0 (padding_length p file.1) && (tail || c)) (sym (has_bytes-count later)))
      ∙ ap (λ xs. before ++ xs) (sym from_file) ∙ so_far

-- the count after a file with bytes, and after an empty one
pub counted_some : (m old later n : ℕ) → 0 < m → old ≡ cond (ltb 0 m) 1 0 + n → later ≡ old - 1 → later ≡ n
counted_some m old later n some count is = omega (arith, count ∙ ap (λ b. cond b 1 0 + n) (lt-ltb 0 m some), is)

pub counted_none : (m old later n : ℕ) → m ≤ 0 → old ≡ cond (ltb 0 m) 1 0 + n → later ≡ old → later ≡ n
counted_none m old later n none count is = omega (arith, count ∙ ap (λ b. cond b 1 0 + n) (le-ltb 0 m none), is)

-- after the last file
pub aligned_entries-end : (tail : Bool) (p : ℕ) (files : List File) (i : ℕ) (before all : List Entry)
    → length files ≤ i → before ++ aligned_entries tail p (drop i files) ≡ all → before ≡ all
unfolding aligned_entries
aligned_entries-end tail p files i before all le so_far =
    sym (append-nil before) ∙ ap (λ xs. before ++ aligned_entries tail p xs) (sym (drop_all i files le)) ∙ so_far

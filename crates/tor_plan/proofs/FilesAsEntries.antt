-- Files of a list, cut as the entries that they are in a torrent, whose padding stands where it belongs.
use Rattle.tor_plan.proofs.Names.{◌≡◌, ℕ, ◌+◌, Bool, true, false, cond, ltb, ◌&&◌, ◌||◌, List, []}
use Rattle.tor_plan.proofs.Names.{◌∷◌}
use Rattle.tor_plan.proofs.Names.{◌++◌, map, sum, sum_by, arith, refl, ap, ap₂, ◌∙◌, sym, inl, inr, zero-add, lt-ltb}
use Rattle.tor_plan.proofs.Names.{le-ltb, cases_lt, sum-map, map-map}
use Rattle.tor_plan.proofs.Names.{lengths_of, Kind, V1, V2, Hybrid, file_entries, file_entry, pad_entry, padding_after}
use Rattle.tor_plan.proofs.Names.{padding_length, has_bytes, aligned_entries, v1_entries, Entry, Layout}
use Rattle.tor_plan.proofs.Names.{facts-v1_entries, layout_of_kind, entries_length}
use Rattle.tor_plan.proofs.Names.{lengths_of_entries, padding_before_next}
use Rattle.tor_plan.proofs.Names.{cases_Bool, and_from, and_left, and_right, or_parts}
use Rattle.tor_plan.proofs.Names.{or_from, list_any, has_padding, is_filled, ArePadded, IsLaidOut, IsPaddedTo}
use Rattle.tor_plan.proofs.Names.{no_padding}
use Rattle.tor_plan.proofs.Contents.{File}
use Rattle.tor_plan.proofs.EntrySteps.{before_some, before_empty, plain}

abbrev pub entry_length : Entry → ℕ
entry_length entry = entry.length

abbrev pub padded : Bool → ℕ → List Entry
padded b n = cond b (pad_entry n ∷ []) []

-- the lengths of the files
pub lengths_of_files : (layout : Layout) (p : ℕ) (files : List File)
    → lengths_of_entries (v1_entries layout p files) ≡ lengths_of files
lengths_of_files layout p files =
    sym (map-map (λ file. file.1) (λ (entry : Entry). (entry.path, entry.length))
    (file_entries (v1_entries layout p files))) ∙ ap lengths_of (facts-v1_entries layout p files)

pub length_of_files : (files : List File) → sum (lengths_of files) ≡ entries_length (map file_entry files)
length_of_files files =
    ap sum (sym (map-map entry_length file_entry files)) ∙ sum-map entry_length (map file_entry files)

before_padded : (b : Bool) (n : ℕ) (entries : List Entry) → padding_before_next (padded b n ++ entries)
    ≡ sum_by entry_length (padded b n) + padding_before_next entries
unfolding padding_before_next
before_padded true n entries = ap (λ k. k + padding_before_next entries) (sym (zero-add n))
before_padded false n entries = sym (zero-add (padding_before_next entries))

-- the zeros after a file of m bytes
abbrev zeros_of : Bool → ℕ → ℕ → List File → ℕ
zeros_of tail p m later = sum_by entry_length (padding_after tail p m later)

no_zeros_of : (tail : Bool) (p m : ℕ) (later : List File) → m ≡ 0 → zeros_of tail p m later ≡ 0
no_zeros_of tail p m later none =
    ap (λ n. sum_by entry_length (padded (ltb 0 n && (tail || has_bytes later)) n))
    (ap (padding_length p) none ∙ no_padding p)

pub before_aligned : (tail : Bool) (p : ℕ) (files : List File) → padding_before_next (aligned_entries tail p files) ≡ 0
unfolding aligned_entries padding_before_next
before_aligned tail p [] = refl
before_aligned tail p (file ∷ files) =
    let n = padding_length p file.1 in
    let others = aligned_entries tail p files in
    let b = ltb 0 n && (tail || has_bytes files) in
    elim (cases_lt 0 file.1) [
      | inl some ↦ before_some (plain file.0) file.1 (padded b n ++ others) some
      | inr few ↦
          let none : file.1 ≡ 0 = omega (arith, few) in
          before_empty (plain file.0) file.1 (padded b n ++ others) none ∙ before_padded b n others
          ∙ ap₂ (λ x y. x + y) (no_zeros_of tail p file.1 files none) (before_aligned tail p files)
    ]

pub zeros_are : (tail : Bool) (p m : ℕ) (files : List File) → zeros_of tail p m files
    ≡ padding_before_next (padding_after tail p m files ++ aligned_entries tail p files)
zeros_are tail p m files =
    let n = padding_length p m in
    let b = ltb 0 n && (tail || has_bytes files) in
    sym (before_padded b n (aligned_entries tail p files) ∙ omega (arith, before_aligned tail p files))

-- before files with bytes, or the end where a tail stands there
zeros_before : (tail : Bool) (p m : ℕ) (later : List File) → (tail || has_bytes later) ≡ true
    → zeros_of tail p m later ≡ padding_length p m
zeros_before tail p m later more =
    let n = padding_length p m in
    elim (cases_lt 0 n) [
      | inl some ↦ ap (λ b. sum_by entry_length (padded b n))
          (and_from (ltb 0 n) (tail || has_bytes later) (lt-ltb 0 n some) more) ∙ zero-add n
      | inr none ↦ ap (λ b. sum_by entry_length (padded b n))
          (and_left (ltb 0 n) (tail || has_bytes later) (le-ltb 0 n none)) ∙ (omega arith)
    ]

filled_padded : (b : Bool) (n : ℕ) (entries : List Entry)
    → list_any is_filled (padded b n ++ entries) ≡ list_any is_filled entries
filled_padded true n entries = refl
filled_padded false n entries = refl

filled_aligned : (tail : Bool) (p : ℕ) (files : List File) → has_bytes files ≡ false
    → list_any is_filled (aligned_entries tail p files) ≡ false
unfolding aligned_entries
filled_aligned tail p [] none = refl
filled_aligned tail p (file ∷ files) none =
    let n = padding_length p file.1 in
    let b = ltb 0 n && (tail || has_bytes files) in
    let parts = or_parts (ltb 0 file.1) (has_bytes files) none in
    or_from (ltb 0 file.1) (list_any is_filled (padded b n ++ aligned_entries tail p files)) parts.0
    (filled_padded b n (aligned_entries tail p files) ∙ filled_aligned tail p files parts.1)

after_padding : (p : ℕ) (b : Bool) (n : ℕ) (entries : List Entry) → ArePadded p entries
    → ArePadded p (padded b n ++ entries)
unfolding ArePadded
after_padding p true n entries padded = ((λ filled. cc), padded)
after_padding p false n entries padded = padded

aligned_padded : (tail : Bool) (p : ℕ) (files : List File) → ArePadded p (aligned_entries tail p files)
unfolding ArePadded aligned_entries
aligned_padded tail p [] = tt
aligned_padded tail p (file ∷ files) =
    let n = padding_length p file.1 in
    let more = tail || has_bytes files in
    let b = ltb 0 n && more in
    let zeros = zeros_are tail p file.1 files in
    let to : IsPaddedTo p file.1 (padded b n ++ aligned_entries tail p files) = elim (cases_Bool more) [
      | inl some ↦ inl (sym zeros ∙ zeros_before tail p file.1 files some)
      | inr none ↦ inr (
        filled_padded b n (aligned_entries tail p files)
            ∙ filled_aligned tail p files (or_parts tail (has_bytes files) none).1,
        sym zeros ∙ ap (λ c. sum_by entry_length (padded c n)) (and_right (ltb 0 n) more none),
      )
    ] in
    ((λ filled. to), after_padding p b n (aligned_entries tail p files) (aligned_padded tail p files))

files_unpadded : (files : List File) → has_padding (map file_entry files) ≡ false
files_unpadded [] = refl
files_unpadded (file ∷ files) = files_unpadded files

pub files_laid_out : (kind : Kind) (tail : Bool) (p : ℕ) (files : List File)
    → IsLaidOut kind p (v1_entries (layout_of_kind kind tail) p files)
unfolding IsLaidOut
files_laid_out V1 tail p files = tt
files_laid_out V2 tail p files = files_unpadded files
files_laid_out Hybrid false p files = (before_aligned false p files, aligned_padded false p files)
files_laid_out Hybrid true p files = (before_aligned true p files, aligned_padded true p files)

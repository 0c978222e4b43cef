-- The lengths of the v1 side of a made torrent are not too large, one by one and together with the padding: a length
-- rounded up to whole pieces is at most what it is rounded up to the greatest pieces.
use Rattle.tor_spec.proofs.Names.{◌≡◌, ℕ, ◌+◌, ◌<◌, ◌≤◌, Bool, true, false, cond, ◌&&◌, ◌||◌, List, [], ◌∷◌, ◌++◌, map}
use Rattle.tor_spec.proofs.Names.{sum_by, arith, refl, ap, ◌∙◌, sym, le-ltb, ltb-false, or_from, or_parts}
use Rattle.tor_spec.proofs.Names.{recursion_from_All, sum_by-cons, sum_by-le-sum_by, next_multiple_of, AllByRecursion}
use Rattle.tor_spec.proofs.Names.{list_any, nat_lt, piece_length_bounds, IsPieceLength, ListedFile, joined_size}
use Rattle.tor_spec.proofs.Names.{sizes_too_large, files_are_small, IsFileList, lengths_of, lengths_too_large}
use Rattle.tor_spec.proofs.Names.{MAX_LENGTH, MAX_TOTAL, ROUNDING, aligned_entries, file_entry, has_bytes, pad_entry}
use Rattle.tor_spec.proofs.Names.{padding_length, v1_entries, Entry, Layout, Joined, Aligned, AlignedTail, ◌-◌, ◌*◌}
use Rattle.tor_spec.proofs.Names.{◌/◌}
use Rattle.tor_spec.proofs.Names.{◌%◌, inl, inr, lt_of_mul-lt-mul_right, mod-lt, mul-le-mul_right, mul_assoc}
use Rattle.tor_spec.proofs.Names.{File, attrs_of, each_lettered, letters_change_no_size, mod-add-div', sizes_of}
use Rattle.tor_spec.proofs.Names.{mod-eq_of_lt, mod_self, cases_eq, piece_lengths_divide_the_greatest, IsClear}
use Rattle.tor_spec.proofs.MadeListShape.{lengths_listed}
use Rattle.tor_spec.proofs.MadeListEntries.{each_entry, files_of_entries, listed_of, made_entries}

-- so many pieces
abbrev Whole : ℕ → ℕ → Type 0
Whole n p = (q : ℕ) × (n ≡ q * p)

-- ---- the next multiple

abbrev IsNext : ℕ → ℕ → ℕ → Type 0
IsNext n p next = Whole next p × (n ≤ next) × (next < n + p)

next_is : (n p : ℕ) → 0 < p → IsNext n p (next_multiple_of n p)
next_is n p some = elim (cases_eq (n % p) 0) [
  | inl whole ↦
      let all : p - 0 ≡ p = omega arith in
      let lack : (p - n % p) % p ≡ 0 = ap (λ r. (p - r) % p) whole ∙ ap (λ r. r % p) all ∙ mod_self p in
      ((n / p, omega (arith, lack, whole, mod-add-div' n p)), omega arith, omega (arith, lack))
  | inr part ↦
      let lack : (p - n % p) % p ≡ p - n % p = mod-eq_of_lt (omega (arith, part)) in
      let rest : n % p < p = mod-lt n some in
      ((n / p + 1, omega (arith, lack, rest, mod-add-div' n p)), omega arith, omega (arith, lack, part, rest))
]

fewer : (p n next other : ℕ) → IsNext n p next → Whole other p → n ≤ other → next ≤ other
fewer p n next other is whole le =
    let q = is.0.0 in
    let r = whole.0 in
    let less : q < r + 1 = lt_of_mul-lt-mul_right p (omega (arith, is.0.1, is.2, whole.1, le)) in
    let times : q * p ≤ r * p = mul-le-mul_right p (omega (arith, less)) in
    omega (arith, times, is.0.1, whole.1)

pub rounded_within : (p : ℕ) → IsPieceLength p → (n : ℕ) → next_multiple_of n p ≤ next_multiple_of n ROUNDING
rounded_within p allowed n =
    let bounds = (piece_length_bounds p).0 allowed in
    let some : 0 < p = omega (arith, bounds.1) in
    let by : Whole ROUNDING p = piece_lengths_divide_the_greatest p allowed in
    let upper = next_is n ROUNDING (omega arith) in
    let whole : next_multiple_of n ROUNDING ≡ upper.0.0 * by.0 * p =
    upper.0.1 ∙ ap (λ m. upper.0.0 * m) by.1 ∙ sym (mul_assoc upper.0.0 by.0 p) in
    fewer p n (next_multiple_of n p) (next_multiple_of n ROUNDING) (next_is n p some) (upper.0.0 * by.0, whole)
    upper.1

-- ---- the sum of all lengths

abbrev Files : Type 0
Files = List (List (List ℕ) × ℕ)

abbrev pub size_of_entries : List Entry → ℕ
size_of_entries entries = sum_by (λ entry. entry.length) entries

pub joined_entries : (entries : List Entry) → joined_size (map listed_of entries) ≡ size_of_entries entries
joined_entries [] = refl
joined_entries (entry ∷ entries) =
    sum_by-cons (λ (file : ListedFile). file.size) (listed_of entry) (map listed_of entries)
    ∙ ap (λ n. entry.length + n) (joined_entries entries)
    ∙ sym (sum_by-cons (λ (one : Entry). one.length) entry entries)

abbrev rounded_size : ℕ → Files → ℕ
rounded_size p files = sum_by (λ file. next_multiple_of file.1 p) files

with_padding : (p m : ℕ) (b : Bool) (entries : List Entry)
    → m + size_of_entries (cond b (pad_entry (padding_length p m) ∷ []) [] ++ entries)
    ≤ next_multiple_of m p + size_of_entries entries
with_padding p m true entries =
    omega (arith, sum_by-cons (λ (one : Entry). one.length) (pad_entry (padding_length p m)) entries)
with_padding p m false entries = omega arith

size_of_aligned : (tail : Bool) (p : ℕ) (files : Files)
    → size_of_entries (aligned_entries tail p files) ≤ rounded_size p files
unfolding aligned_entries
size_of_aligned tail p [] = omega arith
size_of_aligned tail p (file ∷ files) =
    let b = nat_lt 0 (padding_length p file.1) && (tail || has_bytes files) in
    let pads = with_padding p file.1 b (aligned_entries tail p files) in
    let more = size_of_aligned tail p files in
    let first = sum_by-cons (λ (one : Entry). one.length) (file_entry file)
    (cond b (pad_entry (padding_length p file.1) ∷ []) [] ++ aligned_entries tail p files) in
    let sizes = sum_by-cons (λ (one : List (List ℕ) × ℕ). next_multiple_of one.1 p) file files in
    omega (arith, pads, more, first, sizes)

size_of_joined : (p : ℕ) (files : Files) → size_of_entries (map file_entry files) ≤ rounded_size p files
size_of_joined p [] = omega arith
size_of_joined p (file ∷ files) =
    let more = size_of_joined p files in
    let first = sum_by-cons (λ (one : Entry). one.length) (file_entry file) (map file_entry files) in
    let sizes = sum_by-cons (λ (one : List (List ℕ) × ℕ). next_multiple_of one.1 p) file files in
    omega (arith, more, first, sizes)

rounded_lengths : (files : Files)
    → rounded_size ROUNDING files ≡ sum_by (λ m. next_multiple_of m ROUNDING) (lengths_of files)
rounded_lengths [] = refl
rounded_lengths (file ∷ files) =
    sum_by-cons (λ (one : List (List ℕ) × ℕ). next_multiple_of one.1 ROUNDING) file files
    ∙ ap (λ n. next_multiple_of file.1 ROUNDING + n) (rounded_lengths files)
    ∙ sym (sum_by-cons (λ (m : ℕ). next_multiple_of m ROUNDING) file.1 (lengths_of files))

-- all lengths together are at most the sum of the lengths of the files, each rounded up
size_within : (layout : Layout) (p : ℕ) (files : Files) → IsPieceLength p
    → size_of_entries (v1_entries layout p files) ≤ sum_by (λ m. next_multiple_of m ROUNDING) (lengths_of files)
size_within layout p files allowed =
    let rounded = sum_by-le-sum_by (λ (file : List (List ℕ) × ℕ). next_multiple_of file.1 p)
    (λ (file : List (List ℕ) × ℕ). next_multiple_of file.1 ROUNDING) files
    (λ file. rounded_within p allowed file.1) in
    let same = rounded_lengths files in
    let within = by_layout layout in
    omega (arith, rounded, same, within)
  where
    by_layout : (layout : Layout) → size_of_entries (v1_entries layout p files) ≤ rounded_size p files
    by_layout Joined = size_of_joined p files
    by_layout Aligned = size_of_aligned false p files
    by_layout AlignedTail = size_of_aligned true p files

-- ---- one by one, and together

lack_within : (p m : ℕ) → 0 < p → padding_length p m < p
lack_within p m some = omega arith

short_side : (entries : List Entry) → AllByRecursion (λ entry. entry.length ≤ MAX_LENGTH) entries
    → list_any (λ (file : ListedFile). nat_lt MAX_LENGTH file.size) (map listed_of entries) ≡ false
short_side [] h = refl
short_side (entry ∷ entries) h = or_from _ _ (le-ltb MAX_LENGTH entry.length h.0) (short_side entries h.1)

short_entries : (layout : Layout) (p : ℕ) (files : Files) → IsPieceLength p → IsFileList files
    → AllByRecursion (λ entry. entry.length ≤ MAX_LENGTH) (v1_entries layout p files)
short_entries layout p files allowed lawful =
    let bounds = (piece_length_bounds p).0 allowed in
    each_entry (λ entry. entry.length ≤ MAX_LENGTH) p
    (λ m. omega (arith, lack_within p m (omega (arith, bounds.1)), bounds.2)) layout files
    (recursion_from_All (λ (file : List (List ℕ) × ℕ). file.1 ≤ MAX_LENGTH) files (files_are_small files lawful))

-- letters change nothing of that
lettered_size : (layout : Layout) (p : ℕ) (files : List File)
    → size_of_entries (made_entries layout p files) ≡ size_of_entries (v1_entries layout p (sizes_of files))
lettered_size layout p files = letters_change_no_size (attrs_of files) (v1_entries layout p (sizes_of files))

pub joined_made : (layout : Layout) (p : ℕ) (files : List File)
    → joined_size (map listed_of (made_entries layout p files))
    ≡ size_of_entries (v1_entries layout p (sizes_of files))
joined_made layout p files = joined_entries (made_entries layout p files) ∙ lettered_size layout p files

small_total : (layout : Layout) (p : ℕ) (files : List File) → IsPieceLength p → IsClear (sizes_of files)
    → nat_lt MAX_TOTAL (joined_size (map listed_of (made_entries layout p files))) ≡ false
small_total layout p files allowed is =
    let sum = sum_by (λ m. next_multiple_of m ROUNDING) (lengths_of (sizes_of files)) in
    let within : sum ≤ MAX_TOTAL =
    ltb-false MAX_TOTAL sum (or_parts (list_any (nat_lt MAX_LENGTH) (lengths_of (sizes_of files))) _ is.small).1 in
    le-ltb MAX_TOTAL (joined_size (map listed_of (made_entries layout p files)))
    (omega (arith, within, size_within layout p (sizes_of files) allowed, joined_made layout p files))

pub small_side : (layout : Layout) (p : ℕ) (files : List File) → IsPieceLength p → IsFileList (sizes_of files)
    → IsClear (sizes_of files) → sizes_too_large (map listed_of (made_entries layout p files)) ≡ false
small_side layout p files allowed lawful is =
    or_from _ _
    (short_side (made_entries layout p files)
    (each_lettered (λ entry. entry.length ≤ MAX_LENGTH) (λ attr entry file short. short) (attrs_of files)
    (v1_entries layout p (sizes_of files)) (short_entries layout p (sizes_of files) allowed lawful)))
    (or_from _ _
    (ap (λ side. lengths_too_large (map (λ (file : ListedFile). file.size) side)) (files_of_entries layout p files)
    ∙ ap lengths_too_large (lengths_listed files) ∙ is.small)
    (small_total layout p files allowed is))

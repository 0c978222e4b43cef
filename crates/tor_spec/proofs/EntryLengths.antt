-- The entries of files have small lengths, and their padding is less than a piece.
use Rattle.tor_spec.proofs.Names.{◌≡◌, ℕ, ◌<◌, ◌^◌, List, [], ◌∷◌, ◌++◌, map, Bool, true, false, arith, ◌&&◌, ◌||◌}
use Rattle.tor_spec.proofs.Names.{nat_lt}
use Rattle.tor_spec.proofs.Names.{if◌then◌else◌, All, AllByRecursion, All-from_recursion, recursion_from_All}
use Rattle.tor_spec.proofs.Names.{piece_length_bounds, IsPieceLength, aligned_entries, file_entry, has_bytes, pad_entry}
use Rattle.tor_spec.proofs.Names.{padding_after, padding_length, v1_entries, Entry, Layout, Joined, Aligned}
use Rattle.tor_spec.proofs.Names.{AlignedTail, Attr, each_lettered, on_entries}

-- what a file lacks to the next piece is less than a piece
lack_small : (p m : ℕ) → 0 < p → padding_length p m < p
lack_small p m some = omega arith

small_padding : (tail : Bool) (p m : ℕ) (later : List (List (List ℕ) × ℕ)) → 0 < p → p < 2 ^ 63
    → AllByRecursion (λ entry. entry.length < 2 ^ 63) (padding_after tail p m later)
small_padding tail p m later some small = by_test (nat_lt 0 (padding_length p m) && (tail || has_bytes later))
  where
    by_test : (b : Bool) → AllByRecursion (λ (entry : Entry). entry.length < 2 ^ 63)
        (if b then pad_entry (padding_length p m) ∷ [] else [])
    by_test true = (omega (arith, lack_small p m some), tt)
    by_test false = tt

all_append : {X : Type 0} (P : X → Type 0) (xs ys : List X) → AllByRecursion P xs → AllByRecursion P ys
    → AllByRecursion P (xs ++ ys)
all_append P [] ys h k = k
all_append P (x ∷ xs) ys h k = (h.0, all_append P xs ys h.1 k)

abbrev pub AreSmall : List (List (List ℕ) × ℕ) → Type 0
AreSmall files = AllByRecursion (λ file. file.1 < 2 ^ 63) files

small_aligned : (tail : Bool) (p : ℕ) (files : List (List (List ℕ) × ℕ)) → 0 < p → p < 2 ^ 63 → AreSmall files
    → AllByRecursion (λ entry. entry.length < 2 ^ 63) (aligned_entries tail p files)
unfolding aligned_entries
small_aligned tail p [] some small h = tt
small_aligned tail p (file ∷ files) some small h = (
  h.0,
  all_append _ (padding_after tail p file.1 files) (aligned_entries tail p files)
      (small_padding tail p file.1 files some small) (small_aligned tail p files some small h.1),
)

pub small_entries : (layout : Layout) (p : ℕ) (files : List (List (List ℕ) × ℕ)) → 0 < p → p < 2 ^ 63 → AreSmall files
    → AllByRecursion (λ entry. entry.length < 2 ^ 63) (v1_entries layout p files)
small_entries Joined p files some small h = each files h
  where
    each : (fs : List (List (List ℕ) × ℕ)) → AreSmall fs
        → AllByRecursion (λ (entry : Entry). entry.length < 2 ^ 63) (map file_entry fs)
    each [] h = tt
    each (f ∷ fs) h = (h.0, each fs h.1)
small_entries Aligned p files some small h = small_aligned false p files some small h
small_entries AlignedTail p files some small h = small_aligned true p files some small h

pub small_lengths : (layout : Layout) (p : ℕ) (files : List (List (List ℕ) × ℕ)) → IsPieceLength p
    → All (λ file. file.1 < 2 ^ 63) files
    → All (λ (entry : Entry). entry.length < 2 ^ 63) (v1_entries layout p files)
small_lengths layout p files allowed small =
    let bounds = (piece_length_bounds p).0 allowed in
    All-from_recursion _ (v1_entries layout p files) (small_entries layout p files (omega (arith, bounds))
    (omega (arith, bounds)) (recursion_from_All _ files small))

-- padding is less than a piece
abbrev PadsWithin : ℕ → List Entry → Type 0
PadsWithin p entries = AllByRecursion (λ entry. entry.pad ≡ true → entry.length < p) entries

within_padding : (tail : Bool) (p m : ℕ) (later : List (List (List ℕ) × ℕ)) → 0 < p
    → PadsWithin p (padding_after tail p m later)
within_padding tail p m later some = by_test (nat_lt 0 (padding_length p m) && (tail || has_bytes later))
  where
    by_test : (b : Bool) → PadsWithin p (if b then pad_entry (padding_length p m) ∷ [] else [])
    by_test true = ((λ e. lack_small p m some), tt)
    by_test false = tt

within_aligned : (tail : Bool) (p : ℕ) (files : List (List (List ℕ) × ℕ)) → 0 < p
    → PadsWithin p (aligned_entries tail p files)
unfolding aligned_entries
within_aligned tail p [] some = tt
within_aligned tail p (file ∷ files) some = (
  (λ e. cc),
  all_append _ (padding_after tail p file.1 files) (aligned_entries tail p files)
      (within_padding tail p file.1 files some) (within_aligned tail p files some),
)

within_entries : (layout : Layout) (p : ℕ) (files : List (List (List ℕ) × ℕ)) → 0 < p
    → PadsWithin p (v1_entries layout p files)
within_entries Joined p files some = each files
  where
    each : (fs : List (List (List ℕ) × ℕ)) → PadsWithin p (map file_entry fs)
    each [] = tt
    each (f ∷ fs) = ((λ e. cc), each fs)
within_entries Aligned p files some = within_aligned false p files some
within_entries AlignedTail p files some = within_aligned true p files some

pub padding_lengths : (layout : Layout) (p : ℕ) (files : List (List (List ℕ) × ℕ)) → IsPieceLength p
    → All (λ (entry : Entry). entry.pad ≡ true → entry.length < p) (v1_entries layout p files)
padding_lengths layout p files allowed =
    let bounds = (piece_length_bounds p).0 allowed in
    All-from_recursion _ (v1_entries layout p files) (within_entries layout p files (omega (arith, bounds)))

-- so are those of entries with letters
pub lettered_lengths : (attrs : List Attr) (layout : Layout) (p : ℕ) (files : List (List (List ℕ) × ℕ))
    → IsPieceLength p → All (λ file. file.1 < 2 ^ 63) files
    → All (λ (entry : Entry). entry.length < 2 ^ 63) (on_entries attrs (v1_entries layout p files))
lettered_lengths attrs layout p files allowed small =
    let bounds = (piece_length_bounds p).0 allowed in
    All-from_recursion _ (on_entries attrs (v1_entries layout p files))
    (each_lettered (λ entry. entry.length < 2 ^ 63) (λ attr entry file less. less) attrs (v1_entries layout p files)
    (small_entries layout p files (omega (arith, bounds)) (omega (arith, bounds)) (recursion_from_All _ files small)))

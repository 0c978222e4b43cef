-- Files without padding, of whose entries only the lengths count.
use Rattle.tor_plan.proofs.Names.{◌≡◌, ◌≢◌, ℕ, ◌+◌, ◌<◌, ◌≤◌, false, List, [], ◌∷◌, length, get_or, map, sum}
use Rattle.tor_plan.proofs.Names.{arith}
use Rattle.tor_plan.proofs.Names.{refl, ap, ◌∙◌, sym, All, sum-map, get_or-map, true≢false, MAX_LENGTH}
use Rattle.tor_plan.proofs.Names.{MAX_TOTAL, Entry, Kind, V1, V2, Hybrid, file_entries, file_entry, entries_length}
use Rattle.tor_plan.proofs.Names.{lengths_of_entries, has_padding, IsEntryList, IsLaidOut, file_alone, joined}
use Rattle.tor_plan.proofs.Names.{unnamed, whole_from}
use Rattle.tor_plan.proofs.EntrySteps.{entry_cases, file}
use Rattle.tor_plan.proofs.FilesAsEntries.{entry_length}

-- they are what their lengths say
pub whole_unnamed : (index : ℕ) (entries : List Entry) → has_padding entries ≡ false
    → whole_from index entries ≡ whole_from index (unnamed (lengths_of_entries entries))
unfolding whole_from
whole_unnamed index [] none = refl
whole_unnamed index (entry ∷ entries) none = entry_cases
    (λ e. has_padding (e ∷ entries) ≡ false
    → whole_from index (e ∷ entries) ≡ whole_from index (unnamed (lengths_of_entries (e ∷ entries))))
    (λ label m others. absurd (true≢false others))
    (λ label m others. ap (joined (file_alone index m)) (whole_unnamed (index + 1) entries others)) entry none

pub lengths_of_unnamed : (lengths : List ℕ) → lengths_of_entries (unnamed lengths) ≡ lengths
lengths_of_unnamed [] = refl
lengths_of_unnamed (m ∷ ms) = ap (λ xs. m ∷ xs) (lengths_of_unnamed ms)

pub unnamed_unpadded : (lengths : List ℕ) → has_padding (unnamed lengths) ≡ false
unnamed_unpadded [] = refl
unnamed_unpadded (m ∷ ms) = unnamed_unpadded ms

-- ---- they can be cut

all_files : (entries : List Entry) → has_padding entries ≡ false → file_entries entries ≡ entries
all_files [] none = refl
all_files (entry ∷ entries) none = entry_cases
    (λ e. has_padding (e ∷ entries) ≡ false → file_entries (e ∷ entries) ≡ e ∷ entries)
    (λ label m others. absurd (true≢false others))
    (λ label m others. ap (λ es. file label m ∷ es) (all_files entries others)) entry none

total_unpadded : (entries : List Entry) → has_padding entries ≡ false
    → sum (lengths_of_entries entries) ≡ entries_length entries
total_unpadded entries none =
    ap (λ es. sum (map entry_length es)) (all_files entries none) ∙ sum-map entry_length entries

module _ (p : ℕ) (entries : List Entry) (none : has_padding entries ≡ false) where
  laid_out : (kind : Kind) → kind ≢ Hybrid → IsLaidOut kind p entries
  unfolding IsLaidOut
  laid_out V1 joined = tt
  laid_out V2 joined = none
  laid_out Hybrid joined = absurd (joined refl)

  pub unpadded_list : (kind : Kind) → kind ≢ Hybrid → sum (lengths_of_entries entries) ≤ MAX_TOTAL
      → All (λ m. m ≤ MAX_LENGTH) (lengths_of_entries entries) → IsEntryList kind p entries
  unpadded_list kind joined total files = record {
    total = omega (arith, total, total_unpadded entries none);
    files = files;
    laid_out = laid_out kind joined;
  }

-- ---- the next of them

pub unnamed_at : (lengths : List ℕ) (i m : ℕ) → i < length lengths → m ≡ get_or lengths i m
    → file_entry ([], m) ≡ get_or (unnamed lengths) i (file_entry ([], m))
unnamed_at lengths i m lt is =
    ap (λ n. file_entry ([], n)) is ∙ sym (get_or-map (λ n. file_entry ([], n)) lengths i m (file_entry ([], m)) lt)

-- The entries of a list of files are not too long for a plan; the plan of all bytes of entries is theirs.
use Rattle.tor_plan.proofs.Names.{◌≡◌, ℕ, ◌<◌, ◌≤◌, Bool, true, false, ltb, ◌&&◌, ◌||◌, List, [], ◌∷◌, ◌++◌, map}
use Rattle.tor_plan.proofs.Names.{◌≢◌, ◌⊎◌, V2, has_padding, inl, inr, refl, sum, sum_by}
use Rattle.tor_plan.proofs.Names.{arith, ap, ap₂, ◌∙◌, ◌*◌, sym, subst, IsTrue, All-map, sum_by-append, sum_by-cons}
use Rattle.tor_plan.proofs.Names.{sum_by-le-sum_by, is_power_of_two, next_multiple_of, All, lengths_of, IsFileList}
use Rattle.tor_plan.proofs.Names.{Kind, V1, Hybrid, MAX_LENGTH, MAX_TOTAL, ROUNDING, files_are_small, Entry, file_entry}
use Rattle.tor_plan.proofs.Names.{padding_length, has_bytes, aligned_entries, v1_entries, layout_of_kind}
use Rattle.tor_plan.proofs.Names.{entries_length, entry_units, lengths_of_entries, IsEntryList, IsLaidOut, forest_trees}
use Rattle.tor_plan.proofs.Names.{plan_of_entries, IsPlan, IsPlanPieceLength, IsSpan, PlanFacts, PlanUnit}
use Rattle.tor_plan.proofs.Names.{plan_of_whole, whole_unit, whole_units, AreWhole}
use Rattle.tor_plan.proofs.Contents.{File}
use Rattle.tor_plan.proofs.FilesAsEntries.{entry_length, padded, length_of_files}
use Rattle.tor_plan.proofs.FilesAsEntries.{lengths_of_files, files_laid_out}
use Rattle.tor_plan.proofs.Sizes.{rounded, some_bytes, total_small, v1_piece}
use Rattle.tor_plan.proofs.WholeLaws.{files_are_pieces}
use Rattle.tor_plan.proofs.WholeUnits.{pieces_of_whole}

abbrev rounded_up : ℕ → ℕ
rounded_up m = next_multiple_of m ROUNDING

joined_total : (files : List File) → entries_length (map file_entry files) ≤ sum_by rounded_up (lengths_of files)
joined_total files =
    omega (
      arith,
      length_of_files files,
      sum_by-le-sum_by (λ m. m) rounded_up (lengths_of files) (λ m. omega arith),
    )

padded_length : (b : Bool) (n : ℕ) → sum_by entry_length (padded b n) ≤ n
padded_length true n = omega arith
padded_length false n = omega arith

aligned_total : (tail : Bool) (p : ℕ) (files : List File) → IsTrue (is_power_of_two p) → 0 < p → p ≤ ROUNDING
    → entries_length (aligned_entries tail p files) ≤ sum_by rounded_up (lengths_of files)
unfolding aligned_entries
aligned_total tail p [] power some le = omega arith
aligned_total tail p (file ∷ files) power some le =
    let m = file.1 in
    let n = padding_length p m in
    let b = ltb 0 n && (tail || has_bytes files) in
    let others = aligned_entries tail p files in
    omega (
      arith,
      sum_by-cons entry_length (file_entry file) (padded b n ++ others),
      sum_by-append entry_length (padded b n) others,
      padded_length b n,
      rounded p m power some le,
      aligned_total tail p files power some le,
      sum_by-cons rounded_up m (lengths_of files),
    )

total_length : (kind : Kind) (tail : Bool) (p : ℕ) (files : List File) → IsFileList files → IsPlanPieceLength kind p
    → entries_length (v1_entries (layout_of_kind kind tail) p files) ≤ MAX_TOTAL
total_length Hybrid false p files lawful pieces =
    omega (arith, aligned_total false p files pieces.0 (omega (arith, pieces.1)) pieces.2, total_small files lawful)
total_length Hybrid true p files lawful pieces =
    omega (arith, aligned_total true p files pieces.0 (omega (arith, pieces.1)) pieces.2, total_small files lawful)
total_length kind tail p files lawful pieces = omega (arith, joined_total files, total_small files lawful)

pub lengths_are_few : (files : List File) → IsFileList files → sum (lengths_of files) ≤ MAX_TOTAL
lengths_are_few files lawful = omega (arith, length_of_files files, joined_total files, total_small files lawful)

pub lengths_are_small : (files : List File) → IsFileList files → All (λ m. m ≤ MAX_LENGTH) (lengths_of files)
lengths_are_small files lawful =
    All-map (λ m. m ≤ MAX_LENGTH) (λ (file : File). file.1) files (files_are_small files lawful)

pub files_are_list : (kind : Kind) (tail : Bool) (p : ℕ) (files : List File) → IsFileList files
    → IsPlanPieceLength kind p → IsEntryList kind p (v1_entries (layout_of_kind kind tail) p files)
files_are_list kind tail p files lawful pieces = record {
  total = total_length kind tail p files lawful pieces;
  files = subst (All (λ m. m ≤ MAX_LENGTH)) (sym (lengths_of_files (layout_of_kind kind tail) p files))
      (lengths_are_small files lawful);
  laid_out = files_laid_out kind tail p files;
}

-- ---- files that stand one after another

pub not_hybrid : (kind : Kind) → (kind ≡ V1) ⊎ (kind ≡ V2) → kind ≢ Hybrid
not_hybrid V1 is = λ e. cc
not_hybrid V2 is = λ e. cc
not_hybrid Hybrid (inl is) = λ e. cc
not_hybrid Hybrid (inr is) = λ e. cc

files_unpadded : (files : List File) → has_padding (map file_entry files) ≡ false
files_unpadded [] = refl
files_unpadded (file ∷ files) = files_unpadded files

pub joined_unpadded : (kind : Kind) (p : ℕ) (files : List File) → kind ≢ Hybrid
    → has_padding (v1_entries (layout_of_kind kind false) p files) ≡ false
joined_unpadded V1 p files joined = files_unpadded files
joined_unpadded V2 p files joined = files_unpadded files
joined_unpadded Hybrid p files joined = absurd (joined refl)

-- ---- the plan of all bytes

units_are : (kind : Kind) (p span : ℕ) (entries : List Entry) → 0 < p → 0 < span * p → IsLaidOut kind p entries
    → whole_units kind (span * p) (whole_unit entries) ≡ entry_units kind p span entries
units_are V1 p span entries some pos laid = pieces_of_whole (span * p) entries
units_are kind p span entries some pos laid = sym (files_are_pieces kind p span entries (λ e. cc) some pos laid)

abbrev pub are_whole : {kind : Kind} {p : ℕ} {entries : List Entry} {whole : PlanUnit} {lengths : List ℕ}
    → IsEntryList kind p entries → whole ≡ whole_unit entries → lengths ≡ lengths_of_entries entries
    → AreWhole kind p whole lengths
are_whole is_list bytes files = record { entries = _; is_list = is_list; bytes = bytes; files = files }

pub plan_is : (kind : Kind) (p span : ℕ) (whole : PlanUnit) (lengths : List ℕ) (is : AreWhole kind p whole lengths)
    → IsSpan span → IsPlanPieceLength kind p
    → plan_of_whole kind p span whole lengths ≡ plan_of_entries kind p span is.entries
plan_is kind p span whole lengths is is_span pieces =
    let made : List PlanUnit → PlanFacts = λ units. record {
      kind = kind;
      piece_length = p;
      units = units;
      lengths = lengths_of_entries is.entries;
      trees = forest_trees kind (span * p) (lengths_of_entries is.entries);
    } in
    ap₂ (plan_of_whole kind p span) is.bytes is.files
    ∙ ap made (units_are kind p span is.entries (v1_piece kind p pieces).0 (some_bytes kind p span is_span pieces)
    is.is_list.laid_out)

pub plan_of_bytes : (plan : PlanFacts) (span : ℕ) (whole : PlanUnit) (lengths : List ℕ)
    → plan ≡ plan_of_whole plan.kind plan.piece_length span whole lengths → IsSpan span
    → AreWhole plan.kind plan.piece_length whole lengths → IsPlanPieceLength plan.kind plan.piece_length → IsPlan plan
plan_of_bytes plan span whole lengths made is_span is pieces = record {
  span = span;
  entries = is.entries;
  is_span = is_span;
  is_list = is.is_list;
  pieces = pieces;
  made = made ∙ plan_is plan.kind plan.piece_length span whole lengths is is_span pieces;
}

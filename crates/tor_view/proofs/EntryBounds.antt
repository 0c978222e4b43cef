-- The entries of a torrent have bytes, and files, within the bounds of what can be cut, where no length is too large.
use Rattle.tor_view.proofs.Names.{◌≡◌, ℕ, ◌≤◌, false, ◌||◌, List, [], ◌∷◌, map, sum_by, nat_lt, refl, arith, ap, ◌∙◌}
use Rattle.tor_view.proofs.Names.{subst, sum, sym, next_multiple_of, All, AllByRecursion, list_any, ltb-false}
use Rattle.tor_view.proofs.Names.{or_parts, All-from_recursion, sum_by-cons, sum_by-le-sum_by, Data, entries_length}
use Rattle.tor_view.proofs.Names.{lengths_of_entries, has_padding, joined_size, ListedFile, sizes_too_large}
use Rattle.tor_view.proofs.Names.{without_padding, info_of, tree_files, tree_of, tree_too_large, file_of_tree}
use Rattle.tor_view.proofs.Names.{FileView, lengths_too_large, MAX_LENGTH, MAX_TOTAL, ROUNDING, TreeFile, file_entry}
use Rattle.tor_view.proofs.Names.{Entry, files_of_both, has_v1, kind_of, listed_files, map_lettered}
use Rattle.tor_view.proofs.Names.{if◌then◌else◌}
use Rattle.tor_view.proofs.ListedFiles.{entries_of, joined_entries, lengths_of_listed, size_of}
use Rattle.tor_view.proofs.MerklePieces.{length_of}
use Rattle.tor_view.proofs.PieceSides.{lengths_of_told}
use Rattle.tor_tree.specs.FileTree as file_tree
use Rattle.tor_tree.specs.Properties as properties

-- entries of which all is as small as a plan wants it
pub record AreSmall (entries : List Entry) : Type 0 where
  pub total : entries_length entries ≤ MAX_TOTAL
  pub files : All (λ m. m ≤ MAX_LENGTH) (lengths_of_entries entries)

-- ---- lengths that are not too large

abbrev rounded : ℕ → ℕ
rounded m = next_multiple_of m ROUNDING

-- each of them, and all together
record AreSmallLengths (lengths : List ℕ) : Type 0 where
  each : All (λ m. m ≤ MAX_LENGTH) lengths
  total : sum lengths ≤ MAX_TOTAL

none_over : (lengths : List ℕ) → list_any (nat_lt MAX_LENGTH) lengths ≡ false
    → AllByRecursion (λ m. m ≤ MAX_LENGTH) lengths
none_over [] none = tt
none_over (m ∷ lengths) none =
    let parts = or_parts (nat_lt MAX_LENGTH m) (list_any (nat_lt MAX_LENGTH) lengths) none in
    (ltb-false MAX_LENGTH m parts.0, none_over lengths parts.1)

small_lengths : (lengths : List ℕ) → lengths_too_large lengths ≡ false → AreSmallLengths lengths
small_lengths lengths none =
    let parts = or_parts (list_any (nat_lt MAX_LENGTH) lengths) (nat_lt MAX_TOTAL (sum_by rounded lengths)) none in
    let total = ltb-false MAX_TOTAL (sum_by rounded lengths) parts.1 in
    let grown = sum_by-le-sum_by (λ (m : ℕ). m) rounded lengths (λ m. omega arith) in
    record {
      each = All-from_recursion (λ m. m ≤ MAX_LENGTH) lengths (none_over lengths parts.0);
      total = omega (arith, total, grown);
    }

-- ---- the entries of a v1 side

pub small_listed : (files : List ListedFile) → sizes_too_large files ≡ false → AreSmall (entries_of files)
small_listed files none =
    let sizes = map size_of (without_padding files) in
    let parts = or_parts (list_any (λ (file : ListedFile). nat_lt MAX_LENGTH file.size) files)
    (lengths_too_large sizes || nat_lt MAX_TOTAL (joined_size files)) none in
    let others = or_parts (lengths_too_large sizes) (nat_lt MAX_TOTAL (joined_size files)) parts.1 in
    let total = ltb-false MAX_TOTAL (joined_size files) others.1 in
    record {
      total = omega (arith, total, joined_entries files);
      files = subst (All (λ m. m ≤ MAX_LENGTH)) (sym (lengths_of_listed files)) (small_lengths sizes others.0).each;
    }

-- ---- those of the files of a v2 side

-- a file with its layer, as an entry
abbrev pub told_entry : FileView → Entry
told_entry told = file_entry (told.file.path, told.file.length)

abbrev pub told_files : Data → List FileView
told_files root = map (file_of_tree root) (files_of_both (info_of root))

abbrev length_of_file : TreeFile → ℕ
length_of_file file = file.length

-- letters change no length
pub lengths_of_both : (info : Data)
    → map length_of_file (files_of_both info) ≡ map length_of_file (tree_files info)
lengths_of_both info =
    map_lettered length_of_file (λ listed file. refl) (if has_v1 (kind_of info) then listed_files info else [])
    (tree_files info)

pub lengths_told : (root : Data) (files : List TreeFile)
    → map length_of (map (file_of_tree root) files) ≡ map length_of_file files
lengths_told root [] = refl
lengths_told root (file ∷ files) = ap (λ lengths. file.length ∷ lengths) (lengths_told root files)

pub no_padding_told : (files : List FileView) → has_padding (map told_entry files) ≡ false
no_padding_told [] = refl
no_padding_told (told ∷ files) = no_padding_told files

total_told : (files : List FileView)
    → entries_length (map told_entry files) ≡ sum (map length_of files)
total_told [] = refl
total_told (told ∷ files) =
    let first = sum_by-cons (λ (entry : Entry). entry.length) (told_entry told) (map told_entry files) in
    let same = sum_by-cons (λ (m : ℕ). m) (length_of told) (map length_of files) in
    omega (arith, first, same, total_told files)

lengths_of_tree : (entries : List (List (List ℕ) × Data))
    → map length_of_file (map file_tree.file_of entries) ≡ map properties.length_of (map (λ entry. entry.1) entries)
lengths_of_tree [] = refl
lengths_of_tree (entry ∷ entries) =
    ap (λ lengths. properties.length_of entry.1 ∷ lengths) (lengths_of_tree entries)

pub small_told : (root : Data) → tree_too_large (info_of root) ≡ false → AreSmall (map told_entry (told_files root))
small_told root none =
    let info = info_of root in
    let files = told_files root in
    let same = lengths_told root (files_of_both info) ∙ lengths_of_both info in
    let small = small_lengths (map length_of_file (tree_files info))
    (ap lengths_too_large (lengths_of_tree (file_tree.entries_of (tree_of info))) ∙ none) in
    let total = total_told files ∙ ap sum same in
    record {
      total = omega (arith, small.total, total);
      files = subst (All (λ m. m ≤ MAX_LENGTH)) (sym (lengths_of_told files ∙ same)) small.each;
    }

-- The first fault of the v1 side, from the tests that the code makes.
use Rattle.tor_check.proofs.Names.{◌≡◌, ℕ, suc, true, false, true≢false, Bool, ◌||◌, ◌==◌, List, [], ◌∷◌, Option, None}
use Rattle.tor_check.proofs.Names.{Some, length, map, refl, ap, sym, ◌∙◌, cond, arith, codes, option_map, nat_lt}
use Rattle.tor_check.proofs.Names.{list_any, option_or, eqb-true, Data, of_list_error, refusal_for, all_listed}
use Rattle.tor_check.proofs.Names.{first_after_sizes, first_of_list, sized_files, Listed, Refusal, Condition}
use Rattle.tor_check.proofs.Names.{ListedFile, joined_size, list_duplicate, list_file_and_folder, list_length}
use Rattle.tor_check.proofs.Names.{list_no_files, list_shape, listed_files, listed_paths, side_files, list_pieces}
use Rattle.tor_check.proofs.Names.{is_no_sums, list_symlink, side_size, piece_length_of, value_of, div_ceil, lengths_of}
use Rattle.tor_check.proofs.Names.{lengths_too_large, list_fault, paths_nest, paths_of, paths_repeat, as_string}
use Rattle.tor_check.proofs.Names.{ListError, MAX_LENGTH, MAX_TOTAL}
use Rattle.tor_check.proofs.SideLemmas.{listed_is_side, sized_in_side}
use Rattle.tor_check.specs.declared.refusal.Refusal.TheVariants as refusals
use Rattle.tor_spec.specs.valid.Conditions as conditions
use Rattle.tor_tree.specs.declared.lists.ListError.TheVariants as lists

-- the fault of a list, from four tests of it
abbrev fault_by : Bool → Bool → Bool → Bool → Option ListError
fault_by none twice inside large =
    option_or (cond none (Some lists.NoFiles) (cond twice (Some lists.Duplicate)
    (cond inside (Some lists.FileAndFolder) None))) (cond large (Some lists.TooLarge) None)

-- the first condition, where those before hold not
abbrev first_by : Bool → Bool → Bool → Bool → Option Condition → Option Condition
first_by none twice inside large rest =
    cond twice (Some conditions.Duplicate) (cond inside (Some conditions.FileAndFolder)
    (cond none (Some conditions.NoFiles) (cond large (Some conditions.TooLarge) rest)))

decided : (none twice inside large other total : Bool) (rest : Option Condition) (fault : ListError)
    → (none ≡ true → (twice ≡ false) × (inside ≡ false)) → fault_by none twice inside large ≡ Some fault
    → option_map refusal_for (first_by none twice inside (other || (large || total)) rest) ≡ Some (of_list_error fault)
decided true true inside large other total rest fault empty e = absurd (true≢false (empty refl).0)
decided true false true large other total rest fault empty e = absurd (true≢false (empty refl).1)
decided true false false large other total rest fault empty e = ap (option_map of_list_error) e
decided false true inside large other total rest fault empty e = ap (option_map of_list_error) e
decided false false true large other total rest fault empty e = ap (option_map of_list_error) e
decided false false false true true total rest fault empty e = ap (option_map of_list_error) e
decided false false false true false total rest fault empty e = ap (option_map of_list_error) e
decided false false false false other total rest fault empty e = absurd cc

-- no such fault: none of the four holds
undecided : (none twice inside large : Bool) → fault_by none twice inside large ≡ None
    → (none ≡ false) × (twice ≡ false) × (inside ≡ false) × (large ≡ false)
undecided true twice inside large e = absurd cc
undecided false true inside large e = absurd cc
undecided false false true large e = absurd cc
undecided false false false true e = absurd cc
undecided false false false false e = (refl, refl, refl, refl)

-- no path is there twice, or inside another, where there is none
none_alone : (paths : List (List (List ℕ))) → (length paths == 0) ≡ true
    → (paths_repeat paths ≡ false) × (paths_nest paths ≡ false)
none_alone [] e = (refl, refl)
none_alone (path ∷ paths) e = absurd (omega (arith, eqb-true (length (path ∷ paths)) 0 e))

count_of_paths : (files : List ListedFile) → length (map (λ (file : ListedFile). file.path) files) ≡ length files
count_of_paths [] = refl
count_of_paths (file ∷ files) = ap (λ n. suc n) (count_of_paths files)

none_of : (info : Data) → list_no_files info ≡ true
    → (list_duplicate info ≡ false) × (list_file_and_folder info ≡ false)
none_of info e = none_alone (listed_paths info) (rw (count_of_paths (listed_files info)) e)

paths_of_pairs : (files : List ListedFile)
    → paths_of (map (λ (file : ListedFile). (file.path, file.size)) files)
    ≡ map (λ (file : ListedFile). file.path) files
paths_of_pairs [] = refl
paths_of_pairs (file ∷ files) = ap (λ more. file.path ∷ more) (paths_of_pairs files)

lengths_of_pairs : (files : List ListedFile)
    → lengths_of (map (λ (file : ListedFile). (file.path, file.size)) files)
    ≡ map (λ (file : ListedFile). file.size) files
lengths_of_pairs [] = refl
lengths_of_pairs (file ∷ files) = ap (λ more. file.size ∷ more) (lengths_of_pairs files)

abbrev sizes_large : Data → Bool
sizes_large info = lengths_too_large (map (λ (file : ListedFile). file.size) (listed_files info))

-- the fault of the listed files, from the tests of the side
pub fault_of_side : (info : Data) (files : List Listed) → files ≡ all_listed info → list_fault (sized_files files)
    ≡ fault_by (list_no_files info) (list_duplicate info) (list_file_and_folder info) (sizes_large info)
fault_of_side info files read =
    let pairs : sized_files files ≡ map (λ (file : ListedFile). (file.path, file.size)) (listed_files info) =
    rw (sized_in_side files, read, listed_is_side info) refl in
    rw (
      pairs,
      paths_of_pairs (listed_files info),
      lengths_of_pairs (listed_files info),
      count_of_paths
          (listed_files info),
    ) refl

pub at_list_fault : (info : Data) (files : List Listed) (fault : ListError) → files ≡ all_listed info
    → list_shape info ≡ false → list_length info ≡ false → list_fault (sized_files files) ≡ Some fault
    → option_map refusal_for (first_of_list info) ≡ Some (of_list_error fault)
at_list_fault info files fault read shaped positive e =
    let other = list_any (λ (file : ListedFile). nat_lt MAX_LENGTH file.size) (side_files info) in
    let total = nat_lt MAX_TOTAL (joined_size (side_files info)) in
    let rest = cond (list_symlink info) (Some conditions.Symlink)
    (cond (list_pieces info) (Some conditions.PiecesLength) None) in
    rw (shaped, positive) (decided (list_no_files info) (list_duplicate info) (list_file_and_folder info)
    (sizes_large info) other total rest fault (none_of info) (sym (fault_of_side info files read) ∙ e))

pub at_refusal : (info : Data) (files : List Listed) (refusal : Refusal) → files ≡ all_listed info
    → list_shape info ≡ false → list_length info ≡ false
    → option_map of_list_error (list_fault (sized_files files)) ≡ Some refusal
    → option_map refusal_for (first_of_list info) ≡ Some refusal
at_refusal info files refusal read shaped positive = by_fault (list_fault (sized_files files)) refl
  where
    by_fault : (found : Option ListError) → list_fault (sized_files files) ≡ found
        → option_map of_list_error found ≡ Some refusal → option_map refusal_for (first_of_list info) ≡ Some refusal
    by_fault None is e = absurd cc
    by_fault (Some fault) is e = at_list_fault info files fault read shaped positive is ∙ e

-- no file of the list has a fault
pub record NoListFault (info : Data) : Type 0 where
  pub some : list_no_files info ≡ false
  pub once : list_duplicate info ≡ false
  pub apart : list_file_and_folder info ≡ false
  pub small : sizes_large info ≡ false

pub no_list_fault : (info : Data) (files : List Listed) → files ≡ all_listed info
    → list_fault (sized_files files) ≡ None → NoListFault info
no_list_fault info files read e =
    let tests =
    undecided (list_no_files info) (list_duplicate info) (list_file_and_folder info) (sizes_large info)
    (sym (fault_of_side info files read) ∙ e) in
    record { some = tests.0; once = tests.1; apart = tests.2; small = tests.3 }

abbrev is_long : Data → Bool
is_long info = list_any (λ (file : ListedFile). nat_lt MAX_LENGTH file.size) (side_files info)

abbrev total_large : Data → Bool
total_large info = nat_lt MAX_TOTAL (joined_size (side_files info))

pub at_long : (info : Data) → list_shape info ≡ false → list_length info ≡ false → NoListFault info
    → is_long info ≡ true → option_map refusal_for (first_of_list info) ≡ Some refusals.TooLarge
at_long info shaped positive none long =
    rw (shaped, positive, none.once, none.apart, none.some, none.small, long) refl

pub at_total : (info : Data) → list_shape info ≡ false → list_length info ≡ false → NoListFault info
    → is_long info ≡ false → total_large info ≡ true
    → option_map refusal_for (first_of_list info) ≡ Some refusals.TooLarge
at_total info shaped positive none long total =
    rw (shaped, positive, none.once, none.apart, none.some, none.small, long, total) refl

-- the first condition, where the sizes have no fault
pub after_sizes : (info : Data) → list_shape info ≡ false → list_length info ≡ false → NoListFault info
    → is_long info ≡ false → total_large info ≡ false → first_of_list info ≡ first_after_sizes info
after_sizes info shaped positive none long total =
    rw (shaped, positive, none.once, none.apart, none.some, none.small, long, total) refl

pub at_link : (info : Data) → first_of_list info ≡ first_after_sizes info → list_symlink info ≡ true
    → option_map refusal_for (first_of_list info) ≡ Some refusals.Symlink
at_link info first link =
    let last : option_map refusal_for (first_after_sizes info) ≡ Some refusals.Symlink = rw link refl in
    ap (option_map refusal_for) first ∙ last

pub at_pieces : (info : Data) → first_of_list info ≡ first_after_sizes info → list_symlink info ≡ false
    → list_pieces info ≡ true → option_map refusal_for (first_of_list info) ≡ Some refusals.PiecesLength
at_pieces info first link pieces =
    let last : option_map refusal_for (first_after_sizes info) ≡ Some refusals.PiecesLength = rw (link, pieces) refl in
    ap (option_map refusal_for) first ∙ last

pub at_end : (info : Data) → first_of_list info ≡ first_after_sizes info → list_symlink info ≡ false
    → list_pieces info ≡ false → first_of_list info ≡ None
at_end info first link pieces =
    let last : first_after_sizes info ≡ None = rw (link, pieces) refl in
    first ∙ last

-- what the code tells of `pieces`
pub tells_pieces : (info : Data) (size piece_length : ℕ) (answer : Bool) → size ≡ side_size info
    → piece_length ≡ piece_length_of info
    → answer ≡ is_no_sums (div_ceil size piece_length) (as_string (value_of (codes "pieces") info))
    → list_pieces info ≡ answer
tells_pieces info size piece_length answer is_size is_length e = sym (rw (sym is_size, sym is_length) e)

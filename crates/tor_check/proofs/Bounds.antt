-- Where no condition of the sides holds their lengths are small.
use Rattle.tor_check.proofs.Names.{◌≡◌, ℕ, ◌<◌, ◌≤◌, ◌^◌, true, false, true≢false, Bool, ◌||◌, List}
use Rattle.tor_check.proofs.Names.{[], ◌∷◌, Option, None, Some, map, cond, sum_by, nat_lt, refl, ap, sym, ◌∙◌, arith}
use Rattle.tor_check.proofs.Names.{subst, find, next_multiple_of, All, AllByRecursion, list_any}
use Rattle.tor_check.proofs.Names.{ltb-false, All-from_recursion}
use Rattle.tor_check.proofs.Names.{sum_by-le-sum_by, sum_by-cons, Data, all_listed, first_of_list, list_holds}
use Rattle.tor_check.proofs.Names.{side_conditions, size_of_listed, earliest, files_if, first_of_both, first_of_tree}
use Rattle.tor_check.proofs.Names.{list_if, listed_if, tree_holds, tree_if, Listed, Condition, pieces_in, side_files}
use Rattle.tor_check.proofs.Names.{joined_size, without_padding, ListedFile, kind_of, tree_files, tree_of}
use Rattle.tor_check.proofs.Names.{lengths_too_large, entries_of, file_of, has_v1, has_v2, length_of, MAX_LENGTH}
use Rattle.tor_check.proofs.Names.{MAX_TOTAL, ROUNDING, TreeFile, ceil_few}
use Rattle.tor_check.proofs.ListSteps.{any_mapped}
use Rattle.tor_check.proofs.SideLemmas.{tells_long, tells_size}

-- what is not found holds of none
found_in_front : {C : Type 0} (p : C → Bool) (c : C) (cs : List C)
    → (find p cs ≡ None → AllByRecursion (λ c. p c ≡ false) cs)
    → find p (c ∷ cs) ≡ None → AllByRecursion (λ c. p c ≡ false) (c ∷ cs)
found_in_front {C} p c cs rest = by_test (p c) refl
  where
    by_test : (b : Bool) → p c ≡ b → cond b (Some c) (find p cs) ≡ None → AllByRecursion (λ c. p c ≡ false) (c ∷ cs)
    by_test true is e = absurd cc
    by_test false is e = (is, rest e)

pub found_none : {C : Type 0} (p : C → Bool) (cs : List C) → find p cs ≡ None → AllByRecursion (λ c. p c ≡ false) cs
found_none p [] e = tt
found_none p (c ∷ cs) e = found_in_front p c cs (found_none p cs) e

pub first_or : (a b : Bool) → (a || b) ≡ false → (a ≡ false) × (b ≡ false)
first_or true b e = absurd (true≢false e)
first_or false b e = (refl, e)

-- none of the lengths is over the greatest
pub none_over : {X : Type 0} (f : X → ℕ) (xs : List X) → list_any (λ x. nat_lt MAX_LENGTH (f x)) xs ≡ false
    → All (λ x. f x ≤ MAX_LENGTH) xs
none_over {X} f xs e = All-from_recursion _ xs (each xs e)
  where
    each : (ys : List X) → list_any (λ x. nat_lt MAX_LENGTH (f x)) ys ≡ false
        → AllByRecursion (λ x. f x ≤ MAX_LENGTH) ys
    each [] h = tt
    each (y ∷ ys) h =
        let both = first_or (nat_lt MAX_LENGTH (f y)) (list_any (λ x. nat_lt MAX_LENGTH (f x)) ys) h in
        (ltb-false MAX_LENGTH (f y) both.0, each ys both.1)

rounded_up : (p n : ℕ) → 0 < p → pieces_in p n ≤ next_multiple_of n ROUNDING
rounded_up p n some = let few = ceil_few n p some in omega (arith, few)

sum_of_lengths : (files : List TreeFile)
    → sum_by (λ length. next_multiple_of length ROUNDING) (map (λ (file : TreeFile). file.length) files)
    ≡ sum_by (λ (file : TreeFile). next_multiple_of file.length ROUNDING) files
sum_of_lengths [] = refl
sum_of_lengths (file ∷ files) =
    rw (
      sum_by-cons (λ length. next_multiple_of length ROUNDING) file.length
          (map (λ (file : TreeFile). file.length) files),
      sum_by-cons (λ (file : TreeFile). next_multiple_of file.length ROUNDING) file files,
      sum_of_lengths files,
    ) refl

same_lengths : (entries : List (List (List ℕ) × Data))
    → map (λ (file : TreeFile). file.length) (map file_of entries) ≡ map length_of (map (λ entry. entry.1) entries)
same_lengths [] = refl
same_lengths (entry ∷ entries) = ap (λ more. length_of entry.1 ∷ more) (same_lengths entries)

-- the lengths of the files of a tree that has no fault
pub record SmallTree (piece_length : ℕ) (files : List TreeFile) : Type 0 where
  pub each : All (λ file. file.length ≤ MAX_LENGTH) files
  pub few : sum_by (λ file. pieces_in piece_length file.length) files < 2 ^ 64

pub small_tree : (info : Data) (p : ℕ) → 0 < p → first_of_tree info ≡ None → SmallTree p (tree_files info)
small_tree info p some none =
    let files = tree_files info in
    let large = (found_none (tree_holds info) side_conditions none).1.1.1.1.1.0 in
    let lengths = map (λ (file : TreeFile). file.length) files in
    let large' : lengths_too_large lengths ≡ false =
    ap lengths_too_large (same_lengths (entries_of (tree_of info))) ∙ large in
    let both = first_or (list_any (nat_lt MAX_LENGTH) lengths)
    (nat_lt MAX_TOTAL (sum_by (λ length. next_multiple_of length ROUNDING) lengths)) large' in
    let total = ltb-false MAX_TOTAL (sum_by (λ length. next_multiple_of length ROUNDING) lengths) both.1 in
    let sum = sum_of_lengths files in
    let fewer = sum_by-le-sum_by (λ (file : TreeFile). pieces_in p file.length)
    (λ (file : TreeFile). next_multiple_of file.length ROUNDING) files (λ file. rounded_up p file.length some) in
    record {
      each = none_over (λ (file : TreeFile). file.length) files
          (sym (any_mapped (nat_lt MAX_LENGTH) (λ (file : TreeFile). file.length) files) ∙ both.0);
      few = omega (arith, total, sum, fewer);
    }

-- the lengths of the files of a list that has no fault
pub record SmallList (files : List Listed) : Type 0 where
  pub each : All (λ file. size_of_listed file ≤ MAX_LENGTH) files
  pub total : sum_by size_of_listed files ≤ MAX_TOTAL

pub small_list : (info : Data) (files : List Listed) → files ≡ all_listed info → first_of_list info ≡ None
    → SmallList files
small_list info files read none =
    let large = (found_none (list_holds info) side_conditions none).1.1.1.1.1.0 in
    let sizes = side_files info in
    let long = list_any (λ (file : ListedFile). nat_lt MAX_LENGTH file.size) sizes in
    let rounded = lengths_too_large (map (λ (file : ListedFile). file.size) (without_padding sizes)) in
    let first = first_or long (rounded || nat_lt MAX_TOTAL (joined_size sizes)) large in
    let second = first_or rounded (nat_lt MAX_TOTAL (joined_size sizes)) first.1 in
    let total = ltb-false MAX_TOTAL (joined_size sizes) second.1 in
    let own =
    tells_long info files (list_any (λ (file : Listed). nat_lt MAX_LENGTH (size_of_listed file)) files) read refl in
    record {
      each = none_over size_of_listed files (sym own ∙ first.0);
      total = subst (λ (n : ℕ). n ≤ MAX_TOTAL) (sym (tells_size info files read)) total;
    }

-- where neither side has a fault, neither has
earliest_none : (a b : Option Condition) → earliest a b ≡ None → (a ≡ None) × (b ≡ None)
earliest_none None b e = (refl, e)
earliest_none (Some c) None e = absurd cc
earliest_none (Some c) (Some d) e = absurd cc

pub no_list_fault_left : (info : Data) → first_of_both info ≡ None → has_v1 (kind_of info) ≡ true
    → first_of_list info ≡ None
no_list_fault_left info none v1 =
    let side = (earliest_none (list_if info) (tree_if info) none).0 in
    rw v1 at side

pub no_tree_fault_left : (info : Data) → first_of_both info ≡ None → has_v2 (kind_of info) ≡ true
    → first_of_tree info ≡ None
no_tree_fault_left info none v2 =
    let side = (earliest_none (list_if info) (tree_if info) none).1 in
    rw v2 at side

-- what is read of a side that is there, where none has a fault
pub small_files : (info : Data) (files : List TreeFile) → files ≡ files_if info → first_of_both info ≡ None
    → has_v2 (kind_of info) ≡ true → All (λ file. file.length ≤ MAX_LENGTH) files
small_files info files read none v2 =
    let same : files ≡ tree_files info = rw v2 at read in
    rw same (small_tree info 1 (omega arith) (no_tree_fault_left info none v2)).each

pub few_in_files : (info : Data) (p : ℕ) (files : List TreeFile) → files ≡ files_if info → first_of_both info ≡ None
    → has_v2 (kind_of info) ≡ true → 0 < p → sum_by (λ file. pieces_in p file.length) files < 2 ^ 64
few_in_files info p files read none v2 some =
    let same : files ≡ tree_files info = rw v2 at read in
    rw same (small_tree info p some (no_tree_fault_left info none v2)).few

pub small_listed : (info : Data) (files : List Listed) → files ≡ listed_if info → first_of_both info ≡ None
    → has_v1 (kind_of info) ≡ true → SmallList files
small_listed info files read none v1 =
    let same : files ≡ all_listed info = rw v1 at read in
    small_list info files same (no_list_fault_left info none v1)

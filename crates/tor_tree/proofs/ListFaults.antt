-- What a list of files has that has no fault.
use Rattle.tor_tree.proofs.Cited.{◌≡◌, ◌==◌, ℕ, ◌≤◌, false, cond, Bool, true, List, [], ◌∷◌, length, nat_lt, Option}
use Rattle.tor_tree.proofs.Cited.{None, Some, refl, list_any, All, AllByRecursion, option_or, or_parts, ltb-false}
use Rattle.tor_tree.proofs.Cited.{All-from_recursion, ListError, lengths_fault, lengths_of, lengths_too_large}
use Rattle.tor_tree.proofs.Cited.{list_fault, paths_fault, paths_nest, paths_of, paths_repeat, MAX_LENGTH}
use Rattle.tor_tree.proofs.Cited.{MAX_TOTAL, ROUNDING, next_multiple_of, sum_by}

-- a test that gives a fault is not passed where there is none
pub clear : {E : Type 0} (test : Bool) (fault : E) (rest : Option E) → cond test (Some fault) rest ≡ None
    → (test ≡ false) × (rest ≡ None)
clear true fault rest h = cc
clear false fault rest h = (refl, h)

pub neither : {E : Type 0} (first second : Option E) → option_or first second ≡ None → (first ≡ None) × (second ≡ None)
neither None second h = (refl, h)
neither (Some fault) second h = cc

module _ (files : List (List (List ℕ) × ℕ)) where
  pub fault_of_paths : (fault : ListError) → paths_fault (paths_of files) ≡ Some fault → list_fault files ≡ Some fault
  fault_of_paths fault is = rw is refl

  pub fault_of_lengths : paths_fault (paths_of files) ≡ None → list_fault files ≡ lengths_fault (lengths_of files)
  fault_of_lengths none = rw none refl

-- none of the faults that a list of files can have
pub record IsClear (files : List (List (List ℕ) × ℕ)) : Type 0 where
  pub some : (length (paths_of files) == 0) ≡ false
  pub once : paths_repeat (paths_of files) ≡ false
  pub flat : paths_nest (paths_of files) ≡ false
  pub short : list_any (nat_lt MAX_LENGTH) (lengths_of files) ≡ false
  pub small : lengths_too_large (lengths_of files) ≡ false
  pub total : sum_by (λ n. next_multiple_of n ROUNDING) (lengths_of files) ≤ MAX_TOTAL

pub is_clear : (files : List (List (List ℕ) × ℕ)) → list_fault files ≡ None → IsClear files
is_clear files faultless =
    let both = neither (paths_fault (paths_of files)) (lengths_fault (lengths_of files)) faultless in
    let some = clear (length (paths_of files) == 0) _ _ both.0 in
    let once = clear (paths_repeat (paths_of files)) _ _ some.1 in
    let flat = clear (paths_nest (paths_of files)) _ _ once.1 in
    let small = clear (lengths_too_large (lengths_of files)) _ _ both.1 in
    let parts = or_parts (list_any (nat_lt MAX_LENGTH) (lengths_of files)) _ small.0 in
    record {
      some = some.0;
      once = once.0;
      flat = flat.0;
      short = parts.0;
      small = small.0;
      total = ltb-false MAX_TOTAL _ parts.1;
    }

none_over : (files : List (List (List ℕ) × ℕ)) → list_any (nat_lt MAX_LENGTH) (lengths_of files) ≡ false
    → AllByRecursion (λ file. file.1 ≤ MAX_LENGTH) files
none_over [] h = tt
none_over (file ∷ files) h =
    let parts = or_parts (nat_lt MAX_LENGTH file.1) (list_any (nat_lt MAX_LENGTH) (lengths_of files)) h in
    (ltb-false MAX_LENGTH file.1 parts.0, none_over files parts.1)

-- no file of a list is too long
pub small_files : (files : List (List (List ℕ) × ℕ)) → list_fault files ≡ None → All (λ file. file.1 ≤ MAX_LENGTH) files
small_files files h =
    All-from_recursion _ files
    (none_over files (is_clear files h).short)

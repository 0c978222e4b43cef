-- Files with the letters of both sides: their paths, lengths and roots are those of the tree, and where no side has a
-- letter, or both the same, they are the files of the tree.
use Rattle.tor_spec.proofs.Names.{◌≡◌, ℕ, zero, suc, ◌+◌, false, List, [], ◌∷◌, map, sum_by, refl, ap, ap₂, ◌∙◌}
use Rattle.tor_spec.proofs.Names.{sym, Some, same_Some, slice_get, subst}
use Rattle.tor_spec.proofs.Names.{sum_by-cons, Bool, File, ListedFile, lettered, letters_differ, or_from}
use Rattle.tor_spec.proofs.Names.{file_of_both, some_letters_differ, true}
use Rattle.tor_spec.proofs.Names.{TreeFile}
use Rattle.tor_spec.proofs.MadeHeads.{tree_file}
use Rattle.tor_spec.proofs.MadeListEntries.{listed_file}

-- what the letters do not change
pub map_lettered : {X : Type 0} (f : TreeFile → X)
    → ((listed : ListedFile) (file : TreeFile) → f (file_of_both listed file) ≡ f file)
    → (listed : List ListedFile) (files : List TreeFile) → map f (lettered listed files) ≡ map f files
map_lettered f same listed [] = refl
map_lettered f same [] (file ∷ files) = ap (λ more. f file ∷ more) (map_lettered f same [] files)
map_lettered f same (one ∷ listed) (file ∷ files) =
    ap₂ (λ x xs. x ∷ xs) (same one file) (map_lettered f same listed files)

pub sum_lettered : (f : TreeFile → ℕ)
    → ((listed : ListedFile) (file : TreeFile) → f (file_of_both listed file) ≡ f file)
    → (listed : List ListedFile) (files : List TreeFile) → sum_by f (lettered listed files) ≡ sum_by f files
sum_lettered f same listed [] = refl
sum_lettered f same [] (file ∷ files) =
    sum_by-cons f file (lettered [] files)
    ∙ ap (λ n. f file + n) (sum_lettered f same [] files)
    ∙ sym (sum_by-cons f file files)
sum_lettered f same (one ∷ listed) (file ∷ files) =
    sum_by-cons f (file_of_both one file) (lettered listed files)
    ∙ ap₂ (λ m n. m + n) (same one file) (sum_lettered f same listed files)
    ∙ sym (sum_by-cons f file files)

-- what holds of each file of the tree, whatever letters it is given
pub lettered_case : (P : TreeFile → Type 0)
    → ((listed : ListedFile) (file : TreeFile) → P file → P (file_of_both listed file))
    → (listed : List ListedFile) (files : List TreeFile) (i : ℕ) (told : TreeFile)
    → slice_get (lettered listed files) i ≡ Some told
    → ((file : TreeFile) → slice_get files i ≡ Some file → P file) → P told
lettered_case P keep listed [] i told at each = absurd cc
lettered_case P keep [] (file ∷ files) zero told at each = subst P (same_Some file told at) (each file refl)
lettered_case P keep [] (file ∷ files) (suc i) told at each = lettered_case P keep [] files i told at each
lettered_case P keep (one ∷ listed) (file ∷ files) zero told at each =
    subst P (same_Some (file_of_both one file) told at) (keep one file (each file refl))
lettered_case P keep (one ∷ listed) (file ∷ files) (suc i) told at each =
    lettered_case P keep listed files i told at each

-- without a v1 side
pub lettered_none : (files : List TreeFile) → lettered [] files ≡ files
lettered_none [] = refl
lettered_none (file ∷ files) = ap (λ more. file ∷ more) (lettered_none files)

-- a file of which both sides say the same letters
abbrev with : Bool → Bool → File → File
with exec hidden file =
    record { path = file.path; content = file.content; attr = record { exec = exec; hidden = hidden } }

same_letters : (file : File) (exec hidden : Bool)
    → file_of_both (listed_file (with exec hidden file)) (tree_file (with exec hidden file))
    ≡ tree_file (with exec hidden file)
same_letters file true true = refl
same_letters file true false = refl
same_letters file false true = refl
same_letters file false false = refl

none_differs : (file : File) (exec hidden : Bool)
    → letters_differ (listed_file (with exec hidden file)) (tree_file (with exec hidden file)) ≡ false
none_differs file true true = refl
none_differs file true false = refl
none_differs file false true = refl
none_differs file false false = refl

pub lettered_made : (files : List File) → lettered (map listed_file files) (map tree_file files)
    ≡ map tree_file files
lettered_made [] = refl
lettered_made (file ∷ files) =
    ap₂ (λ one more. one ∷ more) (same_letters file file.attr.exec file.attr.hidden) (lettered_made files)

pub no_letters_differ : (files : List File)
    → some_letters_differ (map listed_file files) (map tree_file files) ≡ false
no_letters_differ [] = refl
no_letters_differ (file ∷ files) =
    or_from _ _ (none_differs file file.attr.exec file.attr.hidden) (no_letters_differ files)

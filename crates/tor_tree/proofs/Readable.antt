-- The file tree of a list has none of the faults for which a tree is refused.
use Rattle.tor_tree.proofs.Cited.{◌≡◌, ◌≢◌, ℕ, suc, zero, ◌+◌, Bool, true, false, ◌&&◌, List, [], ◌∷◌, length, map}
use Rattle.tor_tree.proofs.Cited.{Option, None, Some, refl, sym, ap, ap₂, subst, ◌∙◌, arith, AllByRecursion, AllZip}
use Rattle.tor_tree.proofs.Cited.{list_any, both_ways, false_from_ne_true, length-map, Data, IsFileList, IsInPathOrder}
use Rattle.tor_tree.proofs.Cited.{lengths_of, paths_nest, paths_of, entries_of, file_of, lacks_root, properties_in}
use Rattle.tor_tree.proofs.Cited.{tree_fault, name_fault, length_of, properties_for, HasItsRoot, IsFileTreeOf}
use Rattle.tor_tree.proofs.Cited.{Attr, letters, lettered_files, HasNames, IsFilePath, IsRoot, TreeFile}
use Rattle.tor_tree.proofs.Cited.{All-from_recursion}
use Rattle.tor_tree.proofs.Cited.{recursion_from_All}
use Rattle.tor_tree.proofs.FilesBelow.{faultless_named}
use Rattle.tor_tree.proofs.LetteredProperties.{made_file, made_of, with_text}
use Rattle.tor_tree.proofs.ListFaults.{is_clear}
use Rattle.tor_tree.proofs.OneTree.{AreTidyFiles, tidy_of}
use Rattle.tor_tree.proofs.PathLists.{nest_found}
use Rattle.tor_tree.proofs.Shaped.{HaveNames, no_link, no_negative_length, shaped_folder}
use Rattle.tor_tree.proofs.TreeOfFiles.{one_root_each}
use Rattle.tor_tree.proofs.Unmixed.{AreApart, HavePaths, apart_from_indices, paths_in, told_paths, unmixed}

told_lengths : (entries : List (List (List ℕ) × Data))
    → map (λ (file : TreeFile). file.length) (map file_of entries) ≡ map length_of (map (λ entry. entry.1) entries)
told_lengths [] = refl
told_lengths ((path, properties) ∷ entries) = ap (λ lengths. length_of properties ∷ lengths) (told_lengths entries)

-- what is told of a file whatever its letters and its root
lettered_kept : {X : Type 0} (f : TreeFile → X) (g : List (List ℕ) × ℕ → X)
    → ((file : List (List ℕ) × ℕ) (attr : Attr) (root : Option (List ℕ)) → f (made_of file.0 attr file.1 root) ≡ g file)
    → (files : List (List (List ℕ) × ℕ)) (attrs : List Attr) (roots : List (Option (List ℕ)))
    → length attrs ≡ length files → length roots ≡ length files
    → map f (lettered_files files attrs roots) ≡ map g files
lettered_kept f g same [] attrs roots one_each e = refl
lettered_kept f g same (file ∷ files) [] roots one_each e = absurd (omega arith)
lettered_kept f g same (file ∷ files) (attr ∷ attrs) [] one_each e = absurd (omega arith)
lettered_kept f g same (file ∷ files) (attr ∷ attrs) (root ∷ roots) one_each e =
    ap₂ (λ x xs. x ∷ xs) (same file attr root) (lettered_kept f g same files attrs roots (omega arith) (omega arith))

lettered_roots : (files : List (List (List ℕ) × ℕ)) (attrs : List Attr) (roots : List (Option (List ℕ)))
    → AllByRecursion IsRoot roots
    → AllByRecursion (λ (file : TreeFile). IsRoot file.root) (lettered_files files attrs roots)
lettered_roots [] attrs roots are = tt
lettered_roots (file ∷ files) [] roots are = tt
lettered_roots (file ∷ files) (attr ∷ attrs) [] are = tt
lettered_roots (file ∷ files) (attr ∷ attrs) (root ∷ roots) are = (are.0, lettered_roots files attrs roots are.1)

and_no : (b : Bool) → (b && false) ≡ false
and_no true = refl
and_no false = refl

no_length : (text : Option (List ℕ)) (root : Option (List ℕ)) → lacks_root (with_text text 0 root) ≡ false
no_length None None = refl
no_length None (Some root) = refl
no_length (Some text) None = refl
no_length (Some text) (Some root) = refl

own_root : (text : Option (List ℕ)) (n : ℕ) (root : List ℕ) → length root ≡ 32
    → lacks_root (with_text text n (Some root)) ≡ false
own_root None n root is = rw is (and_no _)
own_root (Some text) n root is = rw is (and_no _)

has_root : (path : List (List ℕ)) (attr : Attr) (n : ℕ) (root : Option (List ℕ)) (properties : Data)
    → properties ≡ properties_for attr n root → HasItsRoot (path, n) root → IsRoot (file_of (path, properties)).root
    → lacks_root properties ≡ false
has_root path attr zero root properties is rooted told = rw is (no_length (letters attr) root)
has_root path attr (suc n) None properties is rooted told = let missing = rooted.1 (omega arith) in cc
has_root path attr (suc n) (Some bytes) properties is rooted told =
    let same : file_of (path, properties) ≡ made_of path attr (suc n) (Some bytes) =
    ap (λ p. file_of (path, p)) is ∙ made_file path attr (suc n) (Some bytes) rooted in
    let hashed : length bytes ≡ 32 = subst (λ (file : TreeFile). IsRoot file.root) same told in
    rw is (own_root (letters attr) (suc n) bytes hashed)

no_missing_root : (entries : List (List (List ℕ) × Data)) → AreTidyFiles entries
    → AllByRecursion (λ (file : TreeFile). IsRoot file.root) (map file_of entries)
    → list_any lacks_root (map (λ entry. entry.1) entries) ≡ false
no_missing_root [] tidy told = refl
no_missing_root ((path, properties) ∷ entries) ((attr, n, root, is, rooted), tidy) told =
    rw (has_root path attr n root properties is rooted told.0, no_missing_root entries tidy told.1) refl

-- what holds of the paths of files holds of those of entries
moved : (P : List (List ℕ) → Type 0) (entries : List (List (List ℕ) × Data)) (files : List (List (List ℕ) × ℕ))
    → paths_in entries ≡ paths_of files → AllByRecursion (λ file. P file.0) files
    → AllByRecursion (λ entry. P entry.0) entries
moved P [] files same each = tt
moved P (entry ∷ entries) [] same each = cc
moved P (entry ∷ entries) (file ∷ files) same each =
    let head : entry.0 ≡ file.0 = cc in
    let tail : paths_in entries ≡ paths_of files = cc in
    (rw head each.0, moved P entries files tail each.1)

apart_list : (files : List (List (List ℕ) × ℕ)) → IsInPathOrder files → paths_nest (paths_of files) ≡ false
    → AreApart (paths_of files)
apart_list files in_order flat =
    apart_from_indices (paths_of files)
    (λ k lt.
    let next : suc k ≡ k + 1 = omega arith in
    false_from_ne_true _
    (λ starts. both_ways _ flat (nest_found (paths_of files) k in_order (omega (arith, lt)) (rw next at starts))))

named_paths : (files : List (List (List ℕ) × ℕ)) → AllByRecursion (λ file. IsFilePath file.0) files
    → AllByRecursion (λ file. AllByRecursion (λ name. name_fault name ≡ None) file.0) files
named_paths [] are = tt
named_paths (file ∷ files) are = (recursion_from_All _ file.0 are.0.named, named_paths files are.1)

some_paths : (files : List (List (List ℕ) × ℕ)) → AllByRecursion (λ file. IsFilePath file.0) files
    → AllByRecursion (λ file. file.0 ≢ []) files
some_paths [] are = tt
some_paths (file ∷ files) are = (are.0.some, some_paths files are.1)

faultless_some : (path : List (List ℕ)) → AllByRecursion (λ name. name_fault name ≡ None) path
    → AllByRecursion (λ name. name ≢ []) path
faultless_some [] faultless = tt
faultless_some (name ∷ names) faultless = (faultless_named name faultless.0, faultless_some names faultless.1)

-- a path's names are not empty
pub path_named : (path : List (List ℕ)) → IsFilePath path → HasNames path
path_named path is = All-from_recursion _ path (faultless_some path (recursion_from_All _ path is.named))

pub all_named : (files : List (List (List ℕ) × ℕ)) → AllByRecursion (λ file. IsFilePath file.0) files
    → AllByRecursion (λ file. HasNames file.0) files
all_named [] are = tt
all_named (file ∷ files) are = (path_named file.0 are.0, all_named files are.1)

module _ (files : List (List (List ℕ) × ℕ)) (attrs : List Attr) (roots : List (Option (List ℕ))) (tree : Data)
    (made : IsFileTreeOf files attrs roots tree) (one_each : length attrs ≡ length files) (lawful : IsFileList files)
    (with_roots : AllZip HasItsRoot files roots) where
  lengths_told : map length_of (properties_in tree) ≡ lengths_of files
  lengths_told =
      sym (told_lengths (entries_of tree)) ∙ ap (map (λ (file : TreeFile). file.length)) made.described
      ∙ lettered_kept (λ (file : TreeFile). file.length) (λ file. file.1) (λ file attr root. refl) files attrs roots
      one_each (one_root_each files roots with_roots)

  paths_told : paths_in (entries_of tree) ≡ paths_of files
  paths_told =
      sym (told_paths (entries_of tree)) ∙ ap (map (λ (file : TreeFile). file.path)) made.described
      ∙ lettered_kept (λ (file : TreeFile). file.path) (λ file. file.0) (λ file attr root. refl) files attrs roots
      one_each (one_root_each files roots with_roots)

  same_count : length (properties_in tree) ≡ length (paths_of files)
  same_count =
      sym (length-map (properties_in tree) length_of) ∙ ap length lengths_told ∙ length-map files (λ file. file.1)
      ∙ sym (length-map files (λ file. file.0))

  pub readable : AllByRecursion IsRoot roots → tree_fault tree ≡ None
  readable rooted =
      let are = recursion_from_All _ files lawful.named in
      let tidy = tidy_of tree made.tidy in
      let named : HaveNames (entries_of tree) = moved (AllByRecursion (λ name. name_fault name ≡ None))
      (entries_of tree) files paths_told (named_paths files are) in
      let some : HavePaths (entries_of tree) =
      moved (λ path. path ≢ []) (entries_of tree) files paths_told (some_paths files are) in
      let apart : AreApart (paths_in (entries_of tree)) =
      rw paths_told (apart_list files lawful.in_order (is_clear files lawful.faultless).flat) in
      let told : AllByRecursion (λ (file : TreeFile). IsRoot file.root) (map file_of (entries_of tree)) =
      rw made.described (lettered_roots files attrs roots rooted) in
      rw (
        shaped_folder tree made.tidy named,
        no_negative_length (entries_of tree) tidy,
        same_count,
        (is_clear files lawful.faultless).some,
        lengths_told,
        (is_clear files lawful.faultless).small,
        no_link (entries_of tree) tidy,
        unmixed tree made.tidy made.keys apart some,
        no_missing_root (entries_of tree) tidy told,
      )
      refl

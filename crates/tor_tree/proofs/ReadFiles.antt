-- The files of a tree without fault: their paths are those of files, and each has a root just where it is not empty.
use Rattle.tor_tree.proofs.Cited.{◌≡◌, ◌==◌, ◌&&◌, ◌<◌, ℕ, Bool, true, false, not, List, [], ◌∷◌, ◌++◌, map, length}
use Rattle.tor_tree.proofs.Cited.{Option, None, Some, is_none, refl, arith, suc, get_or, AllByRecursion, AllZip, All}
use Rattle.tor_tree.proofs.Cited.{list_any, and_parts, eqb-true, eqb-false, lt-ltb, not-false, or_parts}
use Rattle.tor_tree.proofs.Cited.{All-from_recursion, Data, integer, string, list, dictionary, Pairs, no_pairs, pair}
use Rattle.tor_tree.proofs.Cited.{are_entries, entries_in, entries_of, file_of, files_of_tree, has_empty_key, is_folder}
use Rattle.tor_tree.proofs.Cited.{lacks_root, tree_fault, tree_mixes, under, name_fault, IsFilePath, are_properties}
use Rattle.tor_tree.proofs.Cited.{is_hash, length_of, pieces_root, HasItsRoot, TreeFile}
use Rattle.tor_tree.proofs.ListFaults.{clear}
use Rattle.tor_tree.proofs.Shaped.{HaveNames}
use Rattle.tor_tree.proofs.TreeFaults.{faultless_tree}
use Rattle.tor_tree.proofs.Unmixed.{HavePaths}

nothing_there : {X : Type 0} (o : Option X) → is_none o ≡ true → o ≡ None
nothing_there None h = refl
nothing_there (Some x) h = cc

names_under : (key : List ℕ) (inside rest : List (List (List ℕ) × Data)) → name_fault key ≡ None → HaveNames inside
    → HaveNames rest → HaveNames (under key inside ++ rest)
names_under key [] rest faultless here later = later
names_under key (entry ∷ inside) rest faultless here later =
    ((faultless, here.0), names_under key inside rest faultless here.1 later)

mutual
  names_of : (tree : Data) → is_folder tree ≡ true → HaveNames (entries_of tree)
  names_of (integer n) shaped = tt
  names_of (string bytes) shaped = tt
  names_of (list items) shaped = tt
  names_of (dictionary pairs) shaped = names_in pairs shaped

  names_in : (pairs : Pairs) → are_entries pairs ≡ true → HaveNames (entries_in pairs)
  names_in no_pairs shaped = tt
  names_in (pair [] properties pairs) shaped =
      (tt, names_in pairs (and_parts (are_properties properties) (are_entries pairs) shaped).1)
  names_in (pair (c ∷ cs) folder pairs) shaped =
      let here = and_parts (is_none (name_fault (c ∷ cs))) (is_folder folder && are_entries pairs) shaped in
      let later = and_parts (is_folder folder) (are_entries pairs) here.1 in
      names_under (c ∷ cs) (entries_of folder) (entries_in pairs) (nothing_there _ here.0) (names_of folder later.0)
      (names_in pairs later.1)

some_under : (key : List ℕ) (inside rest : List (List (List ℕ) × Data)) → HavePaths rest
    → HavePaths (under key inside ++ rest)
some_under key [] rest later = later
some_under key (entry ∷ inside) rest later = ((λ e. cc), some_under key inside rest later)

some_in : (pairs : Pairs) → has_empty_key pairs ≡ false → HavePaths (entries_in pairs)
some_in no_pairs named = tt
some_in (pair [] properties pairs) named = cc
some_in (pair (c ∷ cs) folder pairs) named =
    some_under (c ∷ cs) (entries_of folder) (entries_in pairs)
    (some_in pairs (or_parts (length (c ∷ cs) == 0) _ named).1)

some_of : (tree : Data) → tree_mixes tree ≡ false → HavePaths (entries_of tree)
some_of (integer n) named = tt
some_of (string bytes) named = tt
some_of (list items) named = tt
some_of (dictionary pairs) named = some_in pairs (or_parts (has_empty_key pairs) _ named).0

are_paths : (entries : List (List (List ℕ) × Data)) → HaveNames entries → HavePaths entries
    → AllByRecursion (λ (file : TreeFile). IsFilePath file.path) (map file_of entries)
are_paths [] named some = tt
are_paths ((path, properties) ∷ entries) named some =
    (record { some = some.0; named = All-from_recursion _ path named.0 }, are_paths entries named.1 some.1)

pub read_paths : (tree : Data) → tree_fault tree ≡ None
    → All (λ (file : TreeFile). IsFilePath file.path) (files_of_tree tree)
read_paths tree faultless =
    let shaped = not-false _ (clear (not (is_folder tree)) _ _ faultless).0 in
    All-from_recursion _ (files_of_tree tree)
    (are_paths (entries_of tree) (names_of tree shaped) (some_of tree (faultless_tree tree faultless).0))

hash_there : (root : Option (List ℕ)) → is_hash root ≡ true → (bytes : List ℕ) × (root ≡ Some bytes)
hash_there None h = cc
hash_there (Some bytes) h = (bytes, refl)

root_there : (path : List (List ℕ)) (properties : Data) → lacks_root properties ≡ false
    → HasItsRoot (path, length_of properties) (file_of (path, properties)).root
root_there path properties has = by_length (length_of properties == 0) refl
  where
    by_length : (b : Bool) → (length_of properties == 0) ≡ b
        → HasItsRoot (path, length_of properties) (file_of (path, properties)).root
    by_length true e = rw e ((λ some. cc), (λ lt. absurd (omega (arith, eqb-true (length_of properties) 0 e))))
    by_length false e =
        let lt : 0 < length_of properties = omega (arith, eqb-false (length_of properties) 0 e) in
        let hashed : not (is_hash (pieces_root properties)) ≡ false = rw (lt-ltb 0 (length_of properties) lt) at has in
        let there = hash_there (pieces_root properties) (not-false _ hashed) in
        rw (e, there.1) ((λ some. lt), (λ positive. refl))

roots_there : (entries : List (List (List ℕ) × Data)) → list_any lacks_root (map (λ entry. entry.1) entries) ≡ false
    → AllZip HasItsRoot (map (λ (file : TreeFile). (file.path, file.length)) (map file_of entries))
    (map (λ (file : TreeFile). file.root) (map file_of entries))
roots_there [] has = tt
roots_there ((path, properties) ∷ entries) has =
    let parts = or_parts (lacks_root properties) (list_any lacks_root (map (λ entry. entry.1) entries)) has in
    (root_there path properties parts.0, roots_there entries parts.1)

pub read_roots : (tree : Data) → tree_fault tree ≡ None
    → AllZip HasItsRoot (map (λ (file : TreeFile). (file.path, file.length)) (files_of_tree tree))
    (map (λ (file : TreeFile). file.root) (files_of_tree tree))
read_roots tree faultless = roots_there (entries_of tree) (faultless_tree tree faultless).1

-- roots that are each at their files' indices are those of the list
pub rooted_by_index : (files : List (List (List ℕ) × ℕ)) (roots : List (Option (List ℕ))) → length roots ≡ length files
    → ((k : ℕ) (file : List (List ℕ) × ℕ) (root : Option (List ℕ)) → k < length files
    → HasItsRoot (get_or files k file) (get_or roots k root))
    → AllZip HasItsRoot files roots
rooted_by_index [] [] e each = tt
rooted_by_index [] (root ∷ roots) e each = absurd (omega (arith, e))
rooted_by_index (file ∷ files) [] e each = absurd (omega (arith, e))
rooted_by_index (file ∷ files) (root ∷ roots) e each = (
  each 0 file root (omega arith),
  rooted_by_index files roots (omega (arith, e)) (λ k f r lt. each (suc k) f r (omega (arith, lt))),
)

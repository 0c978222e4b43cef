-- The proofs of the laws of src/laws.rt, and what a list without faults has: what the crates above may cite of these
-- proofs.
use Rattle.tor_tree.proofs.Cited.{◌≡◌, ◌+◌, ◌<◌, ◌≤◌, ◌≢◌, ◌^◌, ℕ, List, [], Less, None, Option, length, get_or, map}
use Rattle.tor_tree.proofs.Cited.{true, arith, IfSome, IsTotalOrder, All, AllZip, IsPermutation, IsStrictlySortedBy}
use Rattle.tor_tree.proofs.Cited.{All-from_recursion, recursion_from_All, Data, HasRisingKeys, IsLawfulWithin}
use Rattle.tor_tree.proofs.Cited.{IsFileList, IsInPathOrder, is_inside, lengths_fault, paths_fault, files_of_tree}
use Rattle.tor_tree.proofs.Cited.{tree_fault, name_fault, HasNames, IsFilePath, path_cmp, AreIndices, AtMostOneTree}
use Rattle.tor_tree.proofs.Cited.{Attr, HasItsRoot, IsFileTreeOf, file_tree, TreeFile, MAX_LENGTH}
use Rattle.tor_tree.proofs.FilesBelow.{faultless_named}
use Rattle.tor_tree.proofs.FileTrees.{made_file_tree}
use Rattle.tor_tree.proofs.LawfulTree.{lawful_tree}
use Rattle.tor_tree.proofs.ListFaults.{small_files}
use Rattle.tor_tree.proofs.PathLists.{inside_after, path_order}
use Rattle.tor_tree.proofs.OneTree.{one_tree}
use Rattle.tor_tree.proofs.Permuted.{lengths_fault-permutation, paths_fault-permutation}
use Rattle.tor_tree.proofs.IndexedPaths.{moved_to_indices}
use Rattle.tor_tree.proofs.Readable.{all_named, path_named, readable}
use Rattle.tor_tree.proofs.ReadFiles.{read_paths, read_roots, rooted_by_index}
use Rattle.tor_tree.proofs.RisingPaths.{paths_rise}
pub use Rattle.tor_tree.proofs.ListFaults.{IsClear, clear, is_clear, neither}

pub one_file_tree : AtMostOneTree
one_file_tree = one_tree

pub file_tree_of_list : (files : List (List (List ℕ) × ℕ)) (attrs : List Attr) (roots : List (Option (List ℕ)))
    → length attrs ≡ length files → IsInPathOrder files → All (λ file. HasNames file.0) files
    → AllZip HasItsRoot files roots → IsFileTreeOf files attrs roots (file_tree files attrs roots)
file_tree_of_list files attrs roots one_each in_order named with_roots =
    made_file_tree files attrs roots one_each with_roots in_order (recursion_from_All _ files named)

pub file_tree_is_lawful : (names : ℕ) (files : List (List (List ℕ) × ℕ)) (attrs : List Attr)
    (roots : List (Option (List ℕ)))
    → length attrs ≡ length files → IsInPathOrder files → All (λ file. HasNames file.0) files
    → AllZip HasItsRoot files roots → All (λ file. file.1 < 2 ^ 63) files → All (λ file. length file.0 ≤ names) files
    → IsLawfulWithin (names + 2) (file_tree files attrs roots)
file_tree_is_lawful names files attrs roots one_each in_order named with_roots small few =
    lawful_tree names files attrs roots (file_tree_of_list files attrs roots one_each in_order named with_roots).keys
    (recursion_from_All _ files small) (recursion_from_All _ files few)

pub names_not_empty : (name : List ℕ) → name_fault name ≡ None → name ≢ []
names_not_empty = faultless_named

pub paths_have_names : (path : List (List ℕ)) → IsFilePath path → HasNames path
paths_have_names = path_named

pub lists_have_names : (files : List (List (List ℕ) × ℕ)) → IsFileList files → All (λ file. HasNames file.0) files
lists_have_names files lawful =
    All-from_recursion _ files (all_named files (recursion_from_All _ files lawful.named))

pub files_are_small : (files : List (List (List ℕ) × ℕ)) → IsFileList files → All (λ file. file.1 ≤ MAX_LENGTH) files
files_are_small files lawful = small_files files lawful.faultless

pub paths_in_any_order : (paths others : List (List (List ℕ))) → IsPermutation paths others
    → paths_fault paths ≡ paths_fault others
paths_in_any_order = paths_fault-permutation

pub lengths_in_any_order : (lengths others : List ℕ) → IsPermutation lengths others
    → lengths_fault lengths ≡ lengths_fault others
lengths_in_any_order = lengths_fault-permutation

pub tree_of_list_is_lawful : (names : ℕ) (files : List (List (List ℕ) × ℕ)) (attrs : List Attr)
    (roots : List (Option (List ℕ)))
    → length attrs ≡ length files → IsFileList files → AllZip HasItsRoot files roots
    → All (λ file. length file.0 ≤ names) files → IsLawfulWithin (names + 2) (file_tree files attrs roots)
tree_of_list_is_lawful names files attrs roots one_each lawful with_roots few =
    file_tree_is_lawful names files attrs roots one_each lawful.in_order (lists_have_names files lawful) with_roots
    (λ k d lt. omega (arith, files_are_small files lawful k d lt)) few

pub tree_of_list_is_readable : (files : List (List (List ℕ) × ℕ)) (attrs : List Attr) (roots : List (Option (List ℕ)))
    → length attrs ≡ length files → IsFileList files → AllZip HasItsRoot files roots
    → All (λ root. IfSome root (λ bytes. length bytes ≡ 32)) roots
    → tree_fault (file_tree files attrs roots) ≡ None
tree_of_list_is_readable files attrs roots one_each lawful with_roots hashed =
    readable files attrs roots (file_tree files attrs roots)
    (file_tree_of_list files attrs roots one_each lawful.in_order (lists_have_names files lawful) with_roots) one_each
    lawful with_roots (recursion_from_All _ roots hashed)

pub paths_in_order : IsTotalOrder path_cmp
paths_in_order = path_order

pub folder_before_inside : (folder path : List (List ℕ)) → is_inside folder path ≡ true → path_cmp folder path ≡ Less
folder_before_inside = inside_after

pub roots_by_index : (files : List (List (List ℕ) × ℕ)) (roots : List (Option (List ℕ))) → length roots ≡ length files
    → ((k : ℕ) (file : List (List ℕ) × ℕ) (root : Option (List ℕ)) → k < length files
    → HasItsRoot (get_or files k file) (get_or roots k root))
    → AllZip HasItsRoot files roots
roots_by_index = rooted_by_index

pub at_indices : {X : Type 0} (xs : List X) (d : X) (indices : List ℕ) → AreIndices indices → length indices ≡ length xs
    → IsPermutation xs (map (λ index. get_or xs index d) indices)
at_indices = moved_to_indices

pub rising_paths : (tree : Data) → HasRisingKeys tree
    → IsStrictlySortedBy path_cmp (map (λ (file : TreeFile). file.path) (files_of_tree tree))
rising_paths = paths_rise

pub paths_of_read_files : (tree : Data) → tree_fault tree ≡ None
    → All (λ (file : TreeFile). IsFilePath file.path) (files_of_tree tree)
paths_of_read_files = read_paths

pub roots_of_read_files : (tree : Data) → tree_fault tree ≡ None
    → AllZip HasItsRoot (map (λ (file : TreeFile). (file.path, file.length)) (files_of_tree tree))
    (map (λ (file : TreeFile). file.root) (files_of_tree tree))
roots_of_read_files = read_roots

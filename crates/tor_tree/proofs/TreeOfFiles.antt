-- The files of a list, with their roots, are what their tree describes.
use Rattle.tor_tree.proofs.Cited.{◌≡◌, ℕ, suc, List, [], ◌∷◌, length, map, Option}
use Rattle.tor_tree.proofs.Cited.{refl, ap, arith, AllByRecursion, AllZip, recursion_from_All}
use Rattle.tor_tree.proofs.Cited.{paths_of, file_of, properties_for, HasItsRoot, lettered_files, HasNames}
use Rattle.tor_tree.proofs.Cited.{Attr, files_below, with_properties}
use Rattle.tor_tree.proofs.LetteredProperties.{made_file}
use Rattle.tor_tree.proofs.MadeTree.{AreReady}

pub one_root_each : (files : List (List (List ℕ) × ℕ)) (roots : List (Option (List ℕ))) → AllZip HasItsRoot files roots
    → length roots ≡ length files
one_root_each [] [] h = refl
one_root_each [] (root ∷ roots) h = absurd h
one_root_each (file ∷ files) [] h = absurd h
one_root_each (file ∷ files) (root ∷ roots) h = ap suc (one_root_each files roots h.1)

pub ready_files : (files : List (List (List ℕ) × ℕ)) (attrs : List Attr) (roots : List (Option (List ℕ)))
    → AllZip HasItsRoot files roots → AllByRecursion (λ file. HasNames file.0) files
    → AreReady (with_properties files attrs roots)
ready_files [] attrs roots h named = tt
ready_files (file ∷ files) [] roots h named = tt
ready_files (file ∷ files) (attr ∷ attrs) [] h named = tt
ready_files (file ∷ files) (attr ∷ attrs) (root ∷ roots) h named = (
  (recursion_from_All _ file.0 named.0, (attr, file.1, root, refl, h.0)),
  ready_files files attrs roots h.1 named.1,
)

pub described : (files : List (List (List ℕ) × ℕ)) (attrs : List Attr) (roots : List (Option (List ℕ)))
    → AllZip HasItsRoot files roots
    → map file_of (with_properties files attrs roots) ≡ lettered_files files attrs roots
described [] attrs roots h = refl
described (file ∷ files) [] roots h = refl
described (file ∷ files) (attr ∷ attrs) [] h = refl
described (file ∷ files) (attr ∷ attrs) (root ∷ roots) h =
    rw (made_file file.0 attr file.1 root h.0, described files attrs roots h.1) refl

pub paths_with : (files : List (List (List ℕ) × ℕ)) (attrs : List Attr) (roots : List (Option (List ℕ)))
    → length attrs ≡ length files → length roots ≡ length files
    → map (λ file. file.0) (with_properties files attrs roots) ≡ paths_of files
paths_with [] attrs roots one_each e = refl
paths_with (file ∷ files) [] roots one_each e = absurd (omega arith)
paths_with (file ∷ files) (attr ∷ attrs) [] one_each e = absurd (omega arith)
paths_with (file ∷ files) (attr ∷ attrs) (root ∷ roots) one_each e =
    ap (λ paths. file.0 ∷ paths) (paths_with files attrs roots (omega arith) (omega arith))

-- seen from no names down, files are as they are
pub below_none : (files : List (List (List ℕ) × ℕ)) (attrs : List Attr) (roots : List (Option (List ℕ)))
    → files_below 0 files attrs roots ≡ with_properties files attrs roots
below_none [] attrs roots = refl
below_none (file ∷ files) [] roots = refl
below_none (file ∷ files) (attr ∷ attrs) [] = refl
below_none (file ∷ files) (attr ∷ attrs) (root ∷ roots) =
    ap (λ rest. (file.0, properties_for attr file.1 root) ∷ rest) (below_none files attrs roots)

-- The file tree of files is a lawful tree, two dictionaries deeper than its longest path.
use Rattle.tor_tree.proofs.Cited.{ℕ, zero, suc, ◌+◌, ◌<◌, ◌≤◌, ◌^◌, Bool, true, false, cond, List, [], ◌∷◌, length}
use Rattle.tor_tree.proofs.Cited.{Option, arith, AllByRecursion, Data, integer, string, list}
use Rattle.tor_tree.proofs.Cited.{dictionary, Pairs, no_pairs, pair, HasSmallIntegers, IsLawfulWithin}
use Rattle.tor_tree.proofs.Cited.{PairsHaveSmallIntegers, HasRisingKeys, depth, pairs_depth, name_eq, properties_for}
use Rattle.tor_tree.proofs.Cited.{Attr, file_tree, pairs_of_files, put_first, put_inside, put_under, with_properties}
use Rattle.tor_tree.proofs.LetteredProperties.{properties_depth, properties_fit}

module _ (n : ℕ) (put : Pairs → Pairs)
    (deep : (room : ℕ) (pairs : Pairs) → suc n ≤ room → pairs_depth pairs ≤ room → pairs_depth (put pairs) ≤ room) where
  deep_new : (room : ℕ) → suc (suc n) ≤ room → suc (pairs_depth (put no_pairs)) ≤ room
  deep_new room few = omega (arith, deep (suc n) no_pairs (omega arith) (omega arith), few)

  deep_inside : (room : ℕ) (folder : Data) → suc (suc n) ≤ room → depth folder ≤ room
      → depth (put_inside put folder) ≤ room
  deep_inside room (integer k) few within = within
  deep_inside room (string bytes) few within = within
  deep_inside room (list items) few within = within
  deep_inside zero (dictionary inside) few within = absurd (omega arith)
  deep_inside (suc room) (dictionary inside) few within =
      omega (arith, deep room inside (omega (arith, few)) (omega (arith, within)))

  deep_under : (name : List ℕ) (room : ℕ) (pairs : Pairs) → suc (suc n) ≤ room → pairs_depth pairs ≤ room
      → pairs_depth (put_under name put pairs) ≤ room
  deep_under name room no_pairs few within = omega (arith, deep_new room few)
  deep_under name room (pair key folder pairs) few within = by_key (name_eq key name)
    where
      by_key : (b : Bool)
          → pairs_depth (cond b (pair key (put_inside put folder) pairs)
          (pair name (dictionary (put no_pairs)) (pair key folder pairs))) ≤ room
      by_key true = omega (arith, deep_inside room folder few (omega (arith, within)), within)
      by_key false = omega (arith, deep_new room few, within)

put_deep : (path : List (List ℕ)) (properties : Data) → depth properties ≤ 1 → (room : ℕ) (pairs : Pairs)
    → suc (length path) ≤ room → pairs_depth pairs ≤ room → pairs_depth (put_first path properties pairs) ≤ room
put_deep [] properties plain room pairs few within = omega (arith, plain, few, within)
put_deep (name ∷ names) properties plain room pairs few within =
    deep_under (length names) (put_first names properties) (put_deep names properties plain) name room pairs few within

module _ (put : Pairs → Pairs)
    (small : (pairs : Pairs) → PairsHaveSmallIntegers pairs → PairsHaveSmallIntegers (put pairs)) where
  small_inside : (folder : Data) → HasSmallIntegers folder → HasSmallIntegers (put_inside put folder)
  small_inside (integer k) h = h
  small_inside (string bytes) h = h
  small_inside (list items) h = h
  small_inside (dictionary inside) h = small inside h

  small_under : (name : List ℕ) (pairs : Pairs) → PairsHaveSmallIntegers pairs
      → PairsHaveSmallIntegers (put_under name put pairs)
  small_under name no_pairs h = (small no_pairs tt, tt)
  small_under name (pair key folder pairs) h = by_key (name_eq key name)
    where
      by_key : (b : Bool)
          → PairsHaveSmallIntegers (cond b (pair key (put_inside put folder) pairs)
          (pair name (dictionary (put no_pairs)) (pair key folder pairs)))
      by_key true = (small_inside folder h.0, h.1)
      by_key false = (small no_pairs tt, h)

put_small : (path : List (List ℕ)) (properties : Data) → HasSmallIntegers properties → (pairs : Pairs)
    → PairsHaveSmallIntegers pairs → PairsHaveSmallIntegers (put_first path properties pairs)
put_small [] properties fits pairs small = (fits, small)
put_small (name ∷ names) properties fits pairs small =
    small_under (put_first names properties) (put_small names properties fits) name pairs small

made_deep : (names : ℕ) (files : List (List (List ℕ) × ℕ)) (attrs : List Attr) (roots : List (Option (List ℕ)))
    → AllByRecursion (λ file. length file.0 ≤ names) files
    → pairs_depth (pairs_of_files (with_properties files attrs roots)) ≤ suc names
made_deep names [] attrs roots few = omega arith
made_deep names (file ∷ files) [] roots few = omega arith
made_deep names (file ∷ files) (attr ∷ attrs) [] few = omega arith
made_deep names (file ∷ files) (attr ∷ attrs) (root ∷ roots) few =
    put_deep file.0 (properties_for attr file.1 root) (properties_depth attr file.1 root) (suc names)
    (pairs_of_files (with_properties files attrs roots)) (omega (arith, few.0))
    (made_deep names files attrs roots few.1)

made_small : (files : List (List (List ℕ) × ℕ)) (attrs : List Attr) (roots : List (Option (List ℕ)))
    → AllByRecursion (λ file. file.1 < 2 ^ 63) files
    → PairsHaveSmallIntegers (pairs_of_files (with_properties files attrs roots))
made_small [] attrs roots small = tt
made_small (file ∷ files) [] roots small = tt
made_small (file ∷ files) (attr ∷ attrs) [] small = tt
made_small (file ∷ files) (attr ∷ attrs) (root ∷ roots) small =
    put_small file.0 (properties_for attr file.1 root) (properties_fit attr file.1 root small.0)
    (pairs_of_files (with_properties files attrs roots)) (made_small files attrs roots small.1)

pub lawful_tree : (names : ℕ) (files : List (List (List ℕ) × ℕ)) (attrs : List Attr) (roots : List (Option (List ℕ)))
    → HasRisingKeys (file_tree files attrs roots) → AllByRecursion (λ file. file.1 < 2 ^ 63) files
    → AllByRecursion (λ file. length file.0 ≤ names) files
    → IsLawfulWithin (names + 2) (file_tree files attrs roots)
lawful_tree names files attrs roots rising small few = record {
  keys = rising;
  integers = made_small files attrs roots small;
  nesting = omega (arith, made_deep names files attrs roots few);
}

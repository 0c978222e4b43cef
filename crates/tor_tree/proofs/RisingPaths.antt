-- The files of a tree whose keys rise are in the order of their paths.
use Rattle.tor_tree.proofs.Cited.{◌≡◌, ℕ, List, [], ◌∷◌, ◌++◌, map, Less, refl, nat_list_cmp_total, AllByRecursion}
use Rattle.tor_tree.proofs.Cited.{IsStrictlySortedBy, tied_itself, Data, integer, string, list, dictionary, Pairs}
use Rattle.tor_tree.proofs.Cited.{no_pairs, pair, keys_of, AreRising, HasRisingKeys, entries_in, entries_of}
use Rattle.tor_tree.proofs.Cited.{files_of_tree, under, name_cmp, path_cmp, TreeFile}
use Rattle.tor_tree.proofs.OneTree.{rising_rest}
use Rattle.tor_tree.proofs.RisingTree.{AreRisingPairs}
use Rattle.tor_tree.proofs.Unmixed.{paths_in, told_paths}

-- the path comes before those of all entries
abbrev IsBeforeAll : List (List ℕ) → List (List (List ℕ) × Data) → Type 0
IsBeforeAll path entries = AllByRecursion (λ later. path_cmp path later ≡ Less) (paths_in entries)

abbrev AreSorted : List (List (List ℕ) × Data) → Type 0
AreSorted entries = IsStrictlySortedBy path_cmp (paths_in entries)

before_both : (path : List (List ℕ)) (inside rest : List (List (List ℕ) × Data)) → IsBeforeAll path inside
    → IsBeforeAll path rest → IsBeforeAll path (inside ++ rest)
before_both path [] rest here later = later
before_both path (entry ∷ inside) rest here later = (here.0, before_both path inside rest here.1 later)

before_under : (key : List ℕ) (path : List (List ℕ)) (inside : List (List (List ℕ) × Data)) → IsBeforeAll path inside
    → IsBeforeAll (key ∷ path) (under key inside)
before_under key path [] before = tt
before_under key path (entry ∷ inside) before =
    (rw (tied_itself nat_list_cmp_total key) before.0, before_under key path inside before.1)

-- what begins with a name comes before all that begin with a later one
before_later : (name key : List ℕ) (names : List (List ℕ)) (inside : List (List (List ℕ) × Data))
    → name_cmp name key ≡ Less → IsBeforeAll (name ∷ names) (under key inside)
before_later name key names [] less = tt
before_later name key names (entry ∷ inside) less = (rw less refl, before_later name key names inside less)

rising_after : (name key : List ℕ) (keys : List (List ℕ)) → name_cmp name key ≡ Less → AreRising (key ∷ keys)
    → AreRising (name ∷ keys)
rising_after name key [] less rising = tt
rising_after name key (next ∷ keys) less rising = (nat_list_cmp_total.trans name key next less rising.0, rising.1)

none_before_empty : (name : List ℕ) → name_cmp name [] ≡ Less → ⊥
none_before_empty [] e = cc
none_before_empty (c ∷ cs) e = cc

before_pairs : (name : List ℕ) (names : List (List ℕ)) (pairs : Pairs) → AreRising (name ∷ keys_of pairs)
    → IsBeforeAll (name ∷ names) (entries_in pairs)
before_pairs name names no_pairs rising = tt
before_pairs name names (pair [] properties pairs) rising = absurd (none_before_empty name rising.0)
before_pairs name names (pair (c ∷ cs) folder pairs) rising =
    before_both (name ∷ names) (under (c ∷ cs) (entries_of folder)) (entries_in pairs)
    (before_later name (c ∷ cs) names (entries_of folder) rising.0)
    (before_pairs name names pairs (rising_after name (c ∷ cs) (keys_of pairs) rising.0 rising.1))

sorted_both : (name : List ℕ) (inside rest : List (List (List ℕ) × Data)) → AreSorted inside → AreSorted rest
    → ((names : List (List ℕ)) → IsBeforeAll (name ∷ names) rest) → AreSorted (under name inside ++ rest)
unfolding IsStrictlySortedBy
sorted_both name [] rest here later before = later
sorted_both name (entry ∷ inside) rest here later before = (
  before_both (name ∷ entry.0) (under name inside) rest (before_under name entry.0 inside here.0) (before entry.0),
  sorted_both name inside rest here.1 later before,
)

-- the empty path comes before those of later keys
empty_before : (pairs : Pairs) → AreRising ([] ∷ keys_of pairs) → IsBeforeAll [] (entries_in pairs)
empty_before no_pairs rising = tt
empty_before (pair [] properties pairs) rising = absurd (none_before_empty [] rising.0)
empty_before (pair (c ∷ cs) folder pairs) rising =
    before_both [] (under (c ∷ cs) (entries_of folder)) (entries_in pairs) (under_some (entries_of folder))
    (empty_before pairs (rising_after [] (c ∷ cs) (keys_of pairs) rising.0 rising.1))
  where
    under_some : (inside : List (List (List ℕ) × Data)) → IsBeforeAll [] (under (c ∷ cs) inside)
    under_some [] = tt
    under_some (entry ∷ inside) = (refl, under_some inside)

none_sorted : AreSorted []
unfolding IsStrictlySortedBy
none_sorted = tt

with_first : (properties : Data) (entries : List (List (List ℕ) × Data)) → IsBeforeAll [] entries → AreSorted entries
    → AreSorted (([], properties) ∷ entries)
unfolding IsStrictlySortedBy
with_first properties entries before sorted = (before, sorted)

mutual
  sorted_of : (value : Data) → HasRisingKeys value → AreSorted (entries_of value)
  sorted_of (integer n) rising = none_sorted
  sorted_of (string bytes) rising = none_sorted
  sorted_of (list items) rising = none_sorted
  sorted_of (dictionary pairs) rising = sorted_in pairs rising

  sorted_in : (pairs : Pairs) → AreRisingPairs pairs → AreSorted (entries_in pairs)
  sorted_in no_pairs rising = none_sorted
  sorted_in (pair [] properties pairs) rising =
      with_first properties (entries_in pairs) (empty_before pairs rising.0)
      (sorted_in pairs (rising_rest [] (keys_of pairs) rising.0, rising.1.1))
  sorted_in (pair (c ∷ cs) folder pairs) rising =
      sorted_both (c ∷ cs) (entries_of folder) (entries_in pairs) (sorted_of folder rising.1.0)
      (sorted_in pairs (rising_rest (c ∷ cs) (keys_of pairs) rising.0, rising.1.1))
      (λ names. before_pairs (c ∷ cs) names pairs rising.0)

pub paths_rise : (tree : Data) → HasRisingKeys tree
    → IsStrictlySortedBy path_cmp (map (λ (file : TreeFile). file.path) (files_of_tree tree))
paths_rise tree rising = rw (told_paths (entries_of tree)) (sorted_of tree rising)

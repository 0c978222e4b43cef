-- A tidy tree with rising keys, none of whose paths begins the next, has no folder that is a file too.
use Rattle.tor_tree.proofs.Cited.{◌≡◌, ◌≢◌, ◌==◌, ◌&&◌, ℕ, suc, ◌<◌, false, List, [], ◌∷◌, ◌++◌, length, map, nat_lt}
use Rattle.tor_tree.proofs.Cited.{get_or, refl, ap, arith, AllByRecursion, starts_with, ne_eqb, Data, integer, string}
use Rattle.tor_tree.proofs.Cited.{list, dictionary, Pairs, no_pairs, pair, keys_of, AreRising, HasRisingKeys, TreeFile}
use Rattle.tor_tree.proofs.Cited.{entries_in, entries_of, file_of, entries_mix, folder_mixes, has_empty_key, tree_mixes}
use Rattle.tor_tree.proofs.Cited.{under, name_eq, AreTidy, IsTidy}
use Rattle.tor_tree.proofs.Groups.{name_own}
use Rattle.tor_tree.proofs.OneTree.{rising_rest}
use Rattle.tor_tree.proofs.RisingTree.{AreRisingPairs, first_in}

-- no path is the beginning of the next
abbrev pub AreApart : List (List (List ℕ)) → Type 0
AreApart [] = Unit {0}
AreApart (path ∷ []) = Unit {0}
AreApart (path ∷ next ∷ paths) = (starts_with name_eq next path ≡ false) × AreApart (next ∷ paths)

abbrev pub paths_in : List (List (List ℕ) × Data) → List (List (List ℕ))
paths_in entries = map (λ entry. entry.0) entries

-- the files of entries have their paths
pub told_paths : (entries : List (List (List ℕ) × Data))
    → map (λ (file : TreeFile). file.path) (map file_of entries) ≡ paths_in entries
told_paths [] = refl
told_paths ((path, properties) ∷ entries) = ap (λ paths. path ∷ paths) (told_paths entries)

pub apart_from_indices : (paths : List (List (List ℕ)))
    → ((k : ℕ) → suc k < length paths → starts_with name_eq (get_or paths (suc k) []) (get_or paths k []) ≡ false)
    → AreApart paths
apart_from_indices [] each = tt
apart_from_indices (path ∷ []) each = tt
apart_from_indices (path ∷ next ∷ paths) each =
    (each 0 (omega arith), apart_from_indices (next ∷ paths) (λ k lt. each (suc k) (omega (arith, lt))))

apart_under : (key : List ℕ) (inside rest : List (List (List ℕ) × Data))
    → AreApart (paths_in (under key inside ++ rest)) → AreApart (paths_in inside)
apart_under key [] rest apart = tt
apart_under key (entry ∷ []) rest apart = tt
apart_under key (entry ∷ next ∷ inside) rest apart =
    (rw (name_own key) at apart.0, apart_under key (next ∷ inside) rest apart.1)

apart_after : (inside rest : List (List (List ℕ) × Data)) → AreApart (paths_in (inside ++ rest))
    → AreApart (paths_in rest)
apart_after [] rest apart = apart
apart_after (entry ∷ []) [] apart = tt
apart_after (entry ∷ []) (next ∷ rest) apart = apart.1
apart_after (entry ∷ next ∷ inside) rest apart = apart_after (next ∷ inside) rest apart.1

named_key : (c : ℕ) (cs : List ℕ) → (length (c ∷ cs) == 0) ≡ false
named_key c cs = ne_eqb (length (c ∷ cs)) 0 (λ e. absurd (omega arith))

later_named : (c : ℕ) (cs : List ℕ) (pairs : Pairs) → AreRising ((c ∷ cs) ∷ keys_of pairs) → has_empty_key pairs ≡ false
later_named c cs no_pairs rising = refl
later_named c cs (pair [] properties pairs) rising = cc
later_named c cs (pair (d ∷ ds) folder pairs) rising = rw (named_key d ds, later_named d ds pairs rising.1) refl

-- the empty key stands alone
alone : (pairs : Pairs) → AreTidy pairs → AreRising (keys_of pairs) → AreApart (paths_in (entries_in pairs))
    → (has_empty_key pairs && nat_lt 1 (length (keys_of pairs))) ≡ false
alone no_pairs tidy rising apart = refl
alone (pair [] properties no_pairs) tidy rising apart = refl
alone (pair [] properties (pair [] others pairs)) tidy rising apart = cc
alone (pair [] properties (pair (c ∷ cs) folder pairs)) tidy rising apart =
    let first = first_in folder tidy.1.1 tidy.1.0 in
    let shown = rw first.2 at apart in
    cc
alone (pair (c ∷ cs) folder pairs) tidy rising apart = rw (named_key c cs, later_named c cs pairs rising) refl

mutual
  folder_unmixed : (value : Data) → IsTidy value → HasRisingKeys value → AreApart (paths_in (entries_of value))
      → folder_mixes value ≡ false
  folder_unmixed (integer n) tidy rising apart = refl
  folder_unmixed (string bytes) tidy rising apart = refl
  folder_unmixed (list items) tidy rising apart = refl
  folder_unmixed (dictionary pairs) tidy rising apart =
      rw (alone pairs tidy rising.0 apart, entries_unmixed pairs tidy rising apart) refl

  entries_unmixed : (pairs : Pairs) → AreTidy pairs → AreRisingPairs pairs → AreApart (paths_in (entries_in pairs))
      → entries_mix pairs ≡ false
  entries_unmixed no_pairs tidy rising apart = refl
  entries_unmixed (pair [] properties pairs) tidy rising apart =
      entries_unmixed pairs tidy.1 (rising_rest [] (keys_of pairs) rising.0, rising.1.1)
      (apart_after (([], properties) ∷ []) (entries_in pairs) apart)
  entries_unmixed (pair (c ∷ cs) folder pairs) tidy rising apart =
      rw (
        folder_unmixed folder tidy.1 rising.1.0 (apart_under (c ∷ cs) (entries_of folder) (entries_in pairs) apart),
        entries_unmixed pairs tidy.2 (rising_rest (c ∷ cs) (keys_of pairs) rising.0, rising.1.1)
            (apart_after (under (c ∷ cs) (entries_of folder)) (entries_in pairs) apart),
      )
      refl

-- no entry is the tree itself
abbrev pub HavePaths : List (List (List ℕ) × Data) → Type 0
HavePaths entries = AllByRecursion (λ entry. entry.0 ≢ []) entries

paths_after : (inside rest : List (List (List ℕ) × Data)) → HavePaths (inside ++ rest) → HavePaths rest
paths_after [] rest h = h
paths_after (entry ∷ inside) rest h = paths_after inside rest h.1

no_empty_key : (pairs : Pairs) → HavePaths (entries_in pairs) → has_empty_key pairs ≡ false
no_empty_key no_pairs h = refl
no_empty_key (pair [] properties pairs) h = absurd (h.0 refl)
no_empty_key (pair (c ∷ cs) folder pairs) h =
    rw (named_key c cs, no_empty_key pairs (paths_after (under (c ∷ cs) (entries_of folder)) (entries_in pairs) h)) refl

pub unmixed : (tree : Data) → IsTidy tree → HasRisingKeys tree → AreApart (paths_in (entries_of tree))
    → HavePaths (entries_of tree) → tree_mixes tree ≡ false
unmixed (integer n) tidy rising apart have = refl
unmixed (string bytes) tidy rising apart have = refl
unmixed (list items) tidy rising apart have = refl
unmixed (dictionary pairs) tidy rising apart have =
    rw (no_empty_key pairs have, entries_unmixed pairs tidy rising apart) refl

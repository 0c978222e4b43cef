-- A tidy tree whose paths have names has the shape of a file tree.
use Rattle.tor_tree.proofs.Cited.{◌≡◌, ℕ, true, false, List, [], ◌∷◌, ◌++◌, map, None, refl}
use Rattle.tor_tree.proofs.Cited.{AllByRecursion, list_any, Data, integer, string, list, dictionary, Pairs}
use Rattle.tor_tree.proofs.Cited.{no_pairs, pair, are_entries, entries_in, entries_of, is_folder, under, name_fault}
use Rattle.tor_tree.proofs.Cited.{has_letter, has_negative_length, letter_l, AreTidy}
use Rattle.tor_tree.proofs.Cited.{IsTidy}
use Rattle.tor_tree.proofs.LetteredProperties.{no_link_letter, shaped_properties, whole_length}
use Rattle.tor_tree.proofs.OneTree.{AreTidyFiles}
use Rattle.tor_tree.proofs.RisingTree.{first_in}

abbrev pub HaveNames : List (List (List ℕ) × Data) → Type 0
HaveNames entries = AllByRecursion (λ entry. AllByRecursion (λ name. name_fault name ≡ None) entry.0) entries

names_inside : (key : List ℕ) (inside rest : List (List (List ℕ) × Data)) → HaveNames (under key inside ++ rest)
    → HaveNames inside
names_inside key [] rest named = tt
names_inside key (entry ∷ inside) rest named = (named.0.1, names_inside key inside rest named.1)

names_after : (inside rest : List (List (List ℕ) × Data)) → HaveNames (inside ++ rest) → HaveNames rest
names_after [] rest named = named
names_after (entry ∷ inside) rest named = names_after inside rest named.1

first_name : (key : List ℕ) (inside rest : List (List (List ℕ) × Data)) (first : List (List ℕ) × Data)
    (others : List (List (List ℕ) × Data))
    → inside ≡ first ∷ others → HaveNames (under key inside ++ rest) → name_fault key ≡ None
first_name key inside rest first others is named = let shown = rw is at named in shown.0.0

mutual
  pub shaped_folder : (value : Data) → IsTidy value → HaveNames (entries_of value) → is_folder value ≡ true
  shaped_folder (integer n) tidy named = absurd tidy
  shaped_folder (string bytes) tidy named = absurd tidy
  shaped_folder (list items) tidy named = absurd tidy
  shaped_folder (dictionary pairs) tidy named = shaped_entries pairs tidy named

  shaped_entries : (pairs : Pairs) → AreTidy pairs → HaveNames (entries_in pairs) → are_entries pairs ≡ true
  shaped_entries no_pairs tidy named = refl
  shaped_entries (pair [] properties pairs) ((attr, n, root, is, rooted), tidy) named =
      rw (is, shaped_properties attr n root, shaped_entries pairs tidy named.1) refl
  shaped_entries (pair (c ∷ cs) folder pairs) (some, tidy, rest_tidy) named =
      let first = first_in folder tidy some in
      rw (
        first_name (c ∷ cs) (entries_of folder) (entries_in pairs) first.0 first.1 first.2 named,
        shaped_folder folder
            tidy (names_inside (c ∷ cs) (entries_of folder) (entries_in pairs) named),
        shaped_entries pairs rest_tidy (names_after (under (c ∷ cs) (entries_of folder)) (entries_in pairs) named),
      )
      refl

pub no_negative_length : (entries : List (List (List ℕ) × Data)) → AreTidyFiles entries
    → list_any has_negative_length (map (λ entry. entry.1) entries) ≡ false
no_negative_length [] tidy = refl
no_negative_length ((path, properties) ∷ entries) ((attr, n, root, is, rooted), tidy) =
    rw (is, whole_length attr n root, no_negative_length entries tidy) refl

pub no_link : (entries : List (List (List ℕ) × Data)) → AreTidyFiles entries
    → list_any (has_letter letter_l) (map (λ entry. entry.1) entries) ≡ false
no_link [] tidy = refl
no_link ((path, properties) ∷ entries) ((attr, n, root, is, rooted), tidy) =
    rw (is, no_link_letter attr n root, no_link entries tidy) refl

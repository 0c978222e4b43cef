-- The tree of files whose paths rise has rising keys.
use Rattle.tor_tree.proofs.Cited.{◌≡◌, ◌≢◌, ℕ, Bool, true, false, cond, List, [], ◌∷◌, ◌++◌, map}
use Rattle.tor_tree.proofs.Cited.{Ordering, Less, Equal, Greater, refl, sym, ap, ◌∙◌, subst, ordering_then, is_eq}
use Rattle.tor_tree.proofs.Cited.{texts_ties, nat_list_cmp_total, both_ways, tied_itself, AllByRecursion}
use Rattle.tor_tree.proofs.Cited.{IsStrictlySortedBy, Data, integer, string, list, dictionary, Pairs, no_pairs, pair}
use Rattle.tor_tree.proofs.Cited.{keys_of, AreRising, PairsHaveRisingKeys, entries_in, entries_of, under}
use Rattle.tor_tree.proofs.Cited.{name_cmp, name_eq, path_cmp, AreTidy, IsTidy, IsTidyFile}
use Rattle.tor_tree.proofs.Cited.{pairs_of_files, put_first, put_under, put_inside}
use Rattle.tor_tree.proofs.Groups.{name_is, name_own}
use Rattle.tor_tree.proofs.LetteredProperties.{rising_properties}
use Rattle.tor_tree.proofs.MadeTree.{AreReady, made_tidy, made_entries}

abbrev pub AreRisingPairs : Pairs → Type 0
AreRisingPairs pairs = AreRising (keys_of pairs) × PairsHaveRisingKeys pairs

-- the first entry, if there is one, comes after the path
abbrev pub IsBefore : List (List ℕ) → List (List (List ℕ) × Data) → Type 0
IsBefore path [] = Unit {0}
IsBefore path (entry ∷ entries) = path_cmp path entry.0 ≡ Less

-- a tidy folder that is not empty has a first entry
mutual
  pub first_in : (value : Data) → IsTidy value → value ≢ dictionary no_pairs
      → (entry : List (List ℕ) × Data) × (entries : List (List (List ℕ) × Data)) × (entries_of value ≡ entry ∷ entries)
  first_in (integer n) tidy some = absurd tidy
  first_in (string bytes) tidy some = absurd tidy
  first_in (list items) tidy some = absurd tidy
  first_in (dictionary pairs) tidy some = first_of pairs tidy (λ e. some (ap dictionary e))

  first_of : (pairs : Pairs) → AreTidy pairs → pairs ≢ no_pairs
      → (entry : List (List ℕ) × Data) × (entries : List (List (List ℕ) × Data)) × (entries_in pairs ≡ entry ∷ entries)
  first_of no_pairs tidy some = absurd (some refl)
  first_of (pair [] properties pairs) tidy some = (([], properties), entries_in pairs, refl)
  first_of (pair (c ∷ cs) folder pairs) tidy some =
      let inner = first_in folder tidy.1 tidy.0 in (
        ((c ∷ cs) ∷ inner.0.0, inner.0.1),
        under (c ∷ cs) inner.1
            ++ entries_in pairs,
        ap (λ es. under (c ∷ cs) es ++ entries_in pairs) inner.2,
      )

module _ (name : List ℕ) (names : List (List ℕ)) where
  order_of_first : (order rest : Ordering) → (order ≡ Equal → ⊥) → ordering_then order rest ≡ Less → order ≡ Less
  order_of_first Less rest apart h = refl
  order_of_first Equal rest apart h = absurd (apart refl)
  order_of_first Greater rest apart h = cc

  -- another key that comes first comes after the name
  pub less_key : (key : List ℕ) (value : Data) (pairs : Pairs) → AreTidy (pair key value pairs)
      → IsBefore (name ∷ names) (entries_in (pair key value pairs)) → name_eq key name ≡ false
      → name_cmp name key ≡ Less
  less_key [] value pairs tidy before apart = cc
  less_key (c ∷ cs) value pairs tidy before apart =
      let first = first_in value tidy.1 tidy.0 in
      let order : ordering_then (name_cmp name (c ∷ cs)) (path_cmp names first.0.0) ≡ Less = rw first.2 at before in
      order_of_first (name_cmp name (c ∷ cs)) (path_cmp names first.0.0) (λ e. both_ways _ apart
      (rw (name_is name (c ∷ cs) (texts_ties name (c ∷ cs) ∙ ap is_eq e)) (name_own (c ∷ cs)))) order

  pub before_inside : (inside rest : List (List (List ℕ) × Data)) → IsBefore (name ∷ names) (under name inside ++ rest)
      → IsBefore names inside
  before_inside [] rest before = tt
  before_inside (entry ∷ inside) rest before = rw (tied_itself nat_list_cmp_total name) at before

module _ (names : List (List ℕ)) (put : Pairs → Pairs) (rises : (pairs : Pairs) → AreTidy pairs → AreRisingPairs pairs
    → IsBefore names (entries_in pairs) → AreRisingPairs (put pairs)) where
  rising_new : (name key : List ℕ) (value : Data) (pairs : Pairs) → AreRisingPairs (pair key value pairs)
      → name_cmp name key ≡ Less → AreRisingPairs (pair name (dictionary (put no_pairs)) (pair key value pairs))
  rising_new name key value pairs rising less = ((less, rising.0), (rises no_pairs tt (tt, tt) tt, rising.1))

  rising_joined : (name key : List ℕ) (value : Data) (pairs : Pairs) → name ≢ [] → key ≡ name
      → AreTidy (pair key value pairs) → AreRisingPairs (pair key value pairs)
      → IsBefore (name ∷ names) (entries_in (pair key value pairs))
      → AreRisingPairs (pair key (put_inside put value) pairs)
  rising_joined name [] value pairs named same tidy rising before = absurd (named (sym same))
  rising_joined name (c ∷ cs) (dictionary inside) pairs named same tidy rising before =
      let here : IsBefore (name ∷ names) (under name (entries_in inside) ++ entries_in pairs) =
      subst (λ n. IsBefore (name ∷ names) (under n (entries_in inside) ++ entries_in pairs)) same before in (
        rising.0,
        (
          rises inside tidy.1 rising.1.0 (before_inside name names (entries_in inside) (entries_in pairs) here),
          rising.1.1,
        ),
      )
  rising_joined name (c ∷ cs) (integer n) pairs named same tidy rising before = absurd tidy.1
  rising_joined name (c ∷ cs) (string bytes) pairs named same tidy rising before = absurd tidy.1
  rising_joined name (c ∷ cs) (list items) pairs named same tidy rising before = absurd tidy.1

  rising_under : (name : List ℕ) (pairs : Pairs) → name ≢ [] → AreTidy pairs → AreRisingPairs pairs
      → IsBefore (name ∷ names) (entries_in pairs) → AreRisingPairs (put_under name put pairs)
  rising_under name no_pairs named tidy rising before = (tt, (rises no_pairs tt (tt, tt) tt, tt))
  rising_under name (pair key value pairs) named tidy rising before = by_key (name_eq key name) refl
    where
      by_key : (b : Bool) → name_eq key name ≡ b
          → AreRisingPairs (cond b (pair key (put_inside put value) pairs)
          (pair name (dictionary (put no_pairs)) (pair key value pairs)))
      by_key true e = rising_joined name key value pairs named (name_is key name e) tidy rising before
      by_key false e = rising_new name key value pairs rising (less_key name names key value pairs tidy before e)

put_first-rising : (path : List (List ℕ)) (properties : Data) → AllByRecursion (λ name. name ≢ []) path
    → IsTidyFile properties → (pairs : Pairs) → AreTidy pairs → AreRisingPairs pairs → IsBefore path (entries_in pairs)
    → AreRisingPairs (put_first path properties pairs)
put_first-rising [] properties named tidy_file no_pairs tidy rising before =
    (tt, (rw tidy_file.3 (rising_properties tidy_file.0 tidy_file.1 tidy_file.2), tt))
put_first-rising [] properties named tidy_file (pair [] value pairs) tidy rising before = cc
put_first-rising [] properties named tidy_file (pair (c ∷ cs) value pairs) tidy rising before =
    ((refl, rising.0), (rw tidy_file.3 (rising_properties tidy_file.0 tidy_file.1 tidy_file.2), rising.1))
put_first-rising (name ∷ names) properties named tidy_file pairs tidy rising before =
    rising_under names (put_first names properties)
    (put_first-rising names properties named.1 tidy_file) name pairs named.0 tidy rising before

-- the files after the first of sorted ones come after it
pub first_after : (path : List (List ℕ)) (files : List (List (List ℕ) × Data))
    → AllByRecursion (λ later. path_cmp path later ≡ Less) (map (λ f. f.0) files) → IsBefore path files
first_after path [] h = tt
first_after path (file ∷ files) h = h.0

pub made_rising : (files : List (List (List ℕ) × Data)) → AreReady files
    → IsStrictlySortedBy path_cmp (map (λ file. file.0) files) → AreRisingPairs (pairs_of_files files)
unfolding IsStrictlySortedBy
made_rising [] ready sorted = (tt, tt)
made_rising (file ∷ files) ready sorted =
    put_first-rising file.0 file.1 ready.0.0 ready.0.1 (pairs_of_files files) (made_tidy files ready.1)
    (made_rising files ready.1 sorted.1)
    (rw (made_entries files ready.1) (first_after file.0 files sorted.0))

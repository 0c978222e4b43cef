-- A tidy tree with rising keys is the one that its entries are put together in.
use Rattle.tor_tree.proofs.Cited.{◌≡◌, ◌≢◌, ℕ, true, false, List, [], ◌∷◌, ◌++◌, map, Option, Less, refl, sym, ap, ◌∙◌}
use Rattle.tor_tree.proofs.Cited.{texts_ties, nat_list_cmp_total, is_eq, AllByRecursion, Data, integer, string, list}
use Rattle.tor_tree.proofs.Cited.{dictionary, Pairs, no_pairs, pair, keys_of, AreRising, HasRisingKeys, entries_in}
use Rattle.tor_tree.proofs.Cited.{entries_of, file_of, under, name_cmp, name_eq, AreTidy, IsTidy, IsTidyFile}
use Rattle.tor_tree.proofs.Cited.{Attr, IsFileTreeOf, ap₂, below, is_first, pairs_of_files}
use Rattle.tor_tree.proofs.Groups.{name_own, pairs_of_group}
use Rattle.tor_tree.proofs.LetteredProperties.{made_file, made_of}
use Rattle.tor_tree.proofs.RisingTree.{AreRisingPairs, first_in}

below_under : (key : List ℕ) (entries : List (List (List ℕ) × Data)) → map (below 1) (under key entries) ≡ entries
below_under key [] = refl
below_under key (entry ∷ entries) = ap (λ es. entry ∷ es) (below_under key entries)

under_first : (key : List ℕ) (entries : List (List (List ℕ) × Data))
    → AllByRecursion (λ f. is_first key f.0 ≡ true) (under key entries)
under_first key [] = tt
under_first key (entry ∷ entries) = (name_own key, under_first key entries)

-- a later key is another
pub apart_key : (key next : List ℕ) → name_cmp key next ≡ Less → name_eq next key ≡ false
apart_key key next less = texts_ties next key ∙ ap is_eq (nat_list_cmp_total.antisymm next key) ∙ rw less refl

-- the files of later pairs are not in the folder of the first
apart_pairs : (key : List ℕ) (pairs : Pairs) → AreTidy pairs → AreRising (key ∷ keys_of pairs)
    → (f : List (List ℕ) × Data) (fs : List (List (List ℕ) × Data)) → entries_in pairs ≡ f ∷ fs
    → is_first key f.0 ≡ false
apart_pairs key no_pairs tidy rising f fs e = cc
apart_pairs key (pair [] value pairs) tidy rising f fs e = let same : [] ≡ f.0 = cc in rw (← same) refl
apart_pairs key (pair (c ∷ cs) value pairs) tidy rising f fs e =
    let first = first_in value tidy.1 tidy.0 in
    let shown = rw first.2 at e in
    let same : (c ∷ cs) ∷ first.0.0 ≡ f.0 = cc in
    rw (← same) (apart_key key (c ∷ cs) rising.0)

pub rising_rest : (key : List ℕ) (keys : List (List ℕ)) → AreRising (key ∷ keys) → AreRising keys
rising_rest key [] h = tt
rising_rest key (next ∷ keys) h = h.1

first_pair : (key : List ℕ) (inside pairs : Pairs) → key ≢ [] → AreTidy pairs → AreRising (key ∷ keys_of pairs)
    → (first : List (List ℕ) × Data) (others : List (List (List ℕ) × Data)) → entries_in inside ≡ first ∷ others
    → pairs_of_files (entries_in inside) ≡ inside → pairs_of_files (entries_in pairs) ≡ pairs
    → pairs_of_files (under key (entries_in inside) ++ entries_in pairs) ≡ pair key (dictionary inside) pairs
first_pair key inside pairs named tidy rising first others is inner outer =
    let whole = pairs_of_group key named (key ∷ first.0, first.1) (under key others) (entries_in pairs)
    (under_first key (first ∷ others)) (apart_pairs key pairs tidy rising) in
    let here : pairs_of_files (map (below 1) (under key (first ∷ others))) ≡ inside =
    ap pairs_of_files (below_under key (first ∷ others) ∙ sym is) ∙ inner in
    ap (λ es. pairs_of_files (under key es ++ entries_in pairs)) is ∙ whole ∙ rw (here, outer) refl

mutual
  remade_in : (value : Data) → IsTidy value → HasRisingKeys value → value ≢ dictionary no_pairs
      → (inside : Pairs) × (value ≡ dictionary inside) × (pairs_of_files (entries_in inside) ≡ inside)
  remade_in (integer n) tidy rising some = absurd tidy
  remade_in (string bytes) tidy rising some = absurd tidy
  remade_in (list items) tidy rising some = absurd tidy
  remade_in (dictionary pairs) tidy rising some = (pairs, refl, remade pairs tidy rising)

  pub remade : (pairs : Pairs) → AreTidy pairs → AreRisingPairs pairs → pairs_of_files (entries_in pairs) ≡ pairs
  remade no_pairs tidy rising = refl
  remade (pair [] properties pairs) tidy rising =
      ap (pair [] properties) (remade pairs tidy.1 (rising_rest [] (keys_of pairs) rising.0, rising.1.1))
  remade (pair (c ∷ cs) folder pairs) tidy rising =
      let inner = remade_in folder tidy.1 rising.1.0 tidy.0 in
      let first = first_in folder tidy.1 tidy.0 in
      let outer = remade pairs tidy.2 (rising_rest (c ∷ cs) (keys_of pairs) rising.0, rising.1.1) in
      let entries : entries_in inner.0 ≡ first.0 ∷ first.1 = ap entries_of (sym inner.1) ∙ first.2 in
      rw inner.1 (first_pair (c ∷ cs) inner.0 pairs (λ e. cc) tidy.2 rising.0 first.0 first.1 entries inner.2 outer)

abbrev pub AreTidyFiles : List (List (List ℕ) × Data) → Type 0
AreTidyFiles files = AllByRecursion (λ file. IsTidyFile file.1) files

tidy_under : (key : List ℕ) (files rest : List (List (List ℕ) × Data)) → AreTidyFiles files → AreTidyFiles rest
    → AreTidyFiles (under key files ++ rest)
tidy_under key [] rest tidy others = others
tidy_under key (file ∷ files) rest tidy others = (tidy.0, tidy_under key files rest tidy.1 others)

mutual
  pub tidy_of : (value : Data) → IsTidy value → AreTidyFiles (entries_of value)
  tidy_of (integer n) tidy = tt
  tidy_of (string bytes) tidy = tt
  tidy_of (list items) tidy = tt
  tidy_of (dictionary pairs) tidy = tidy_entries pairs tidy

  tidy_entries : (pairs : Pairs) → AreTidy pairs → AreTidyFiles (entries_in pairs)
  tidy_entries no_pairs tidy = tt
  tidy_entries (pair [] properties pairs) tidy = (tidy.0, tidy_entries pairs tidy.1)
  tidy_entries (pair (c ∷ cs) folder pairs) tidy =
      tidy_under (c ∷ cs) (entries_of folder) (entries_in pairs) (tidy_of folder tidy.1) (tidy_entries pairs tidy.2)

-- two tidy files that say the same are the same
same_file : (one other : List (List ℕ) × Data) → IsTidyFile one.1 → IsTidyFile other.1 → file_of one ≡ file_of other
    → one ≡ other
same_file (path, one) (other_path, other) (attr, n, root, is, rooted) (letters, m, other_root, other_is, other_rooted)
    same =
    let made_same : made_of path attr n root ≡ made_of other_path letters m other_root =
    sym (made_file path attr n root rooted) ∙ rw (is, other_is) at same
    ∙ made_file other_path letters m other_root other_rooted in
    let paths = ap (λ file. file.path) made_same in
    let lengths = ap (λ file. file.length) made_same in
    let roots = ap (λ file. file.root) made_same in
    let attrs : attr ≡ letters =
    ap₂ (λ exec hidden. record { exec = exec; hidden = hidden }) (ap (λ file. file.exec) made_same)
    (ap (λ file. file.hidden) made_same) in
    rw (is, other_is, paths, lengths, roots, attrs) refl

same_entries : (ones others : List (List (List ℕ) × Data)) → AreTidyFiles ones → AreTidyFiles others
    → map file_of ones ≡ map file_of others → ones ≡ others
same_entries [] [] tidy other_tidy same = refl
same_entries [] (other ∷ others) tidy other_tidy same = cc
same_entries (one ∷ ones) [] tidy other_tidy same = cc
same_entries (one ∷ ones) (other ∷ others) tidy other_tidy same =
    let head : file_of one ≡ file_of other = cc in
    let tail : map file_of ones ≡ map file_of others = cc in
    rw (same_file one other tidy.0 other_tidy.0 head, same_entries ones others tidy.1 other_tidy.1 tail) refl

as_pairs : (tree : Data) → IsTidy tree → HasRisingKeys tree
    → (pairs : Pairs) × (tree ≡ dictionary pairs) × (pairs_of_files (entries_of tree) ≡ pairs)
as_pairs (integer n) tidy rising = absurd tidy
as_pairs (string bytes) tidy rising = absurd tidy
as_pairs (list items) tidy rising = absurd tidy
as_pairs (dictionary pairs) tidy rising = (pairs, refl, remade pairs tidy rising)

pub one_tree : (files : List (List (List ℕ) × ℕ)) (attrs : List Attr) (roots : List (Option (List ℕ)))
    (one other : Data)
    → IsFileTreeOf files attrs roots one → IsFileTreeOf files attrs roots other → one ≡ other
one_tree files attrs roots one other h k =
    let entries = same_entries (entries_of one) (entries_of other) (tidy_of one h.tidy) (tidy_of other k.tidy)
    (h.described ∙ sym k.described) in
    let first = as_pairs one h.tidy h.keys in
    let second = as_pairs other k.tidy k.keys in
    first.1 ∙ ap dictionary (sym first.2 ∙ ap pairs_of_files entries ∙ second.2) ∙ sym second.1

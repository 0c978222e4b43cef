-- The faults of a tree are those of the entries that were read of it.
use Rattle.tor_tree.proofs.Cited.{◌≡◌, ◌==◌, ℕ, pos, Bool, true, false, not, cond, ◌&&◌, List, [], ◌∷◌, ◌++◌, length}
use Rattle.tor_tree.proofs.Cited.{map, nat_lt, Option, None, Some, is_none, unwrap_or, unsigned_abs, refl, sym, ap, ◌∙◌}
use Rattle.tor_tree.proofs.Cited.{arith, list_any, All, AllByRecursion, int_lt, IsSome, length-map, map-map}
use Rattle.tor_tree.proofs.Cited.{All-from_recursion, or_parts, lt-ltb, eqb-false, not-false, Data, integer, string}
use Rattle.tor_tree.proofs.Cited.{list, dictionary, Pairs, no_pairs, pair, lengths_too_large, entries_of, entries_in}
use Rattle.tor_tree.proofs.Cited.{under, file_of, files_of_tree, has_empty_key, is_folder, lacks_root, properties_in}
use Rattle.tor_tree.proofs.Cited.{tree_fault, tree_mixes, has_negative_length, has_letter, length_of, is_hash}
use Rattle.tor_tree.proofs.Cited.{pieces_root, letter_l, entries_fault, entry_at, file_from, hash_of, path_if_any}
use Rattle.tor_tree.proofs.Cited.{DescribedFile}
use Rattle.tor_tree.proofs.ListFaults.{clear}

-- a test of entries agrees with one of properties
alike : (p : DescribedFile → Bool) (q : Data → Bool) → ((file : List (List ℕ) × Data) → p (entry_at [] file) ≡ q file.1)
    → (files : List (List (List ℕ) × Data))
    → list_any p (map (entry_at []) files) ≡ list_any q (map (λ file. file.1) files)
alike p q same [] = refl
alike p q same (file ∷ files) = rw (same file, alike p q same files) refl

hash_missing : (root : Option (List ℕ)) → is_none (cond (is_hash root) root None) ≡ not (is_hash root)
hash_missing None = refl
hash_missing (Some bytes) = by_length (length bytes == 32)
  where
    by_length : (b : Bool) → is_none (cond b (Some bytes) None) ≡ not b
    by_length true = refl
    by_length false = refl

pub entries_fault-tree : (tree : Data) → is_folder tree ≡ true
    → entries_fault (map (entry_at []) (entries_of tree)) (tree_mixes tree) ≡ tree_fault tree
entries_fault-tree tree shaped =
    let files = entries_of tree in
    let lengths : map (λ (entry : DescribedFile). unsigned_abs entry.properties.length) (map (entry_at []) files)
    ≡ map length_of (properties_in tree) =
    map-map (λ (entry : DescribedFile). unsigned_abs entry.properties.length) (entry_at []) files
    ∙ sym (map-map length_of (λ (file : List (List ℕ) × Data). file.1) files) in
    rw (
      shaped,
      alike (λ entry. int_lt entry.properties.length (pos 0)) has_negative_length (λ _. refl) files,
      length-map files (entry_at []),
      lengths,
      alike (λ entry. entry.properties.link) (has_letter letter_l) (λ _. refl) files,
      alike
          (λ entry. nat_lt 0 (unsigned_abs entry.properties.length) && is_none entry.properties.root) lacks_root
          (λ file. ap (λ b. nat_lt 0 (length_of file.1) && b) (hash_missing (pieces_root file.1))) files,
    )
    (rw length-map refl)

-- a tree without a fault mixes no files and folders, and lacks no root
pub faultless_tree : (tree : Data) → tree_fault tree ≡ None
    → (tree_mixes tree ≡ false) × (list_any lacks_root (properties_in tree) ≡ false)
faultless_tree tree h =
    let a = clear (not (is_folder tree)) _ _ h in
    let b = clear (list_any has_negative_length (properties_in tree)) _ _ a.1 in
    let c = clear (length (properties_in tree) == 0) _ _ b.1 in
    let d = clear (lengths_too_large (map length_of (properties_in tree))) _ _ c.1 in
    let e = clear (list_any (has_letter letter_l) (properties_in tree)) _ _ d.1 in
    let f = clear (tree_mixes tree) _ _ e.1 in
    (f.0, (clear (list_any lacks_root (properties_in tree)) _ _ f.1).0)

-- where no root is missing, an entry gives the file that the tree describes
same_file : (file : List (List ℕ) × Data) → lacks_root file.1 ≡ false → file_from (entry_at [] file) ≡ file_of file
same_file (path, properties) has = rw (same_path path, same_root (length_of properties == 0) refl) refl
  where
    same_path : (p : List (List ℕ)) → unwrap_or (path_if_any ([] ++ p)) [] ≡ p
    same_path [] = refl
    same_path (name ∷ names) = refl

    same_root : (b : Bool) → (length_of properties == 0) ≡ b
        → cond b None (hash_of properties) ≡ cond b None (pieces_root properties)
    same_root true e = refl
    same_root false e =
        let positive : nat_lt 0 (length_of properties) ≡ true =
        lt-ltb 0 (length_of properties) (omega (arith, eqb-false (length_of properties) 0 e)) in
        let hashed : not (is_hash (pieces_root properties)) ≡ false = rw positive at has in
        rw (not-false _ hashed) refl

pub same_files : (files : List (List (List ℕ) × Data)) → list_any lacks_root (map (λ file. file.1) files) ≡ false
    → map file_from (map (entry_at []) files) ≡ map file_of files
same_files [] has = refl
same_files (file ∷ files) has =
    let parts = or_parts (lacks_root file.1) (list_any lacks_root (map (λ f. f.1) files)) has in
    rw (same_file file parts.0, same_files files parts.1) refl

under_paths : (name : List ℕ) (files : List (List (List ℕ) × Data)) (rest : List (List (List ℕ) × Data))
    → AllByRecursion (λ (entry : DescribedFile). IsSome entry.path) (map (entry_at []) rest)
    → AllByRecursion (λ (entry : DescribedFile). IsSome entry.path) (map (entry_at []) (under name files ++ rest))
under_paths name [] rest h = h
under_paths name (file ∷ files) rest h = (refl, under_paths name files rest h)

have_paths : (pairs : Pairs) → has_empty_key pairs ≡ false
    → AllByRecursion (λ (entry : DescribedFile). IsSome entry.path) (map (entry_at []) (entries_in pairs))
have_paths no_pairs named = tt
have_paths (pair [] properties pairs) named = cc
have_paths (pair (c ∷ cs) folder pairs) named = under_paths (c ∷ cs) (entries_of folder) (entries_in pairs)
    (have_paths pairs (or_parts (length (c ∷ cs) == 0) _ named).1)

-- where the tree has not the empty key itself, every entry has a path
pub all_have_paths : (tree : Data) → tree_mixes tree ≡ false
    → All (λ (entry : DescribedFile). IsSome entry.path) (map (entry_at []) (entries_of tree))
all_have_paths (integer n) h = λ k d lt. absurd (omega arith)
all_have_paths (string bytes) h = λ k d lt. absurd (omega arith)
all_have_paths (list items) h = λ k d lt. absurd (omega arith)
all_have_paths (dictionary pairs) h =
    All-from_recursion _ _ (have_paths pairs (or_parts (has_empty_key pairs) _ h).0)

-- what the entries read of a tree tell of it
module _ (tree : Data) (shaped : is_folder tree ≡ true) (entries : List DescribedFile)
    (read : entries ≡ map (entry_at []) (entries_of tree)) (mixed : Bool) (mixes : mixed ≡ tree_mixes tree) where
  pub fault_told : entries_fault entries mixed ≡ tree_fault tree
  fault_told = rw (read, mixes) (entries_fault-tree tree shaped)

  module _ (faultless : None ≡ entries_fault entries mixed) where
    pub tree_faultless : tree_fault tree ≡ None
    tree_faultless = sym (faultless ∙ fault_told)

    pub paths_told : All (λ entry. IsSome entry.path) entries
    paths_told = rw read (all_have_paths tree (faultless_tree tree tree_faultless).0)

    pub files_told : map file_from entries ≡ files_of_tree tree
    files_told = ap (map file_from) read ∙ same_files (entries_of tree) (faultless_tree tree tree_faultless).1

-- A step of the walk through a file tree.
use Rattle.tor_tree.proofs.Cited.{◌≡◌, Bor, ◌==◌, ◌+◌, ◌<◌, ◌≤◌, ◌&&◌, get_or, drop, is_none, Bool, true, ℕ, false, Vec}
use Rattle.tor_tree.proofs.Cited.{Global, List, [], ◌∷◌, ◌++◌, length, map, refl, sym, ap, ◌∙◌, append_assoc, rules}
use Rattle.tor_tree.proofs.Cited.{arith, zero, suc, and_parts, append-nil, drop_more, drop_all, map-append, Data}
use Rattle.tor_tree.proofs.Cited.{dictionary, Pairs, pair, no_pairs, ref_view, ref_pairs_view, ItemRef, RefDict}
use Rattle.tor_tree.proofs.Cited.{ref_lemmas}
use Rattle.tor_tree.proofs.Cited.{entries_in, entries_of, under, are_entries, is_folder, takes_memory, takes_memory_in}
use Rattle.tor_tree.proofs.Cited.{name_fault, are_properties, DescribedFile, entry_at, path_if_any, facts_in}

pub view_dictionary : (pairs : Vec (Bor (List ℕ) × ItemRef) Global)
    → ref_view (RefDict pairs) ≡ dictionary (ref_pairs_view pairs.items)
view_dictionary pairs = search (rules, ref_lemmas)

entry_under : (folder : List (List ℕ)) (name : List ℕ) (file : List (List ℕ) × Data)
    → entry_at folder (name ∷ file.0, file.1) ≡ entry_at (folder ++ name ∷ []) file
entry_under folder name file =
    let same : folder ++ name ∷ file.0 ≡ folder ++ name ∷ [] ++ file.0 = sym (append_assoc folder (name ∷ []) file.0) in
    ap (λ path. record { path = path_if_any path; properties = facts_in file.1 }) same

entries_under : (folder : List (List ℕ)) (name : List ℕ) (files : List (List (List ℕ) × Data))
    → map (entry_at folder) (under name files) ≡ map (entry_at (folder ++ name ∷ [])) files
entries_under folder name [] = refl
entries_under folder name (file ∷ files) = rw (entry_under folder name file, entries_under folder name files) refl

-- the files of a folder below are those of its tree, one name further down
pub added_folder : (folder : List (List ℕ)) (key : List ℕ) (value : Data) → (length key == 0) ≡ false
    → map (entry_at folder) (entries_in (pair key value no_pairs))
    ≡ map (entry_at (folder ++ key ∷ [])) (entries_of value)
added_folder folder [] value named = cc
added_folder folder (c ∷ cs) value named =
    ap (map (entry_at folder)) (append-nil (under (c ∷ cs) (entries_of value)))
    ∙ entries_under folder (c ∷ cs) (entries_of value)

pub ruleset walking = (added_folder, view_dictionary)

-- the pairs from index i on are those of the pair there and of the rest
pub pairs_from : (items : List (Bor (List ℕ) × ItemRef)) (i : ℕ) (p : Bor (List ℕ) × ItemRef) → i < length items
    → p ≡ get_or items i p
    → ref_pairs_view (drop i items) ≡ pair p.0.now (ref_view p.1) (ref_pairs_view (drop (i + 1) items))
pairs_from items i p within is = ap ref_pairs_view (drop_more items i p within) ∙ rw (sym is) refl

shape_split : (key : List ℕ) (value : Data) (pairs : Pairs) → are_entries (pair key value no_pairs) ≡ false
    → are_entries (pair key value pairs) ≡ false
shape_split [] value pairs unshaped = last (are_properties value) (are_entries pairs) unshaped
  where
    last : (a b : Bool) → (a && true) ≡ false → (a && b) ≡ false
    last true b h = cc
    last false b h = refl
shape_split (c ∷ cs) value pairs unshaped =
    last (is_none (name_fault (c ∷ cs))) (is_folder value) (are_entries pairs) unshaped
  where
    last : (a b d : Bool) → (a && (b && true)) ≡ false → (a && (b && d)) ≡ false
    last true true d h = cc
    last true false d h = refl
    last false b d h = refl

entries_split : (key : List ℕ) (value : Data) (pairs : Pairs)
    → entries_in (pair key value pairs) ≡ entries_in (pair key value no_pairs) ++ entries_in pairs
entries_split [] value pairs = refl
entries_split (c ∷ cs) value pairs =
    ap (λ entries. entries ++ entries_in pairs) (sym (append-nil (under (c ∷ cs) (entries_of value))))

shape_rest : (key : List ℕ) (value : Data) (pairs : Pairs) → are_entries (pair key value no_pairs) ≡ true
    → are_entries (pair key value pairs) ≡ are_entries pairs
shape_rest [] value pairs shaped = rw ((and_parts (are_properties value) true shaped).0) refl
shape_rest (c ∷ cs) value pairs shaped =
    let name = and_parts (is_none (name_fault (c ∷ cs))) (is_folder value && true) shaped in
    rw (name.0, (and_parts (is_folder value) true name.1).0) refl

-- the first pair alone decides whether memory is taken; where it has its shape, it is
taken_by_first : (key : List ℕ) (value : Data) (pairs : Pairs)
    → takes_memory_in (pair key value pairs) ≡ takes_memory_in (pair key value no_pairs)
taken_by_first [] value pairs = refl
taken_by_first (c ∷ cs) value pairs = refl

pub shaped_takes : (key : List ℕ) (value : Data) → are_entries (pair key value no_pairs) ≡ true
    → takes_memory_in (pair key value no_pairs) ≡ true
shaped_takes [] value shaped = (and_parts (are_properties value) true shaped).0
shaped_takes (c ∷ cs) value shaped = (and_parts (is_none (name_fault (c ∷ cs))) (is_folder value && true) shaped).0

module _ (item : ItemRef) (pairs : Vec (Bor (List ℕ) × ItemRef) Global) (seen : item ≡ RefDict pairs)
    (items : List (Bor (List ℕ) × ItemRef)) (all : items ≡ pairs.items) (i : ℕ)
    (whole : are_entries (ref_pairs_view (drop i items)) ≡ are_entries (ref_pairs_view items)) where
  as_pairs : ref_view item ≡ dictionary (ref_pairs_view items)
  as_pairs = ap ref_view seen ∙ view_dictionary pairs ∙ ap (λ ps. dictionary (ref_pairs_view ps)) (sym all)

  -- where one pair has not its shape, the folder has not
  pub not_shaped : (p : Bor (List ℕ) × ItemRef) → i < length items → p ≡ get_or items i p
      → are_entries (pair p.0.now (ref_view p.1) no_pairs) ≡ false → is_folder (ref_view item) ≡ false
  not_shaped p within is unshaped =
      ap is_folder as_pairs ∙ sym whole ∙ ap are_entries (pairs_from items i p within is)
      ∙ shape_split p.0.now (ref_view p.1) (ref_pairs_view (drop (i + 1) items)) unshaped

  pub shaped_to_end : length items ≤ i → is_folder (ref_view item) ≡ true
  shaped_to_end past =
      ap is_folder as_pairs ∙ sym whole ∙ ap (λ ps. are_entries (ref_pairs_view ps)) (drop_all i items past)

  pub added_to_end : (folder : List (List ℕ)) (old new : List DescribedFile) → length items ≤ i
      → new ++ map (entry_at folder) (entries_in (ref_pairs_view (drop i items)))
      ≡ old ++ map (entry_at folder) (entries_in (ref_pairs_view items))
      → new ≡ old ++ map (entry_at folder) (entries_of (ref_view item))
  added_to_end folder old new past same =
      let ended : entries_in (ref_pairs_view (drop i items)) ≡ [] =
      ap (λ ps. entries_in (ref_pairs_view ps)) (drop_all i items past) in
      let of_item : entries_of (ref_view item) ≡ entries_in (ref_pairs_view items) = ap entries_of as_pairs in
      rw of_item (sym (append-nil new) ∙ rw ended at same)

  -- what was added of a pair, and what is left
  pub entries_go_on : (folder : List (List ℕ)) (p : Bor (List ℕ) × ItemRef) (now new all : List DescribedFile)
      → i < length items → p ≡ get_or items i p → new ≡ now ++ map (entry_at folder) (entries_in (pair p.0.now (ref_view p.1) no_pairs))
      → now ++ map (entry_at folder) (entries_in (ref_pairs_view (drop i items))) ≡ all
      → new ++ map (entry_at folder) (entries_in (ref_pairs_view (drop (i + 1) items))) ≡ all
  entries_go_on folder p now new all within is added before =
      let rest = ref_pairs_view (drop (i + 1) items) in
      let one = entries_in (pair p.0.now (ref_view p.1) no_pairs) in
      let f = entry_at folder in
      ap (λ entries. entries ++ map f (entries_in rest)) added
      ∙ append_assoc now (map f one) (map f (entries_in rest))
      ∙ ap (λ entries. now ++ entries) (sym (map-append f one (entries_in rest)))
      ∙ ap (λ entries. now ++ map f entries) (sym (entries_split p.0.now (ref_view p.1) rest))
      ∙ ap (λ ps. now ++ map f (entries_in ps)) (sym (pairs_from items i p within is)) ∙ before

  pub shape_goes_on : (p : Bor (List ℕ) × ItemRef) → i < length items → p ≡ get_or items i p
      → are_entries (pair p.0.now (ref_view p.1) no_pairs) ≡ true
      → are_entries (ref_pairs_view (drop (i + 1) items)) ≡ are_entries (ref_pairs_view items)
  shape_goes_on p within is shaped =
      sym (shape_rest p.0.now (ref_view p.1) (ref_pairs_view (drop (i + 1) items)) shaped)
      ∙ ap are_entries (sym (pairs_from items i p within is)) ∙ whole

  -- a pair that has its shape is the first, or the first had it
  pub first_shaped : (p : Bor (List ℕ) × ItemRef) → i < length items → p ≡ get_or items i p
      → takes_memory_in (pair p.0.now (ref_view p.1) no_pairs) ≡ true
      → (0 < i → takes_memory_in (ref_pairs_view items) ≡ true) → takes_memory_in (ref_pairs_view items) ≡ true
  first_shaped p within is taken before = by_index i refl
    where
      by_index : (j : ℕ) → j ≡ i → takes_memory_in (ref_pairs_view items) ≡ true
      by_index zero at =
          let front : ref_pairs_view items ≡ pair p.0.now (ref_view p.1) (ref_pairs_view (drop (i + 1) items)) =
          ap (λ j. ref_pairs_view (drop j items)) at ∙ pairs_from items i p within is in
          ap takes_memory_in front ∙ taken_by_first p.0.now (ref_view p.1) (ref_pairs_view (drop (i + 1) items)) ∙ taken
      by_index (suc j) at = before (omega (arith, at))

  pub taken_here : (p : Bor (List ℕ) × ItemRef) → i < length items → p ≡ get_or items i p
      → takes_memory_in (pair p.0.now (ref_view p.1) no_pairs) ≡ true
      → (0 < i → takes_memory_in (ref_pairs_view items) ≡ true) → takes_memory (ref_view item) ≡ true
  taken_here p within is taken before = ap takes_memory as_pairs ∙ first_shaped p within is taken before

-- Files that are cut each by itself: the nodes of the units are those of the files.
use Rattle.std.proofs.Common.{◌≡◌, ℕ, ◌+◌, ◌-◌, ◌*◌, Bool, true, false, min, Option}
use Rattle.std.proofs.Common.{List, [], ◌∷◌, ◌++◌, length, map, get_or, take, drop, arith, refl, ap, ap₂, ◌∙◌, sym}
use Rattle.std.proofs.Common.{length-drop}
use Rattle.std.proofs.lemmas.Grind.{flat_map-append}
use Rattle.std.proofs.lemmas.List.{length-take, take_min, get_or-drop, drop-drop}
use Rattle.std.specs.Int.{div_ceil}
use Rattle.std.specs.List.{flat_map, range_with_len}
use Rattle.tor_merkle.specs.Block.{run_at}
use Rattle.tor_plan.specs.Entries.{lengths_of_entries, padding_before_next, separate_entry_units}
use Rattle.tor_plan.specs.Entries.{file_unit, units_of_file}
use Rattle.tor_plan.specs.declared.units.PlanUnit.{PlanUnit}
use Rattle.tor_v1.specs.declared.entry.Entry.{Entry}
use Rattle.tor_sums.specs.steps.Hashes.{Node, level_in, node_over, nodes_of_file, nodes_of_unit}

-- two ways to the same list at each element
same_each : {X A B C : Type 0} (f : A → List C) (a : X → A) (g : B → C) (b : X → B)
    → ((x : X) → f (a x) ≡ g (b x) ∷ []) → (xs : List X) → flat_map f (map a xs) ≡ map g (map b xs)
same_each f a g b same [] = refl
same_each f a g b same (x ∷ xs) = ap₂ (λ ys zs. ys ++ zs) (same x) (same_each f a g b same xs)

-- ---- files

module _ (p size : ℕ) (level : Option ℕ) where
  abbrev nodes_in : List (List ℕ) → PlanUnit → List Node
  nodes_in contents = nodes_of_unit p level contents

  abbrev run_node : List ℕ → List ℕ → Node
  run_node content run = node_over p (level_in level (length content) (length run)) run

  module _ (contents : List (List ℕ)) (index : ℕ) (content : List ℕ) (is : get_or contents index [] ≡ content) where
    -- a unit of a file has a run of its content
    node_of_file_unit : (tail k : ℕ) → nodes_in contents (file_unit size index (length content) tail k)
        ≡ run_node content (run_at size content k) ∷ []
    node_of_file_unit tail k =
        let rest = drop (k * size) content in
        let count = min (length content - k * size) size in
        let node : List ℕ → ℕ → ℕ → Node =
        λ xs n m. node_over p (level_in level (length xs) n) (take m (drop (k * size) xs)) in
        let counted : count ≡ min size (length rest) = omega (arith, length-drop (k * size) content) in
        let run : take count rest ≡ run_at size content k = ap (λ n. take n rest) counted ∙ take_min size rest in
        let long : length (run_at size content k) ≡ count =
        length-take size rest ∙ omega (arith, length-drop (k * size) content) in
        ap (λ n. n ∷ []) (ap (λ xs. node xs count count) is
        ∙ ap₂ (λ n xs. node_over p (level_in level (length content) n) xs) (sym long) run)

    -- all units of a file
    nodes_of_cut_file : (tail : ℕ)
        → flat_map (nodes_in contents) (units_of_file size index (length content) tail)
        ≡ nodes_of_file p size level content
    nodes_of_cut_file tail =
        same_each (nodes_in contents) (file_unit size index (length content) tail)
        (run_node content) (run_at size content) (node_of_file_unit tail)
        (range_with_len 0 (div_ceil (length content) size))

  -- a file, and units that have what comes after it
  one_file : (contents : List (List ℕ)) (index m tail : ℕ) (others : List PlanUnit) (lengths : List ℕ)
      → ((rest : List (List ℕ)) → drop (index + 1) contents ≡ rest → map length rest ≡ lengths
      → flat_map (nodes_in contents) others ≡ flat_map (nodes_of_file p size level) rest)
      → (rest : List (List ℕ)) → drop index contents ≡ rest → map length rest ≡ m ∷ lengths
      → flat_map (nodes_in contents) (units_of_file size index m tail ++ others)
      ≡ flat_map (nodes_of_file p size level) rest
  one_file contents index m tail others lengths later [] split fit = cc
  one_file contents index m tail others lengths later (content ∷ rest) split fit =
      let long : length content ≡ m = cc in
      let next : index ≡ index + 0 = omega arith in
      let here : get_or contents index [] ≡ content =
      ap (λ n. get_or contents n []) next ∙ sym (get_or-drop index contents 0 []) ∙ ap (λ xs. get_or xs 0 []) split in
      flat_map-append (nodes_in contents) (units_of_file size index m tail) others
      ∙ ap₂ (λ xs ys. xs ++ ys)
      (ap (λ n. flat_map (nodes_in contents) (units_of_file size index n tail)) (sym long)
      ∙ nodes_of_cut_file contents index content here tail)
      (later rest (sym (drop-drop 1 index contents) ∙ ap (drop 1) split) cc)

  abbrev AreNodesFrom : List (List ℕ) → ℕ → List Entry → Type 0
  AreNodesFrom contents index entries =
      (rest : List (List ℕ)) → drop index contents ≡ rest → map length rest ≡ lengths_of_entries entries
      → flat_map (nodes_in contents) (separate_entry_units size index entries)
      ≡ flat_map (nodes_of_file p size level) rest

  one_entry : (contents : List (List ℕ)) (index : ℕ) (entry : Entry) (pad : Bool) (entries : List Entry)
      → AreNodesFrom contents index entries → AreNodesFrom contents (index + 1) entries
      → AreNodesFrom contents index (record entry { pad = pad } ∷ entries)
  unfolding separate_entry_units
  one_entry contents index entry true entries same later = same
  one_entry contents index entry false entries same later =
      one_file contents index entry.length (padding_before_next entries)
      (separate_entry_units size (index + 1) entries) (lengths_of_entries entries) later

  -- the files of the entries from an index on
  pub nodes_from : (contents : List (List ℕ)) (index : ℕ) (entries : List Entry) → AreNodesFrom contents index entries
  unfolding separate_entry_units
  nodes_from contents index [] [] split fit = refl
  nodes_from contents index [] (content ∷ rest) split fit = cc
  nodes_from contents index (entry ∷ entries) rest split fit =
      one_entry contents index entry entry.pad entries (nodes_from contents index entries)
      (nodes_from contents (index + 1) entries) rest split fit
